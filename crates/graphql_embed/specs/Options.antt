-- What options say.
use Rattle.std.specs.Prelude.{◌==◌, ◌≤◌, ℕ, if◌then◌else◌}
use Rattle.graphql_parser.specs.declared.bounds.Bounds.{Bounds}
use Rattle.graphql_parser.specs.declared.bounds.TheConstants as bounds
use Rattle.graphql_answers.specs.Answers.{default_limits}
use Rattle.graphql_answers.specs.declared.answers.Refusal.{Refusal}
use Rattle.graphql_answers.specs.declared.answers.Refusal.TheVariants.{ShortOptions}
use Rattle.graphql_answers.specs.declared.limits.Limits.{Limits}
use Rattle.graphql_embed.specs.declared.options.Options.{Options}

-- 0 says the default
abbrev pub or_default : ℕ → ℕ → ℕ
or_default given default = if given == 0 then default else given

-- the bounds that options say
abbrev pub bounds_of : Options → Bounds
bounds_of options = record {
  tokens = or_default options.tokens (bounds.Bounds.DEFAULT).tokens;
  depth = or_default options.depth (bounds.Bounds.DEFAULT).depth;
  reach = or_default options.reach (bounds.Bounds.DEFAULT).reach;
  work = or_default options.work (bounds.Bounds.DEFAULT).work;
  reports = (bounds.Bounds.DEFAULT).reports;
  report_bytes = (bounds.Bounds.DEFAULT).report_bytes;
}

-- the limits that options say
abbrev pub limits_of : Options → Limits
limits_of options = record { bounds = bounds_of options; reports = or_default options.max_reports default_limits.reports }

-- options have six numbers of eight bytes, or more that this version does not know
abbrev pub AreWhole : Options → Type 0
AreWhole options = 48 ≤ options.size

-- why there is no answer: options are too short, or this is refused
pub data IsRefusalWith (options : Options) (refuses : Refusal → Type 0) : Refusal → Type 0 where
  options_are_short : ¬ AreWhole options → IsRefusalWith options refuses ShortOptions
  is_refused : {refusal : Refusal} → refuses refusal → IsRefusalWith options refuses refusal
