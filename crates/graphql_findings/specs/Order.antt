-- The order of what is shown, and what is shown once.
use Rattle.std.specs.Prelude.{◌≡◌, Bool, List, Option, string_bytes}
use Rattle.std.specs.Cmp.Lexicographic.{slice_cmp}
use Rattle.std.specs.List.{All, Any, Contains}
use Rattle.std.specs.List.Sorted.{IsStrictlySortedBy}
use Rattle.std.specs.Option.{option_cmp}
use Rattle.std.specs.Ordering.{is_eq, nat_cmp, ordering_then}
use Rattle.std.specs.declared.cmp.Ordering.{Ordering}
use Rattle.graphql_findings.specs.declared.order.Found.{Found}
use Rattle.graphql_nodes.specs.declared.spans.SourceSpan.{SourceSpan}
use Rattle.graphql_shown_reports.specs.declared.shown.ShownReport.{ShownReport}

-- two reports are one: of one rule, at one place, with one message
pub record IsSameReport (a b : ShownReport) : Type 0 where
  pub location : a.location ≡ b.location
  pub rule : a.rule.now ≡ b.rule.now
  pub message : string_bytes a.message ≡ string_bytes b.message

-- parts of files are in order of their files, of their first bytes, and of their ends
abbrev pub span_cmp : SourceSpan → SourceSpan → Ordering
span_cmp a b = ordering_then (nat_cmp a.file_id.0 b.file_id.0) (ordering_then (nat_cmp a.start b.start) (nat_cmp a.end b.end))

-- no place comes before each place
abbrev pub place_cmp : Option SourceSpan → Option SourceSpan → Ordering
place_cmp = option_cmp span_cmp

-- reports are in order of their places, of their rules, and of their messages
abbrev pub report_cmp : ShownReport → ShownReport → Ordering
report_cmp a b =
    ordering_then (place_cmp a.location b.location)
    (ordering_then (slice_cmp nat_cmp a.rule.now b.rule.now) (slice_cmp nat_cmp (string_bytes a.message) (string_bytes b.message)))

abbrev pub found_cmp : Found → Found → Ordering
found_cmp a b = report_cmp a.report b.report

abbrev pub is_same_found : Found → Found → Bool
is_same_found a b = is_eq (found_cmp a b)

-- one report of these is the same
abbrev pub IsAmong : List Found → Found → Type 0
IsAmong kept x = Any (λ (k : Found). IsSameReport x.report k.report) kept

-- those that are kept are of these, in order and each once; and each of these is one that is kept
pub record AreDistinctOf (found kept : List Found) : Type 0 where
  pub each : All (Contains found) kept
  pub every : All (IsAmong kept) found
  pub ordered : IsStrictlySortedBy found_cmp kept
