-- Reports on what is left of texts that could be false of the whole texts. Specification: 5.2.3.1 Single Root Field, 5.3.2 Field Selection Merging,
-- 5.5.1.4 Fragments Must Be Used, 5.5.2.1 Fragment Spread Target Defined, 5.8.4 All Variables Used
use Rattle.std.specs.Prelude.{◌&&◌, ◌||◌, Bool, codes, false, true}
use Rattle.std.specs.BTreeSet.{contains_text}
use Rattle.std.specs.List.{list_any}
use Rattle.std.specs.Str.{bytes_eq}
use Rattle.graphql_diagnostics.specs.Diagnostics.{entries}
use Rattle.graphql_diagnostics.specs.declared.build_errors.BuildError.TheVariants as error
use Rattle.graphql_diagnostics.specs.declared.build_errors.BuildError.{BuildError}
use Rattle.graphql_diagnostics.specs.declared.data.DiagnosticData.TheVariants as report
use Rattle.graphql_diagnostics.specs.declared.data.DiagnosticData.{DiagnosticData}
use Rattle.graphql_diagnostics.specs.declared.details.Details.TheVariants as details
use Rattle.graphql_diagnostics.specs.declared.details.Details.{Details}
use Rattle.graphql_diagnostics.specs.declared.lists.DiagnosticEntry.{DiagnosticEntry}
use Rattle.graphql_diagnostics.specs.declared.lists.DiagnosticList.{DiagnosticList}
use Rattle.graphql_kept_reports.specs.declared.doubts.Doubts.{Doubts}

-- the rule asks whether something is absent, and the whole texts have it: the use of a variable in a part that is left out, or maybe in a fragment that
-- is spread there; the spread of a fragment, if a spread is left out; its definition
abbrev pub asks_for_what_is_there : Doubts → DiagnosticData → Bool
asks_for_what_is_there doubts (report.UnusedVariable name) =
    contains_text doubts.left_out name.text || (doubts.has_spread && contains_text doubts.used name.text)
asks_for_what_is_there doubts (report.UnusedFragment name) = doubts.has_spread && contains_text doubts.spread name.text
asks_for_what_is_there doubts (report.UndefinedFragment name) = contains_text doubts.defined name.text
asks_for_what_is_there doubts _ = false

-- the report could be of a field `__typename`
abbrev pub may_be_of_type_name : BuildError → Bool
may_be_of_type_name (error.SubscriptionUsesIntrospection _ _) = true
may_be_of_type_name (error.SubscriptionUsesMultipleFields _ _) = true
may_be_of_type_name (error.ConflictingFieldName alias _ _ _ _) = bytes_eq alias.text (codes "__typename")
may_be_of_type_name (error.ConflictingFieldArgument alias _ _ _ _ _ _) = bytes_eq alias.text (codes "__typename")
may_be_of_type_name (error.ConflictingFieldType alias _ _ _ _ _ _) = bytes_eq alias.text (codes "__typename")
may_be_of_type_name _ = false

-- the same of what is reported
abbrev pub are_doubtful : Doubts → Details → Bool
are_doubtful doubts (details.Diagnostic broken) = asks_for_what_is_there doubts broken
are_doubtful doubts (details.Build broken) = doubts.has_type_name && may_be_of_type_name broken
are_doubtful doubts _ = false

-- the report could be false of the whole texts
abbrev pub is_doubtful : Doubts → DiagnosticEntry → Bool
is_doubtful doubts e = are_doubtful doubts e.details

-- one of the reports could
abbrev pub has_doubtful : Doubts → DiagnosticList → Bool
has_doubtful doubts list = list_any (is_doubtful doubts) (entries list)
