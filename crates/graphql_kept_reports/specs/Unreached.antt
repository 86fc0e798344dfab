-- Fragments that no operation reaches, and operations that spread them. Specification: 2.3 Operations, 2.8 Fragments, 5.8.3 All Variable Uses Defined
use Rattle.std.specs.Prelude.{◌&&◌, ◌++◌, ◌==◌, Bool, List, None, Option, Some, codes, false, not, true, ℕ}
use Rattle.std.specs.List.{list_any}
use Rattle.graphql_diagnostics.specs.Diagnostics.{entries}
use Rattle.graphql_diagnostics.specs.declared.data.DiagnosticData.TheVariants.{UndefinedVariable, UnusedFragment}
use Rattle.graphql_diagnostics.specs.declared.details.Details.TheVariants.{Diagnostic}
use Rattle.graphql_diagnostics.specs.declared.details.Details.{Details}
use Rattle.graphql_diagnostics.specs.declared.lists.DiagnosticEntry.{DiagnosticEntry}
use Rattle.graphql_diagnostics.specs.declared.lists.DiagnosticList.{DiagnosticList}
use Rattle.graphql_nodes.specs.declared.spans.FileId.{FileId}
use Rattle.graphql_nodes.specs.declared.spans.SourceSpan.{SourceSpan}
use Rattle.graphql_kept_reports.specs.Doubtful.{is_doubtful}
use Rattle.graphql_kept_reports.specs.declared.doubts.Doubts.{Doubts}

-- it says that no operation reaches a fragment
abbrev pub names_unreached : Details → Bool
names_unreached (Diagnostic (UnusedFragment name)) = true
names_unreached _ = false

abbrev pub is_of_unreached : DiagnosticEntry → Bool
is_of_unreached e = names_unreached e.details

-- one of these reports does
abbrev pub has_unreached : DiagnosticList → Bool
has_unreached list = list_any is_of_unreached (entries list)

-- an operation that spreads the fragment of this name alone, and has its name
abbrev pub spreading : List ℕ → List ℕ
spreading name = codes "query " ++ (name ++ (codes "{..." ++ (name ++ codes "}\n")))

-- the place is in another text
abbrev pub is_elsewhere : FileId → Option SourceSpan → Bool
is_elsewhere further None = false
is_elsewhere further (Some span) = not (span.file_id.0 == further.0)

-- it says that a variable is not defined
abbrev pub is_of_variable : Details → Bool
is_of_variable (Diagnostic (UndefinedVariable name)) = true
is_of_variable _ = false

-- the report is known to be true of a fragment by itself: it is in another text than the operations that spread such fragments, does not say that a variable is
-- not defined, and could not be false of the whole texts
abbrev pub is_known_of_fragment : Doubts → FileId → DiagnosticEntry → Bool
is_known_of_fragment doubts further e = is_elsewhere further e.location && (not (is_of_variable e.details) && not (is_doubtful doubts e))
