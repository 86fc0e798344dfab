-- What is reported of two fields that were put together, for the contracts of the comparisons of groups.
use Rattle.std.specs.Prelude.{◌≡◌, [], ◌∷◌, ◌++◌, Option, Some, None, Result, MatchResult}
use Rattle.graphql_diagnostics.specs.Diagnostics.{entries}
use Rattle.graphql_specification.specs.Merging.{Pass, FieldSelection}
use Rattle.graphql_specification.specs.MergedSets.{ConflictsWith, ConflictReport}
use Rattle.graphql_diagnostics.specs.Reports.{Appends}
use Rattle.graphql_diagnostics.specs.declared.lists.DiagnosticEntry.{DiagnosticEntry}
use Rattle.graphql_diagnostics.specs.declared.lists.DiagnosticList.{DiagnosticList}
use Rattle.graphql_documents.specs.declared.documents.directives.Argument.{Argument}
use Rattle.graphql_documents.specs.declared.documents.schemas.Schema.{Schema}
use Rattle.graphql_documents.specs.declared.documents.values.Value.{Value}
use Rattle.graphql_nodes.specs.Nodes.{SameNode}
use Rattle.graphql_nodes.specs.declared.nodes.Node.{Node}

-- a call that reports the conflict of two fields: where it answers there is one report more, which says so;
-- where memory is refused there is none
abbrev pub ConflictEntryReport : {T E : Type 0} → Result T E → Schema → Pass → FieldSelection → FieldSelection → DiagnosticList → DiagnosticList → Type 0
ConflictEntryReport result schema pass x y old new =
    MatchResult result
    (λ _. (entry : DiagnosticEntry) × (entries new ≡ entries old ++ entry ∷ []) × ConflictReport schema pass x y entry.details entry.location)
    (λ _. entries new ≡ entries old)

-- a call that compares a field with the first of its group: where it answers there is one report more if
-- they do not agree, and none otherwise; where memory is refused there is none
abbrev pub ComparesField : {T E : Type 0} → Result T E → Schema → Pass → FieldSelection → FieldSelection → DiagnosticList → DiagnosticList → Type 0
ComparesField result schema pass first x old new =
    MatchResult result
    (λ _. Appends (ConflictsWith schema pass first (x ∷ [])) (entries old) (entries new))
    (λ _. entries new ≡ entries old)

-- the value of the argument, or none where there is none
abbrev pub IsValueOf : Option (Node Argument) → Option (Node Value) → Type 0
IsValueOf (Some argument) (Some value) = SameNode argument.value.value.value value
IsValueOf None None = Unit {0}
IsValueOf _ _ = ⊥
