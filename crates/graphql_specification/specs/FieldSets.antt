-- When a field set holds, and what a diagnostic says of one.
use Rattle.std.specs.Prelude.{Some, []}
use Rattle.graphql_documents.specs.Selections.{no_fragments, selections_of}
use Rattle.graphql_specification.specs.Selections.{ReachableSelectionsHold, SelectionReport}
use Rattle.graphql_diagnostics.specs.Diagnostics.{IsDiagnostic}
use Rattle.graphql_documents.specs.declared.documents.schemas.Schema.{Schema}
use Rattle.graphql_documents.specs.declared.documents.executables.SelectionSet.{SelectionSet}
use Rattle.graphql_diagnostics.specs.declared.lists.DiagnosticEntry.{DiagnosticEntry}

-- every selection that is reached holds, from the set's own type
abbrev pub FieldSetHolds : Schema → SelectionSet → Type 0
FieldSetHolds schema set = ReachableSelectionsHold (Some schema) [] no_fragments [] (Some set.ty) (selections_of set)

-- the diagnostic names a rule that is broken at a selection that is reached, from the set's own type
abbrev pub FieldSetReport : Schema → SelectionSet → DiagnosticEntry → Type 0
FieldSetReport schema set = IsDiagnostic (SelectionReport (Some schema) no_fragments [] (Some set.ty) (selections_of set))
