use Rattle.std.proofs.Common.{take}
use Rattle.graphql_document_building.specs.FieldDefinitions.{schema_of}
use Rattle.graphql_document_building.specs.Selections.{SelectionsSay}
use Rattle.graphql_document_building.proofs.selections.+selections.Given as goal

abbrev pub invariant-build_selection_set-loop-tree : goal.invariant-build_selection_set-loop-tree
invariant-build_selection_set-loop-tree l = SelectionsSay (schema_of l.definitions) l.ty (take l.tree-index l.trees) l.selections.items
