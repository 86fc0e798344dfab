use Rattle.std.proofs.Common.{◌≡◌, take}
use Rattle.graphql_document_building.specs.Trees.{operations_in}
use Rattle.graphql_repetitions.specs.References.{nows}
use Rattle.graphql_document_checking.proofs.documents.operations_in.Given as goal

abbrev pub invariant-loop-tree : goal.invariant-loop-tree
invariant-loop-tree l = nows l.operations.items ≡ operations_in (take l.tree-index l.trees)
