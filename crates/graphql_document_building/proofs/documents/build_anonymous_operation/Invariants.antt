use Rattle.std.proofs.Common.{◌≡◌, [], take}
use Rattle.graphql_document_building.specs.Trees.{anonymous_operations_in}
use Rattle.graphql_document_building.proofs.documents.build_anonymous_operation.Given as goal

abbrev pub invariant-loop-tree : goal.invariant-loop-tree
invariant-loop-tree l = anonymous_operations_in (take l.tree-index l.trees) ≡ []
