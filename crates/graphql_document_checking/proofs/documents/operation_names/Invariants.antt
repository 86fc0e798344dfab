use Rattle.std.proofs.Common.{◌≡◌, take}
use Rattle.graphql_repetitions.specs.References.{nows}
use Rattle.graphql_document_checking.specs.DocumentReports.{operation_names}
use Rattle.graphql_document_checking.proofs.documents.operation_names.Given as goal

abbrev pub invariant-loop-tree : goal.invariant-loop-tree
invariant-loop-tree l = nows l.names.items ≡ operation_names (take l.tree-index l.trees)
