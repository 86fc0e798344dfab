use Rattle.std.proofs.Common.{◌≡◌, take}
use Rattle.graphql_repetitions.specs.References.{nows}
use Rattle.graphql_document_checking.specs.DocumentReports.{fragment_names}
use Rattle.graphql_document_checking.proofs.documents.fragment_names.Given as goal

abbrev pub invariant-loop-tree : goal.invariant-loop-tree
invariant-loop-tree l = nows l.names.items ≡ fragment_names (take l.tree-index l.trees)
