use Rattle.std.proofs.Common.{◌≡◌, ◌++◌, map, take}
use Rattle.graphql_projects.specs.OperationTrees.{fragments_among}
use Rattle.graphql_document_checking.specs.References.{nows}
use Rattle.graphql_project_checking.proofs.building.push_fragment_names.Given as goal

abbrev pub invariant-loop-document : goal.invariant-loop-document
invariant-loop-document l =
    nows l.names.items ≡ nows l.initial.names.items ++ map (λ p. p.0) (fragments_among (take l.document-index l.documents))
