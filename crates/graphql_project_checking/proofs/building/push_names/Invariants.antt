use Rattle.std.proofs.Common.{◌≡◌, ◌++◌, map, take}
use Rattle.graphql_document_checking.specs.Trees.{fragments_in}
use Rattle.graphql_document_checking.specs.References.{nows}
use Rattle.graphql_project_checking.proofs.building.push_names.Given as goal

abbrev pub invariant-loop-definition : goal.invariant-loop-definition
invariant-loop-definition l =
    nows l.names.items ≡ nows l.initial.names.items ++ map (λ p. p.0) (fragments_in (take l.definition-index l.definitions))
