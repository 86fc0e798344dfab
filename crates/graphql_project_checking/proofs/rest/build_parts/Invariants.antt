use Rattle.std.proofs.Common.{◌≡◌, ◌++◌, List}
use Rattle.graphql_trees.specs.declared.documents.Document.{Document}
use Rattle.graphql_project_checking.specs.Truth.{SayParts}
use Rattle.graphql_project_checking.proofs.rest.build_parts.Given as goal

-- the parts of the documents that were yielded are built
abbrev pub invariant-loop-document : goal.invariant-loop-document
invariant-loop-document l =
    (done : List Document) × (l.fn.documents.items ≡ done ++ l.document-iterator.rest.items) × SayParts l.building.schema.now done l.built.items
