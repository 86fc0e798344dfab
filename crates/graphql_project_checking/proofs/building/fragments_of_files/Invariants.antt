use Rattle.std.proofs.Common.{◌≡◌, ◌++◌, List}
use Rattle.std.specs.Prelude.{All}
use Rattle.std.specs.List.{AllZip}
use Rattle.graphql_diagnostics.specs.Reports.{KeepsReports}
use Rattle.graphql_trees.specs.declared.documents.Document.{Document}
use Rattle.graphql_project_checking.specs.Silence.{HasFragmentsOf, OthersBuild, SilentOnlyIf}
use Rattle.graphql_project_checking.specs.Truth.{AreOfOneDocument}
use Rattle.graphql_project_checking.proofs.building.fragments_of_files.Given as goal

-- the fragments of the documents that were yielded are there, their other definitions build where nothing is reported, and what is reported is true
abbrev pub invariant-loop-document : goal.invariant-loop-document
invariant-loop-document l =
    (done : List Document) × (l.fn.documents.items ≡ done ++ l.document-iterator.rest.items) ×
    SilentOnlyIf l.initial.found.items l.found.items (All (OthersBuild l.building.schema.now) done) × AllZip HasFragmentsOf done l.fragments.items ×
    KeepsReports (AreOfOneDocument l.building.schema.now l.fn.documents.items) l.initial.found.items l.found.items
