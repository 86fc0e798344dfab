use Rattle.std.proofs.Common.{take}
use Rattle.graphql_diagnostics.specs.Reports.{KeepsReports}
use Rattle.graphql_project_checking.specs.Silence.{BuildAll, SilentOnlyIf}
use Rattle.graphql_project_checking.specs.Truth.{AreOfOneDocument}
use Rattle.graphql_project_checking.proofs.building.build_files.Given as goal

abbrev pub invariant-loop-document : goal.invariant-loop-document
invariant-loop-document l =
    SilentOnlyIf l.initial.found.items l.found.items (BuildAll l.building.schema.now (take l.document-index l.documents) l.files.items) ×
    KeepsReports (AreOfOneDocument l.building.schema.now l.documents) l.initial.found.items l.found.items
