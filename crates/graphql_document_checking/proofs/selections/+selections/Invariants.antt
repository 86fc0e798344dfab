use Rattle.std.proofs.Common.{All, take}
use Rattle.graphql_diagnostics.specs.Reports.{Reports}
use Rattle.graphql_building_reports.specs.Checks.{reports_of}
use Rattle.graphql_document_building.specs.BuildingRules.{SelectionBuilds}
use Rattle.graphql_document_checking.specs.Reports.{IsSelectionReport}
use Rattle.graphql_document_checking.proofs.selections.+selections.Given as goal

abbrev pub invariant-check_selections-loop-tree : goal.invariant-check_selections-loop-tree
invariant-check_selections-loop-tree l =
    Reports (All (SelectionBuilds l.schema l.parent) (take l.tree-index l.trees)) (IsSelectionReport l.schema l.parent l.trees) (reports_of l.initial.reports) (reports_of l.reports)
