use Rattle.std.proofs.Common.{All, take}
use Rattle.std.specs.Option.{option_copied}
use Rattle.graphql_diagnostics.specs.Reports.{Reports}
use Rattle.graphql_building_reports.specs.Checks.{reports_of}
use Rattle.graphql_document_building.specs.BuildingRules.{DefinitionBuilds}
use Rattle.graphql_document_checking.specs.DefinitionReports.{IsReportOfDefinitions}
use Rattle.graphql_document_checking.proofs.definitions.check_definitions.Given as goal

abbrev pub invariant-loop-tree : goal.invariant-loop-tree
invariant-loop-tree l =
    Reports (All (DefinitionBuilds (option_copied l.schema)) (take l.tree-index l.trees)) (IsReportOfDefinitions (option_copied l.schema) l.trees) (reports_of l.initial.reports) (reports_of l.reports)
