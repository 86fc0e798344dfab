use Rattle.std.proofs.Common.{rules, refl, All, Contains}
use Rattle.std.specs.Option.{option_copied}
use Rattle.graphql_diagnostics.proofs.ReportLemmas.{checks-err, kept_by, kept_then, kept_wider, walked_all, walked_more, wider}
use Rattle.graphql_building_reports.specs.Checks.{reports_of}
use Rattle.graphql_document_building.specs.BuildingRules.{DefinitionBuilds}
use Rattle.graphql_document_checking.specs.DefinitionReports.{IsReportOfDefinitions}
use Rattle.graphql_document_checking.proofs.definitions.check_definitions.Goals as goal

pub returns-in_err-check_definition : goal.returns-in_err-check_definition
returns-in_err-check_definition c =
    let stands : Contains c.args.trees.now c.tree-item.result = search rules in
    checks-err c.from_residual.result (All (DefinitionBuilds (option_copied c.args.schema)) c.args.trees.now) (IsReportOfDefinitions (option_copied c.args.schema) c.args.trees.now)
    (reports_of c.args.reports.now) (reports_of c.check_definition.new.reports) (search rules)
    (kept_then (kept_by c.loop-tree.invariant) (kept_wider (λ r report. (c.tree-item.result, stands, report)) c.in_err-check_definition.ensures))

pub loop-tree-preserved : goal.loop-tree-preserved
loop-tree-preserved c =
    let xs = c.args.trees.now in
    let stands : Contains xs c.tree-item.result = search rules in
    walked_more (DefinitionBuilds (option_copied c.args.schema)) (IsReportOfDefinitions (option_copied c.args.schema) xs) xs c.loop-tree.tree-index c.tree-item.result
    (reports_of c.args.reports.now) (reports_of c.loop-tree.reports) (reports_of c.check_definition.new.reports) c.loop-tree-test.true c.tree-item.is c.loop-tree.invariant
    (wider (λ r report. (c.tree-item.result, stands, report)) c.in_ok-check_definition.ensures)

pub returns : goal.returns
returns c =
    let xs = c.args.trees.now in
    walked_all (DefinitionBuilds (option_copied c.args.schema)) (IsReportOfDefinitions (option_copied c.args.schema) xs) xs c.loop-tree.tree-index xs (reports_of c.args.reports.now)
    (reports_of c.loop-tree.reports) refl c.loop-tree-test.false c.loop-tree.invariant
