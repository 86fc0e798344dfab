use Rattle.std.proofs.Common.{◌≡◌, ap, rules}
use Rattle.graphql_diagnostics.proofs.ReportLemmas.{checks-push}
use Rattle.graphql_schema_checking.specs.Definitions.{name_of}
use Rattle.graphql_schema_checking.specs.SchemaReports.{of_built_in}
use Rattle.graphql_building_reports.specs.declared.rules.BuildingRule.TheVariants as rule
use Rattle.graphql_schema_checking.proofs.checks.report_built_in.Goals as goal

pub returns : goal.returns
returns c = λ types all defined among.
    let e = c.args.extension.now in
    let name_is : c.in_ok-name.name ≡ name_of e = search rules in
    checks-push _ _ _ _ _ _ c.push.ensures.ok c.push.ensures.err (λ no. no)
    (of_built_in (record {
      e = e;
      d = c.args.definition.now;
      among = among;
      defined = defined;
      built_in = c.requires;
      says = record { rule_is = ap rule.BuiltInTypeExtension name_is; location_is = search rules };
    }))
