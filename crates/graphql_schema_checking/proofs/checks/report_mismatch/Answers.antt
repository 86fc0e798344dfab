use Rattle.std.proofs.Common.{◌≡◌, rules}
use Rattle.graphql_diagnostics.proofs.ReportLemmas.{checks-push}
use Rattle.graphql_schema_checking.specs.Definitions.{name_of}
use Rattle.graphql_schema_checking.specs.SchemaReports.{of_mismatch}
use Rattle.graphql_building_reports.specs.declared.rules.BuildingRule.TheVariants as rule
use Rattle.graphql_schema_checking.proofs.checks.report_mismatch.Goals as goal

pub returns : goal.returns
returns c = λ types all defined among.
    let e = c.args.extension.now in
    let d = c.args.definition.now in
    let name_is : c.in_ok-name.name ≡ name_of e = search rules in
    let original_is : c.location-2.result ≡ (name_of d).location = search rules in
    checks-push _ _ _ _ _ _ c.push.ensures.ok c.push.ensures.err (λ no. no)
    (of_mismatch (record {
      e = e;
      d = d;
      among = among;
      defined = defined;
      differ = c.requires;
      says = record {
        rule_is = λ i. rule.TypeExtensionKindMismatch (name_is i) (c.type_kind.ensures i) (c.type_kind-2.ensures i) (original_is i);
        location_is = search rules;
      };
    }))
