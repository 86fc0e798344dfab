use Rattle.std.proofs.Common.{◌≡◌, rules}
use Rattle.graphql_diagnostics.proofs.ReportLemmas.{checks-push}
use Rattle.graphql_schema_checking.specs.Definitions.{name_of}
use Rattle.graphql_building_reports.specs.declared.rules.BuildingRule.TheVariants as rule
use Rattle.graphql_schema_checking.proofs.checks.report_non_interface.Goals as goal

pub returns : goal.returns
returns c = λ types all defined among.
    let d = c.args.definition.now in
    let name_is : c.in_ok-name.name ≡ c.args.name.now = search rules in
    let original_is : c.location.result ≡ (name_of d).location = search rules in
    checks-push _ _ _ _ _ _ c.push.ensures.ok c.push.ensures.err (λ no. no)
    (record {
      name = c.args.name.now;
      d = d;
      among = among;
      defined = defined;
      is_none = c.requires;
      says = record {
        rule_is = λ i. rule.ImplementedNonInterface (name_is i) (c.type_kind.ensures i) (original_is i);
        location_is = search rules;
      };
    })
