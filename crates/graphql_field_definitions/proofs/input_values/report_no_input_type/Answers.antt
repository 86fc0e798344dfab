use Rattle.std.proofs.Common.{rules}
use Rattle.graphql_diagnostics.proofs.ReportLemmas.{checks-push}
use Rattle.graphql_field_definitions.specs.FieldDefinitionSteps.{of_other_kind}
use Rattle.graphql_field_definitions.proofs.input_values.report_no_input_type.Goals as goal

pub returns : goal.returns
returns c = λ schema defined.
    checks-push _ _ _ _ _ _ c.push.ensures.ok c.push.ensures.err (λ no. no)
    (of_other_kind (record {
      kind_is = (c.args.definition.now, defined, c.requires, search rules);
      name_is = search rules;
      type_location_is = search rules;
      at_is = search rules;
    }))
