use Rattle.std.proofs.Common.{refl, rules}
use Rattle.graphql_specification.specs.Variables.{of_no_input_type, of_variable}
use Rattle.graphql_diagnostics.proofs.ReportLemmas.{checks-push}
use Rattle.graphql_values.proofs.directive.variable_definitions.report_no_input_type.Goals as goal

pub returns : goal.returns
returns c = λ schema defined variables among.
    checks-push _ _ _ _ _ _ c.push.ensures.ok c.push.ensures.err (λ no. no)
    (of_variable among (of_no_input_type (record {
      against = schema;
      definition = c.args.definition.now;
      has_schema = refl;
      defined = defined;
      no_input = c.requires;
      name_is = search rules;
      type_is = record { same_value = search rules; same_location = search rules };
      describe_is = search rules;
      at_is = search rules;
    })))
