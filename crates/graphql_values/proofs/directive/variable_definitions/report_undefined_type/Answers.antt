use Rattle.std.proofs.Common.{refl, rules}
use Rattle.graphql_specification.specs.Variables.{of_undefined_type, of_variable}
use Rattle.graphql_diagnostics.proofs.ReportLemmas.{checks-push}
use Rattle.graphql_values.proofs.directive.variable_definitions.report_undefined_type.Goals as goal

pub returns : goal.returns
returns c = λ schema undefined variables among.
    checks-push _ _ _ _ _ _ c.push.ensures.ok c.push.ensures.err (λ no. no)
    (of_variable among (of_undefined_type (record {
      against = schema;
      has_schema = refl;
      undefined = undefined;
      name_is = search rules;
      at_is = search rules;
    })))
