use Rattle.std.proofs.Common.{refl, rules}
use Rattle.graphql_diagnostics.proofs.ReportLemmas.{checks-push}
use Rattle.graphql_variables.proofs.usage.report_usage.Goals as goal

pub returns : goal.returns
returns c = λ variables is.
    checks-push _ _ _ _ _ _ c.push.ensures.ok c.push.ensures.err (λ x. x) (record {
      v = c.args.variable.now;
      is_variable = is;
      disallowed = c.requires.disallowed;
      variable_is = search rules;
      variable_type_is = search rules;
      argument_is = search rules;
      argument_type_is = search rules;
      variable_location_is = refl;
      argument_location_is = refl;
      at_is = refl;
    })
