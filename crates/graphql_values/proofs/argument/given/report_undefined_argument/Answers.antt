use Rattle.std.proofs.Common.{refl, rules}
use Rattle.graphql_diagnostics.proofs.ReportLemmas.{checks-push}
use Rattle.graphql_values.specs.GivenArguments.{of_unknown_argument}
use Rattle.graphql_values.proofs.argument.given.report_undefined_argument.Goals as goal

pub returns : goal.returns
returns c = λ schema variables.
    checks-push _ _ _ _ _ _ c.push.ensures.ok c.push.ensures.err (λ x. x)
    (of_unknown_argument (record {
      argument = c.args.argument.now;
      is_given = c.requires.given;
      undefined = c.requires.undefined;
      name_is = search rules;
      coordinate_is = search rules;
      definition_location_is = refl;
      at_is = refl;
    }))
