use Rattle.std.proofs.Common.{rules}
use Rattle.graphql_specification.specs.Variables.{of_repetition}
use Rattle.graphql_diagnostics.proofs.ReportLemmas.{checks-err, checks-push, kept}
use Rattle.graphql_values.proofs.directive.variable_definitions.report_repetition.Goals as goal

pub returns-in_err-name : goal.returns-in_err-name
returns-in_err-name c = λ schema before first found place variables next.
    checks-err _ _ _ _ _ c.from_residual.ensures.0 (kept _ _)

pub returns : goal.returns
returns c = λ schema before first found place variables next.
    checks-push _ _ _ _ _ _ c.push.ensures.ok c.push.ensures.err (λ no. no)
    (of_repetition (record {
      before = before;
      first = first;
      again = c.args.variable.now;
      after = next.after;
      split = next.split;
      first_is = found;
      name_is = search rules;
      original_is = place;
      redefined_is = search rules;
      at_is = search rules;
    }))
