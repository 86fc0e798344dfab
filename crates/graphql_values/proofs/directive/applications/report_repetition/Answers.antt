use Rattle.std.proofs.Common.{rules}
use Rattle.graphql_diagnostics.proofs.ReportLemmas.{checks-err, checks-push, kept}
use Rattle.graphql_specification.specs.Directives.{of_repeated_directive}
use Rattle.graphql_values.proofs.directive.applications.report_repetition.Goals as goal

pub returns-in_err-name : goal.returns-in_err-name
returns-in_err-name c = λ schema before first found place not_repeatable variables location directives next.
    checks-err _ _ _ _ _ c.from_residual.ensures.0 (kept _ _)

pub returns : goal.returns
returns c = λ schema before first found place not_repeatable variables location directives next.
    checks-push _ _ _ _ _ _ c.push.ensures.ok c.push.ensures.err (λ holds. not_repeatable (holds first found))
    (of_repeated_directive (record {
      before = before;
      first = first;
      again = c.args.directive.now;
      after = next.after;
      split = next.split;
      first_is = found;
      not_repeatable = not_repeatable;
      name_is = search rules;
      original_is = place;
      at_is = search rules;
    }))
