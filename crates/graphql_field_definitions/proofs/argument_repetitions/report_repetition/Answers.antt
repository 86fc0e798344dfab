use Rattle.std.proofs.Common.{rules}
use Rattle.graphql_diagnostics.proofs.ReportLemmas.{checks-err, checks-push, kept}
use Rattle.graphql_field_definitions.specs.FieldDefinitionSteps.{of_repetition}
use Rattle.graphql_field_definitions.proofs.argument_repetitions.report_repetition.Goals as goal

pub returns-in_err-name : goal.returns-in_err-name
returns-in_err-name c = λ before first found place arguments next.
    checks-err _ _ _ _ _ c.from_residual.ensures.0 (kept _ _)

pub returns : goal.returns
returns c = λ before first found place arguments next.
    let again = c.args.argument.now in
    checks-push _ _ _ _ _ _ c.push.ensures.ok c.push.ensures.err (λ no. no)
    (of_repetition (record {
      before = before;
      first = first;
      again = again;
      after = next.after;
      split = next.split;
      first_is = found;
      name_is = search rules;
      original_is = place;
      redefined_is = search rules;
      at_is = place;
    }))
