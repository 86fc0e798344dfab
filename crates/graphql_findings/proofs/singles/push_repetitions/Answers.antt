use Rattle.std.proofs.Common.{refl, rules}
use Rattle.graphql_shown_reports.specs.Shown.{input_field}
use Rattle.graphql_findings.proofs.SingleLemmas.{single_more}
use Rattle.graphql_findings.proofs.singles.push_repetitions.Goals as goal

pub loop-repetition-preserved : goal.loop-repetition-preserved
loop-repetition-preserved c =
    single_more input_field c.args.repetitions.now c.loop-repetition.repetition-index _ _ _ _ _ c.loop-repetition-test.true (search rules) refl c.loop-repetition.invariant c.in_ok-push.ensures.items
