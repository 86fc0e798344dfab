use Rattle.graphql_shown_reports.specs.Shown.{ShowsRepetition}
use Rattle.graphql_shown_reports.proofs.ShownLemmas.{all_shown, none_shown, shown_more}
use Rattle.graphql_shown_reports.proofs.shown.push_repetitions.Goals as goal

pub loop-repetition-init : goal.loop-repetition-init
loop-repetition-init c = none_shown ShowsRepetition c.args.shown.now.items

pub loop-repetition-preserved : goal.loop-repetition-preserved
loop-repetition-preserved c =
    shown_more ShowsRepetition c.args.repetitions.now c.loop-repetition.repetition-index c.repetition-item.result _ _ _ _
    c.loop-repetition-test.true c.repetition-item.is c.loop-repetition.invariant c.in_ok-shown_repetition.ensures c.in_ok-push.ensures.items

pub returns : goal.returns
returns c = all_shown ShowsRepetition c.args.repetitions.now c.loop-repetition.repetition-index _ _ c.loop-repetition-test.false c.loop-repetition.invariant
