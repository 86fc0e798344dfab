use Rattle.graphql_shown_reports.specs.Shown.{ShowsMisuse}
use Rattle.graphql_shown_reports.proofs.ShownLemmas.{all_shown, none_shown, shown_more}
use Rattle.graphql_shown_reports.proofs.shown.push_misuses.Goals as goal

pub loop-misuse-init : goal.loop-misuse-init
loop-misuse-init c = none_shown ShowsMisuse c.args.shown.now.items

pub loop-misuse-preserved : goal.loop-misuse-preserved
loop-misuse-preserved c =
    shown_more ShowsMisuse c.args.misuses.now c.loop-misuse.misuse-index c.misuse-item.result _ _ _ _
    c.loop-misuse-test.true c.misuse-item.is c.loop-misuse.invariant c.in_ok-shown_misuse.ensures c.in_ok-push.ensures.items

pub returns : goal.returns
returns c = all_shown ShowsMisuse c.args.misuses.now c.loop-misuse.misuse-index _ _ c.loop-misuse-test.false c.loop-misuse.invariant
