use Rattle.std.proofs.Common.{rules}
use Rattle.graphql_shown_reports.specs.Shown.{ShowsEntry}
use Rattle.graphql_shown_reports.proofs.ShownLemmas.{all_shown, none_shown, shown_more}
use Rattle.graphql_shown_reports.proofs.shown.push_rules.Goals as goal

pub loop-entry-init : goal.loop-entry-init
loop-entry-init c = none_shown ShowsEntry c.args.shown.now.items

pub loop-entry-preserved : goal.loop-entry-preserved
loop-entry-preserved c =
    shown_more ShowsEntry c.args.rules.now c.loop-entry.entry-index _ _ _ _ _
    c.loop-entry-test.true (search rules) c.loop-entry.invariant c.in_ok-shown_entry.ensures c.in_ok-push.ensures.items

pub returns : goal.returns
returns c = all_shown ShowsEntry c.args.rules.now c.loop-entry.entry-index _ _ c.loop-entry-test.false c.loop-entry.invariant
