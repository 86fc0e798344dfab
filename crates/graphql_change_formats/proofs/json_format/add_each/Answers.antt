use Rattle.std.proofs.Common.{rules}
use Rattle.graphql_change_formats.proofs.ChangeLemmas.{next_written, none_written}
use Rattle.graphql_change_formats.proofs.json_format.add_each.Goals as goal

pub loop-shown-init : goal.loop-shown-init
loop-shown-init c = record { before = search rules; appended = none_written c.args.texts.now c.args.json.now.tokens }

pub loop-shown-preserved : goal.loop-shown-preserved
loop-shown-preserved c = record {
  before = search rules;
  appended = next_written c.args.texts.now c.args.changes.now c.loop-shown.shown-index c.shown-item.result _ _ _
      c.loop-shown-test.true c.shown-item.is c.loop-shown.invariant.appended c.in_ok-add_change.ensures.appended;
}
