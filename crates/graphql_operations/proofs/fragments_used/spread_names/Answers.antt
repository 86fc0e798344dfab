use Rattle.std.proofs.Common.{rules, [], Contains}
use Rattle.graphql_variables.proofs.UseLemmas.{also_all, also_more}
use Rattle.graphql_operations.proofs.UsedFragmentLemmas.{SpreadsBelow, one_passes, spread_by_any}
use Rattle.graphql_operations.proofs.fragments_used.spread_names.Goals as goal

pub returns-then-not-branch : goal.returns-then-not-branch
returns-then-not-branch c =
    let stands : Contains c.args.operations.now c.operation-item.result = search rules in
    one_passes c.args.document.now c.args.operations.now c.operation-item.result stands (c.in_ok-add_reachable_spreads.ensures.bound c.if-not-branch.true)

pub loop-operation-preserved : goal.loop-operation-preserved
loop-operation-preserved c =
    also_more (SpreadsBelow c.args.document.now) c.args.operations.now c.loop-operation.operation-index c.operation-item.result []
    c.loop-operation.names.keys c.add_reachable_spreads.new.names.keys c.loop-operation-test.true c.operation-item.is c.loop-operation.invariant
    (c.in_ok-add_reachable_spreads.ensures.all c.if-not-branch.false)

pub returns : goal.returns
returns c =
    spread_by_any c.args.document.now c.args.operations.now c.loop-operation.names.keys
    (also_all (SpreadsBelow c.args.document.now) c.args.operations.now c.loop-operation.operation-index [] c.loop-operation.names.keys
    c.loop-operation-test.false c.loop-operation.invariant)
