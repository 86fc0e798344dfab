use Rattle.std.proofs.Common.{◌≡◌, ◌+◌, ap, arith, subst, take}
use Rattle.std.proofs.lemmas.List.{take_all}
use Rattle.graphql_reach.specs.Reach.{ReachAtMost, Reaches, nodes_at, bytes_at}
use Rattle.graphql_reach.proofs.ReachLemmas.{at_most_one_more, nodes_next, none_reach}
use Rattle.graphql_reach.proofs.reach.bytes_at_worst.Goals as goal

pub loop-operation-init : goal.loop-operation-init
loop-operation-init c = none_reach c.args.document.now

pub loop-operation-preserved : goal.loop-operation-preserved
loop-operation-preserved c =
    let d = c.args.document.now in
    let i = c.loop-operation.operation-index in
    let o = c.operation-item.result in
    let bytes : c.in_ok-bytes.bytes ≡ (c.loop-operation.bytes + bytes_at o.now.location) + c.in_ok-fragments.fragments =
    omega (arith, c.in_ok-bytes.ensures, c.in_ok-checked_add.ensures, c.bytes_at.ensures) in
    let within = at_most_one_more d (nodes_at (take i c.args.operations.now)) o.now c.loop-operation.bytes c.loop-operation.invariant in
    λ n reach. omega (
      arith,
      bytes,
      c.in_ok-fragments.ensures,
      within n (subst (λ l. Reaches d l n) (nodes_next c.args.operations.now i o c.loop-operation-test.true c.operation-item.is) reach),
    )

pub returns : goal.returns
returns c =
    subst (λ l. ReachAtMost c.args.document.now l c.loop-operation.bytes) (ap nodes_at (take_all c.loop-operation.operation-index c.args.operations.now c.loop-operation-test.false))
    c.loop-operation.invariant
