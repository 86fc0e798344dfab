use Rattle.std.proofs.Common.{◌+◌, ◌∷◌, ◌++◌, [], ap, arith, drop, refl, subst, sym, take}
use Rattle.std.proofs.lemmas.List.{take_all}
use Rattle.graphql_reach.specs.Reach.{HaveReach, Reaches, nodes_at}
use Rattle.graphql_reach.proofs.ReachLemmas.{have_both, have_none, nodes_around, nodes_next}
use Rattle.graphql_reach.proofs.reach.check_operations.Goals as goal

pub loop-operation-init : goal.loop-operation-init
loop-operation-init c = record { have = have_none c.args.document.now; within = omega arith }

pub loop-operation-preserved : goal.loop-operation-preserved
loop-operation-preserved c =
    let d = c.args.document.now in
    let operations = c.args.operations.now in
    let i = c.loop-operation.operation-index in
    let o = c.operation-item.result in
    let have = have_both d c.loop-operation.invariant.have c.in_ok-bytes_reached.ensures in
    record {
      have = subst (HaveReach d (nodes_at (take (i + 1) operations))) (sym c.in_ok-bytes.ensures)
          (subst (λ l. HaveReach d l (c.loop-operation.bytes + c.in_ok-bytes_reached.field-0)) (sym (nodes_next operations i o c.loop-operation-test.true c.operation-item.is)) have);
      within = c.if-bytes-most.false;
    }

pub returns-then-bytes-most : goal.returns-then-bytes-most
returns-then-bytes-most c =
    let d = c.args.document.now in
    let operations = c.args.operations.now in
    let i = c.loop-operation.operation-index in
    let o = c.operation-item.result in
    let have = have_both d c.loop-operation.invariant.have c.in_ok-bytes_reached.ensures in
    record {
      before = nodes_at (take i operations);
      o = o.now;
      after = nodes_at (drop (i + 1) operations);
      is = nodes_around operations i o c.loop-operation-test.true c.operation-item.is;
      within = λ n reach. omega (arith, c.loop-operation.invariant.have.at_most n reach, c.loop-operation.invariant.within);
      has = subst (HaveReach d (nodes_at (take i operations) ++ o.now ∷ [])) (sym c.in_ok-bytes.ensures) have;
      passes = c.if-bytes-most.true;
      is_at = refl;
      bound = refl;
    }

pub returns : goal.returns
returns c = λ n reach.
    omega (
      arith,
      c.loop-operation.invariant.within,
      c.loop-operation.invariant.have.at_most n
          (subst (λ l. Reaches c.args.document.now l n) (ap nodes_at (sym (take_all c.loop-operation.operation-index c.args.operations.now c.loop-operation-test.false))) reach),
    )
