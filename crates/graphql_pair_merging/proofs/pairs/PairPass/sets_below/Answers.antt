use Rattle.std.proofs.Common.{take, arith, ap, length, ◌∷◌, []}
use Rattle.graphql_documents.proofs.ListLemmas.{more_is}
use Rattle.graphql_pair_merging.proofs.JoinLemmas.{below_more, below_same}
use Rattle.graphql_pair_merging.proofs.pairs.PairPass.sets_below.Goals as goal
use Rattle.std.proofs.lemmas.List.{length-append}
use Rattle.graphql_pair_merging.proofs.pairs.PairPass.sets_below.Goals.{then-selects_something+in_ok-push, else-selects_something}

pub loop-field-preserved : goal.loop-field-preserved
loop-field-preserved g c =
    let fields = c.args.fields.now in
    let i = c.loop-field.field-index in
    let x = c.field-item.result in
    let more = more_is fields i x c.loop-field-test.true c.field-item.is in
    elim c.if-selects_something.branch [
      | then-selects_something+in_ok-push w ↦
          rw w.below-is (record {
            count = omega (arith, c.loop-field.invariant.count, ap length w.in_ok-push.ensures.items, length-append c.loop-field.below.items (x.set ∷ []));
            cost = omega (arith, c.loop-field.invariant.cost, c.take.ensures);
            below = below_more (take i fields) _ x c.loop-field.below.items _ more (c.selects_something.ensures.0 w.if-selects_something.true) w.in_ok-push.ensures.items c.loop-field.invariant.below;
          })
      | else-selects_something w ↦
          rw w.below-is
          (record {
            count = omega (arith, c.loop-field.invariant.count);
            cost = omega (arith, c.loop-field.invariant.cost, c.take.ensures);
            below = below_same (take i fields) _ x c.loop-field.below.items more (λ some. let e = c.selects_something.ensures.1 some in let f = w.if-selects_something.false in let no : ⊥ = cc in no) c.loop-field.invariant.below;
          })
    ]
