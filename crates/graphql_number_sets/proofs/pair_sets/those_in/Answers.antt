use Rattle.std.proofs.Common.{◌+◌, ◌/◌, ◌<◌, ap, arith, mul-le-mul_right, get_or, subst, sym, ◌∙◌, Contains}
use Rattle.std.proofs.lemmas.List.Elements.{All-get_or}
use Rattle.graphql_number_sets.specs.NumberSets.{AreExact, numbers_of, words_of}
use Rattle.graphql_number_sets.proofs.NumberLemmas.{in_place, those_more}
use Rattle.graphql_number_sets.proofs.pair_sets.those_in.Goals as goal
use Rattle.graphql_number_sets.proofs.pair_sets.those_in.Goals.{then-contains+in_ok-add, else-contains}

pub loop-number-preserved : goal.loop-number-preserved
loop-number-preserved g c =
    let xs = c.args.numbers.now in
    let i = c.loop-number.number-index in
    let number = get_or xs i 0 in
    elim c.if-contains.branch [
      | then-contains+in_ok-add w ↦ record {
        exact = subst AreExact (sym w.those-is) w.add.ensures.exact;
        words = λ bound below. omega (
          arith,
          ap (λ t. words_of t.members) w.those-is,
          c.loop-number.invariant.words bound below,
          w.add.ensures.words,
          All-get_or (λ n. n < bound) xs i 0 c.loop-number-test.true below,
        );
        each = λ bound below. omega (
          arith,
          ap (λ t. words_of t.members) w.those-is,
          c.loop-number.invariant.each bound below,
          w.add.ensures.words,
          All-get_or (λ n. n < bound) xs i 0 c.loop-number-test.true below,
        );
        cost = omega (arith, ap (λ t. words_of t.members) w.those-is, w.steps-is, c.loop-number.invariant.cost, c.take.ensures, w.add.ensures.cost);
        among = λ n in'. those_more xs c.args.set.now (numbers_of c.loop-number.those) (numbers_of w.add.new.self) number w.in_ok-add.ensures.added
            (i, c.loop-number-test.true, in_place xs i number 0 c.loop-number-test.true) (sym c.contains.ensures ∙ w.if-contains.true) c.loop-number.invariant.among n
            (subst (λ those. Contains (numbers_of those) n) w.those-is in');
      }
      | else-contains w ↦ record {
        exact = subst AreExact (sym w.those-is) c.loop-number.invariant.exact;
        words = λ bound below. omega (arith, ap (λ t. words_of t.members) w.those-is, c.loop-number.invariant.words bound below);
        each = λ bound below. omega (arith, ap (λ t. words_of t.members) w.those-is, c.loop-number.invariant.each bound below);
        cost = omega (arith, ap (λ t. words_of t.members) w.those-is, w.steps-is, c.loop-number.invariant.cost, c.take.ensures);
        among = λ n in'. c.loop-number.invariant.among n (subst (λ those. Contains (numbers_of those) n) w.those-is in');
      }
    ]

pub returns-clause-cost : goal.returns-clause-cost
returns-clause-cost g c = λ bound below.
    omega (arith, c.loop-number.invariant.cost, c.loop-number.invariant.each bound below, mul-le-mul_right (bound / 64 + 4) c.loop-number.auto.number-index-end)

pub returns-in_err-add-clause-cost : goal.returns-in_err-add-clause-cost
returns-in_err-add-clause-cost g c = λ bound below.
    omega (
      arith,
      c.loop-number.invariant.cost,
      c.loop-number.invariant.each bound below,
      c.take.ensures,
      c.add.ensures.words,
      c.add.ensures.cost,
      All-get_or (λ n. n < bound) c.args.numbers.now c.loop-number.number-index 0 c.loop-number-test.true below,
      mul-le-mul_right (bound / 64 + 4) c.loop-number-test.true,
    )
