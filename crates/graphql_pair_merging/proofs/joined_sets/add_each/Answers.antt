use Rattle.std.proofs.Common.{◌≡◌, ◌+◌, ◌++◌, ◌∷◌, [], get_or, subst, take, arith, ◌<◌}
use Rattle.std.proofs.lemmas.List.{take_all, take_more}
use Rattle.graphql_number_sets.specs.NumberSets.{numbers_of}
use Rattle.graphql_pair_merging.specs.JoinedSets.{AddsEach}
use Rattle.graphql_pair_merging.proofs.JoinLemmas.{adds_each_more, adds_no_number}
use Rattle.std.proofs.lemmas.List.Elements.{All-get_or}
use Rattle.graphql_pair_merging.proofs.joined_sets.add_each.Goals as goal

pub loop-number-init : goal.loop-number-init
loop-number-init g c = record {
  exact = c.requires;
  added = adds_no_number (numbers_of c.args.joined.now);
  fits = λ bound below was. was;
  each = λ bound below. omega arith;
  cost = omega arith;
}

pub loop-number-preserved : goal.loop-number-preserved
loop-number-preserved g c =
    let xs = c.args.numbers.now in
    let i = c.loop-number.number-index in
    let more : take (i + 1) xs ≡ take i xs ++ get_or xs i 0 ∷ [] = take_more xs i 0 c.loop-number-test.true in
    record {
      exact = c.in_ok-add.ensures.exact;
      added = adds_each_more (take i xs) (take (i + 1) xs) (get_or xs i 0) (numbers_of c.args.joined.now) (numbers_of c.loop-number.joined) (numbers_of c.add.new.self) more
          c.loop-number.invariant.added c.in_ok-add.ensures.added;
      fits = λ bound below was.
          omega (arith, c.loop-number.invariant.fits bound below was, c.add.ensures.words, All-get_or (λ n. n < bound) xs i 0 c.loop-number-test.true below);
      each = λ bound below.
          omega (arith, c.loop-number.invariant.each bound below, c.in_ok-add.ensures.each bound (All-get_or (λ n. n < bound) xs i 0 c.loop-number-test.true below));
      cost = omega (arith, c.loop-number.invariant.cost, c.take.ensures, c.add.ensures.cost);
    }

pub returns-in_err-add-clause-fits : goal.returns-in_err-add-clause-fits
returns-in_err-add-clause-fits g c = λ bound below was.
    omega (
      arith,
      c.loop-number.invariant.fits bound below was,
      c.add.ensures.words,
      All-get_or (λ n. n < bound) c.args.numbers.now c.loop-number.number-index 0 c.loop-number-test.true below,
    )

pub returns-clause-added : goal.returns-clause-added
returns-clause-added g c =
    subst (λ l. AddsEach l (numbers_of c.args.joined.now) (numbers_of c.loop-number.joined)) (take_all c.loop-number.number-index c.args.numbers.now c.loop-number-test.false) c.loop-number.invariant.added
