use Rattle.std.proofs.Common.{◌+◌, ◌/◌, ◌<◌, ap, arith, length, le_of_eq, mul-le-mul_right, ℕ, All, Contains, get_or, subst, sym, take, ◌∙◌}
use Rattle.std.proofs.lemmas.List.{take_all, take_more}
use Rattle.std.proofs.lemmas.List.Elements.{All-get_or}
use Rattle.graphql_number_sets.specs.NumberSets.{AreKnown, numbers_of}
use Rattle.graphql_number_sets.proofs.NumberLemmas.{Placing, in_place, placed, placing_begins, placing_more}
use Rattle.graphql_number_sets.proofs.pair_sets.PairSet.ends.Goals as goal

pub loop-number-init : goal.loop-number-init
loop-number-init g c =
    let numbers = numbers_of c.args.numbers.now in
    record {
      paired = c.in_ok-paired.ensures.exact;
      ends = c.new-ends.ensures.exact;
      paired_fits = c.in_ok-paired.ensures.fits;
      ends_each = omega (arith, c.new-ends.ensures.words);
      ends_fits = omega (arith, c.new-ends.ensures.words);
      cost = omega (
        arith,
        c.known.ensures.cost,
        c.new-ends.ensures.words,
        mul-le-mul_right (c.args.self.now.rows.len / 64 + 8) (le_of_eq (ap length c.deref.ensures.value ∙ sym (ap length c.deref-number-items.ensures.value))),
      );
      placing = placing_begins c.args.self.now numbers (numbers_of c.in_ok-paired.paired) (numbers_of c.new-ends.result)
          (subst (λ l. AreKnown c.args.self.now l (numbers_of c.in_ok-paired.paired)) c.deref.ensures.value c.in_ok-paired.ensures.known) c.new-ends.ensures.numbers;
    }

pub place-requires-clause-within : goal.place-requires-clause-within
place-requires-clause-within g c =
    let below = λ (n : ℕ). n < c.args.self.now.rows.len in
    All-get_or below c.deref-number-items.result.now c.loop-number.number-index 0 c.loop-number-test.true
    (subst (All below) (sym c.deref-number-items.ensures.value) c.requires.within)

pub loop-number-preserved : goal.loop-number-preserved
loop-number-preserved g c =
    let xs = c.deref-number-items.result.now in
    let i = c.loop-number.number-index in
    let number = get_or xs i 0 in
    let numbers = numbers_of c.args.numbers.now in
    let below = λ (n : ℕ). n < c.args.self.now.rows.len in
    let within = All-get_or below c.deref-number-items.result.now c.loop-number.number-index 0 c.loop-number-test.true (subst (All below) (sym c.deref-number-items.ensures.value) c.requires.within) in
    record {
      paired = c.place.ensures.paired;
      ends = c.place.ensures.ends;
      paired_fits = omega (arith, c.loop-number.invariant.paired_fits, c.place.ensures.paired_words, within);
      ends_each = omega (arith, c.loop-number.invariant.ends_each, c.place.ensures.ends_words, within);
      ends_fits = omega (arith, c.loop-number.invariant.ends_fits, c.place.ensures.ends_words, within);
      cost = omega (arith, c.loop-number.invariant.cost, c.loop-number.invariant.paired_fits, c.place.ensures.paired_words, c.place.ensures.cost, within);
      placing = placing_more c.args.self.now numbers (take i xs) (take (i + 1) xs) number (take_more xs i 0 c.loop-number-test.true)
          (subst (λ l. Contains l number) c.deref-number-items.ensures.value (i, c.loop-number-test.true, in_place xs i number 0 c.loop-number-test.true))
          (numbers_of c.loop-number.paired) (numbers_of c.loop-number.ends) (numbers_of c.place.new.paired) (numbers_of c.place.new.ends)
          c.loop-number.invariant.placing c.in_ok-place.ensures.placed;
    }

pub returns-clause-cost : goal.returns-clause-cost
returns-clause-cost g c =
    let row = c.args.self.now.rows.len / 64 in
    let many = ap length c.deref-number-items.ensures.value in
    omega (
      arith,
      many,
      c.loop-number.invariant.cost,
      c.loop-number.invariant.ends_each,
      mul-le-mul_right row (le_of_eq many),
      mul-le-mul_right row c.loop-number.auto.number-index-end,
      c.loop-number.auto.number-index-end,
    )

pub returns-in_err-place-clause-cost : goal.returns-in_err-place-clause-cost
returns-in_err-place-clause-cost g c =
    let row = c.args.self.now.rows.len / 64 in
    let many = ap length c.deref-number-items.ensures.value in
    let below = λ (n : ℕ). n < c.args.self.now.rows.len in
    let within = All-get_or below c.deref-number-items.result.now c.loop-number.number-index 0 c.loop-number-test.true (subst (All below) (sym c.deref-number-items.ensures.value) c.requires.within) in
    omega (
      arith,
      many,
      c.loop-number.invariant.cost,
      c.loop-number.invariant.paired_fits,
      c.loop-number.invariant.ends_each,
      c.place.ensures.paired_words,
      c.place.ensures.ends_words,
      c.place.ensures.cost,
      within,
      mul-le-mul_right row (le_of_eq many),
      mul-le-mul_right row c.loop-number-test.true,
    )

pub returns-clause-ends : goal.returns-clause-ends
returns-clause-ends g c =
    let numbers = numbers_of c.args.numbers.now in
    placed c.args.self.now numbers (numbers_of c.loop-number.paired) (numbers_of c.loop-number.ends)
    (subst (λ l. Placing c.args.self.now numbers l (numbers_of c.loop-number.paired) (numbers_of c.loop-number.ends))
    (take_all c.loop-number.number-index c.deref-number-items.result.now c.loop-number-test.false ∙ c.deref-number-items.ensures.value) c.loop-number.invariant.placing)
