use Rattle.std.proofs.Common.{◌≡◌, ◌+◌, ◌/◌, ◌<◌, arith, get_or, subst, sym, take, ◌∙◌, Contains, inl, inr, true, ℕ}
use Rattle.std.specs.Prelude.{◌↔◌, ◌⊎◌}
use Rattle.std.proofs.lemmas.List.{take_all, take_more}
use Rattle.std.proofs.lemmas.List.Elements.{All-get_or}
use Rattle.graphql_number_sets.specs.NumberSets.{has}
use Rattle.graphql_number_sets.proofs.NumberLemmas.{first_of, numbers_more, on_err}
use Rattle.graphql_number_sets.proofs.bit_sets.BitSet.insert_each.Goals as goal

pub loop-number-preserved : goal.loop-number-preserved
loop-number-preserved g c =
    let xs = c.args.numbers.now in
    let i = c.loop-number.number-index in
    record {
      added = numbers_more c.args.self.now c.loop-number.self c.insert.new.self (take i xs) (take (i + 1) xs) (get_or xs i 0) (take_more xs i 0 c.loop-number-test.true)
          c.in_ok-insert.ensures.added c.loop-number.invariant.added;
      words = λ most below. omega (arith, c.loop-number.invariant.words most below, All-get_or (λ n. n / 64 < most) xs i 0 c.loop-number-test.true below, c.insert.ensures.words);
      cost = omega (arith, c.loop-number.invariant.cost, c.insert.ensures.cost);
    }

pub returns-in_err-insert-clause-words : goal.returns-in_err-insert-clause-words
returns-in_err-insert-clause-words g c = λ most below.
    omega (
      arith,
      c.loop-number.invariant.words most below,
      All-get_or (λ n. n / 64 < most) c.args.numbers.now c.loop-number.number-index 0 c.loop-number-test.true below,
      c.insert.ensures.words,
    )

pub returns-clause-added : goal.returns-clause-added
returns-clause-added g c =
    subst (λ l. (n : ℕ) → (has c.loop-number.self n ≡ true) ↔ ((has c.args.self.now n ≡ true) ⊎ Contains l n))
    (take_all c.loop-number.number-index c.args.numbers.now c.loop-number-test.false) c.loop-number.invariant.added

pub returns-in_err-insert-clause-refused : goal.returns-in_err-insert-clause-refused
returns-in_err-insert-clause-refused g c =
    let xs = c.args.numbers.now in
    let same = c.in_err-insert.ensures.refused in
    on_err c.from_residual.result (record {
      kept = λ n has. same n ∙ (c.loop-number.invariant.added n).1 (inl has);
      added = λ n has. elim ((c.loop-number.invariant.added n).0 (sym (same n) ∙ has)) [
        | inl was ↦ inl was
        | inr there ↦ inr (first_of xs c.loop-number.number-index n there)
      ];
    })
