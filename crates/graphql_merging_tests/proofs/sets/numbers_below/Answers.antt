use Rattle.std.proofs.Common.{◌<◌, ◌+◌, ℕ, All, arith, inl, inr, subst, sym}
use Rattle.std.proofs.lemmas.List.Elements.{All-push, All-weaker}
use Rattle.graphql_number_sets.specs.NumberSets.{numbers_of}
use Rattle.graphql_merging_tests.proofs.sets.numbers_below.Goals as goal

pub loop-number-preserved : goal.loop-number-preserved
loop-number-preserved g c =
    let old = numbers_of c.loop-number.numbers in
    let n = c.loop-number.number in
    let below = λ (m : ℕ). m < n + 1 in
    let before : All below old = All-weaker (λ (m : ℕ). m < n) below (λ m lt. omega (arith, lt)) old c.loop-number.invariant.within in
    record {
      exact = c.add.ensures.exact;
      within = elim c.in_ok-add.ensures.added [
        | inl same ↦ subst (All below) (sym same.1) before
        | inr more ↦ subst (All below) (sym more.1) (All-push below old n before (omega arith))
      ];
    }
