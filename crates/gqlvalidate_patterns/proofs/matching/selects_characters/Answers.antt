-- The last pattern that stands for the characters decides.
use Rattle.std.proofs.Common.{◌≡◌, ◌∙◌, ◌+◌, ◌++◌, Bool, [], ◌∷◌, ap, false, subst, sym, take, true}
use Rattle.std.specs.Prelude.{◌↔◌}
use Rattle.std.proofs.lemmas.List.{take_all, take_more}
use Rattle.gqlvalidate_patterns.specs.Patterns.{Selects}
use Rattle.gqlvalidate_patterns.proofs.MatchingLemmas.{nothing_selects, one_more_does_not, one_more_matches}
use Rattle.gqlvalidate_patterns.proofs.matching.selects_characters.Goals as goal
use Rattle.gqlvalidate_patterns.proofs.matching.selects_characters.Goals.{else-branch, then-branch}

true_and_false : (b : Bool) → b ≡ true → b ≡ false → ⊥
true_and_false b is not = cc

pub loop-pattern-init : goal.loop-pattern-init
loop-pattern-init c = (λ is. absurd (cc), λ s. absurd (nothing_selects c.args.path.now s))

pub loop-pattern-preserved : goal.loop-pattern-preserved
loop-pattern-preserved c =
    let path = c.args.path.now in
    let p = c.pattern-item.result in
    let before = take c.loop-pattern.pattern-index c.args.patterns.now in
    let front : take (c.loop-pattern.pattern-index + 1) c.args.patterns.now ≡ before ++ p ∷ [] =
    take_more c.args.patterns.now c.loop-pattern.pattern-index p c.loop-pattern-test.true ∙ ap (λ q. before ++ q ∷ []) (sym c.pattern-item.is) in
    let is : (c.if-branch.selects ≡ true) ↔ Selects (before ++ p ∷ []) path =
    elim c.if-branch.branch [
      | then-branch w ↦
          let decides = one_more_matches before p path (c.in_ok-matches_characters.ensures.0 w.if-branch.true) in
          (λ selects. decides.0 (sym w.selects-is ∙ selects), λ s. w.selects-is ∙ decides.1 s)
      | else-branch w ↦
          let passes = one_more_does_not before p path (λ matches. true_and_false _ (c.in_ok-matches_characters.ensures.1 matches) w.if-branch.false) in
          (λ selects. passes.0 (c.loop-pattern.invariant.0 (sym w.selects-is ∙ selects)), λ s. w.selects-is ∙ c.loop-pattern.invariant.1 (passes.1 s))
    ] in
    subst (λ patterns. (c.if-branch.selects ≡ true) ↔ Selects patterns path) (sym front) is

pub returns : goal.returns
returns c =
    subst (λ patterns. (c.loop-pattern.selects ≡ true) ↔ Selects patterns c.args.path.now) (take_all c.loop-pattern.pattern-index c.args.patterns.now c.loop-pattern-test.false)
    c.loop-pattern.invariant
