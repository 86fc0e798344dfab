-- Levels that a user gives.
use Rattle.std.proofs.Common.{◌≡◌, ◌∙◌, ℕ, Bool, true, false, not, List, [], ◌∷◌, ◌++◌, Option, None, Some, ap, cond, filter, find, option_map, refl, sym, unwrap_or, if◌then◌else◌}
use Rattle.std.proofs.lemmas.List.Folds.{find-append}
use Rattle.std.proofs.lemmas.Slice.Eq.{bytes_eq-Decides}
use Rattle.std.specs.Option.{option_or}
use Rattle.std.specs.Str.{bytes_eq}
use Rattle.gqlvalidate_levels.specs.Levels.{others_than, usual_level}
use Rattle.gqlvalidate_levels.specs.declared.levels.RuleLevel.{RuleLevel}

-- an element that passes a test is found among those that pass another one, which the former implies
find_filter : {X : Type 0} (q p : X → Bool) → ((x : X) → q x ≡ true → p x ≡ true) → (xs : List X) → find q (filter p xs) ≡ find q xs
find_filter q p implies [] = refl
find_filter q p implies (x ∷ xs) = by_tests (find_filter q p implies xs) (p x) (q x) refl refl where
  by_tests : find q (filter p xs) ≡ find q xs → (b c : Bool) → p x ≡ b → q x ≡ c → find q (cond (p x) (x ∷ filter p xs) (filter p xs)) ≡ cond (q x) (Some x) (find q xs)
  by_tests rest true true is_p is_q = rw (is_p, is_q) refl
  by_tests rest true false is_p is_q = rw (is_p, is_q) rest
  by_tests rest false true is_p is_q = let passes = implies x is_q in cc
  by_tests rest false false is_p is_q = rw (is_p, is_q) rest

-- what is given to one rule is found among what is given to others than another one
others_found : (g rule : List ℕ) (old : List RuleLevel) → bytes_eq g rule ≡ false →
    find (λ (x : RuleLevel). bytes_eq x.rule.now rule) (others_than g old) ≡ find (λ (x : RuleLevel). bytes_eq x.rule.now rule) old
others_found g rule old differs = find_filter (λ (x : RuleLevel). bytes_eq x.rule.now rule) (λ x. not (bytes_eq x.rule.now g)) (λ x is. not_both x is (bytes_eq x.rule.now g) refl) old where
  not_both : (x : RuleLevel) → bytes_eq x.rule.now rule ≡ true → (b : Bool) → bytes_eq x.rule.now g ≡ b → not (bytes_eq x.rule.now g) ≡ true
  not_both x is true same =
      let first = (bytes_eq-Decides x.rule.now rule).0 is in
      let second = (bytes_eq-Decides x.rule.now g).0 same in
      let both : bytes_eq g rule ≡ true = (bytes_eq-Decides g rule).1 (sym second ∙ first) in
      cc
  not_both x is false other = rw other refl

-- the level of a rule once a level is given to a rule
pub level_given : (given : RuleLevel) (old : List RuleLevel) (rule : List ℕ) →
    unwrap_or (option_map (λ (g : RuleLevel). g.level) (find (λ (x : RuleLevel). bytes_eq x.rule.now rule) (given ∷ others_than given.rule.now old))) (usual_level rule)
    ≡ (if bytes_eq given.rule.now rule then given.level else unwrap_or (option_map (λ (g : RuleLevel). g.level) (find (λ (x : RuleLevel). bytes_eq x.rule.now rule) old)) (usual_level rule))
level_given given old rule = by_same (bytes_eq given.rule.now rule) refl where
  by_same : (b : Bool) → bytes_eq given.rule.now rule ≡ b →
      unwrap_or (option_map (λ (g : RuleLevel). g.level) (find (λ (x : RuleLevel). bytes_eq x.rule.now rule) (given ∷ others_than given.rule.now old))) (usual_level rule)
      ≡ (if bytes_eq given.rule.now rule then given.level else unwrap_or (option_map (λ (g : RuleLevel). g.level) (find (λ (x : RuleLevel). bytes_eq x.rule.now rule) old)) (usual_level rule))
  by_same true same = rw same refl
  by_same false differs = rw (differs, others_found given.rule.now rule old differs) refl

-- what is given to a rule by two lists, the first of which counts
pub given_both : (xs ys : List RuleLevel) (rule : List ℕ) →
    option_map (λ (g : RuleLevel). g.level) (find (λ (x : RuleLevel). bytes_eq x.rule.now rule) (xs ++ ys))
    ≡ option_or (option_map (λ (g : RuleLevel). g.level) (find (λ (x : RuleLevel). bytes_eq x.rule.now rule) xs)) (option_map (λ (g : RuleLevel). g.level) (find (λ (x : RuleLevel). bytes_eq x.rule.now rule) ys))
given_both xs ys rule =
    ap (option_map (λ (g : RuleLevel). g.level)) (find-append (λ (x : RuleLevel). bytes_eq x.rule.now rule) xs ys)
    ∙ map_or (find (λ (x : RuleLevel). bytes_eq x.rule.now rule) xs) (find (λ (x : RuleLevel). bytes_eq x.rule.now rule) ys) where
      map_or : (a b : Option RuleLevel) → option_map (λ (g : RuleLevel). g.level) (option_or a b) ≡ option_or (option_map (λ (g : RuleLevel). g.level) a) (option_map (λ (g : RuleLevel). g.level) b)
      map_or None b = refl
      map_or (Some x) b = refl
