-- A pattern stands for a path where its row marks the last place, and the last pattern that does decides.
use Rattle.std.proofs.Common.{◌≡◌, ◌∙◌, ◌+◌, ◌≤◌, ◌++◌, ℕ, Bool, true, false, List, [], ◌∷◌, arith, get_or, inl, inr, length, replicate, refl, sym, ap, subst, set}
use Rattle.std.specs.Prelude.{◌↔◌, ◌⊎◌, All, IsFalse, not}
use Rattle.std.proofs.lemmas.List.{append_assoc, get_or-replicate, get_or-set_other, get_or-set_same, get_or_append_left, length-append, length-replicate, length-set, take_all}
use Rattle.std.proofs.lemmas.List.Elements.{All-nil, All-push}
use Rattle.std.proofs.Math.Seq.{get_or-append_seam}
use Rattle.gqlvalidate_patterns.specs.Patterns.{Matches, Selects}
use Rattle.gqlvalidate_patterns.specs.Rows.{IsRowBehind, Marks, between}
use Rattle.gqlvalidate_patterns.specs.declared.patterns.Pattern.{Pattern}

-- the first place alone is marked
abbrev pub first_place : List ℕ → List Bool
first_place path = set (replicate (length path + 1) false) 0 true

pub first_place_long : (path : List ℕ) → length (first_place path) ≡ length path + 1
first_place_long path = length-set (replicate (length path + 1) false) 0 true ∙ length-replicate (length path + 1) false

only_first : (path : List ℕ) (place : ℕ) → place ≤ length path → Marks (first_place path) place → place ≡ 0
only_first path place within marked = elim (zero_or_more place) [
  | inl zero ↦ zero
  | inr more ↦
      let other : get_or (first_place path) place false ≡ false =
      get_or-set_other (replicate (length path + 1) false) 0 place true false (λ e. omega arith) ∙ get_or-replicate (length path + 1) place false false (omega arith) in
      absurd (cc)
]
  where
    zero_or_more : (n : ℕ) → (n ≡ 0) ⊎ (1 ≤ n)
    zero_or_more n = grind arith

is_first : (path : List ℕ) → Marks (first_place path) 0
is_first path = get_or-set_same (replicate (length path + 1) false) 0 true false (omega (arith, length-replicate (length path + 1) false))

pub last_place : (Match : List ℕ → Type 0) (path : List ℕ) (row : List Bool) → IsRowBehind Match path (first_place path) row → Marks row (length path) ↔ Match path
last_place Match path row h = (
  λ marked.
      let found = (h.each (length path) (omega arith)).0 marked in
      let first = only_first path found.0 found.1 found.2 in
      subst Match (ap (λ from. between path from (length path)) first ∙ whole) found.3,
  λ matched. (h.each (length path) (omega arith)).1 (0, omega arith, is_first path, subst Match (sym whole) matched),
)
  where
    whole : between path 0 (length path) ≡ path
    whole = take_all (length path) path (omega arith)

-- ==== the last that matches

pub nothing_selects : (path : List ℕ) → Selects [] path → ⊥
nothing_selects path s = omega (arith, ap length s.are, length-append s.before (s.last ∷ s.after))

-- a list that ends in an element has this one last, and the others before it
last_splits : {X : Type 0} (xs before after : List X) (x last : X) → xs ++ x ∷ [] ≡ before ++ last ∷ after →
    ((after ≡ []) × (xs ≡ before) × (x ≡ last)) ⊎ ((rest : List X) × (after ≡ rest ++ x ∷ []) × (xs ≡ before ++ last ∷ rest))
last_splits [] [] [] x last is = inl (refl, refl, cc)
last_splits [] [] (a ∷ after) x last is = absurd (cc)
last_splits [] (b ∷ before) after x last is = absurd (omega (arith, ap length is, length-append before (last ∷ after)))
last_splits (y ∷ ys) [] after x last is = let y_is : y ≡ last = cc in let rest : ys ++ x ∷ [] ≡ after = cc in inr (ys, sym rest, ap (λ l. l ∷ ys) y_is)
last_splits {X = X} (y ∷ ys) (b ∷ before) after x last is =
    let b_is : y ≡ b = cc in
    let rest : ys ++ x ∷ [] ≡ before ++ last ∷ after = cc in
    elim (last_splits ys before after x last rest) [
      | inl here ↦ inl (here.0, cons_both y b ys before b_is here.1, here.2)
      | inr there ↦ inr (there.0, there.1, cons_both y b ys (before ++ last ∷ there.0) b_is there.2)
    ]
  where
    cons_both : (u v : X) (us vs : List X) → u ≡ v → us ≡ vs → u ∷ us ≡ v ∷ vs
    cons_both u v us vs first rest = cc

pub one_more_matches : (patterns : List Pattern) (p : Pattern) (path : List ℕ) → Matches p path → (not p.takes_out ≡ true) ↔ Selects (patterns ++ p ∷ []) path
one_more_matches patterns p path matches = (
  λ kept. record { before = patterns; last = p; after = []; are = refl; matches = matches; none_after = All-nil (λ q. ¬ Matches q path); kept = kept_too p.takes_out kept },
  λ s. elim (last_splits patterns s.before s.after p s.last s.are) [
    | inl here ↦ kept_back p.takes_out (subst (λ (q : Pattern). IsFalse q.takes_out) (sym here.2) s.kept)
    | inr there ↦ absurd (last_of_all (λ q. ¬ Matches q path) there.0 p (subst (All (λ q. ¬ Matches q path)) there.1 s.none_after) matches)
  ],
)
  where
    kept_too : (b : Bool) → not b ≡ true → IsFalse b
    kept_too true h = absurd (cc)
    kept_too false h = refl

    kept_back : (b : Bool) → IsFalse b → not b ≡ true
    kept_back true h = absurd (cc)
    kept_back false h = refl

    last_of_all : (P : Pattern → Type 0) (xs : List Pattern) (x : Pattern) → All P (xs ++ x ∷ []) → P x
    last_of_all P xs x all = subst P (get_or-append_seam xs x [] x) (all (length xs) x (omega (arith, length-append xs (x ∷ []))))

pub one_more_does_not : (patterns : List Pattern) (p : Pattern) (path : List ℕ) → ¬ Matches p path → Selects patterns path ↔ Selects (patterns ++ p ∷ []) path
one_more_does_not patterns p path not_matched = (
  λ s. record {
    before = s.before;
    last = s.last;
    after = s.after ++ p ∷ [];
    are = ap (λ l. l ++ p ∷ []) s.are ∙ append_assoc s.before (s.last ∷ s.after) (p ∷ []);
    matches = s.matches;
    none_after = All-push (λ q. ¬ Matches q path) s.after p s.none_after not_matched;
    kept = s.kept;
  },
  λ s. elim (last_splits patterns s.before s.after p s.last s.are) [
    | inl here ↦ absurd (not_matched (subst (λ q. Matches q path) (sym here.2) s.matches))
    | inr there ↦ record {
      before = s.before;
      last = s.last;
      after = there.0;
      are = there.2;
      matches = s.matches;
      none_after = front_of_all (λ q. ¬ Matches q path) there.0 p (subst (All (λ q. ¬ Matches q path)) there.1 s.none_after);
      kept = s.kept;
    }
  ],
)
  where
    front_of_all : (P : Pattern → Type 0) (xs : List Pattern) (x : Pattern) → All P (xs ++ x ∷ []) → All P xs
    front_of_all P xs x all k d within = subst P (get_or_append_left xs (x ∷ []) d k within) (all k d (omega (arith, length-append xs (x ∷ []))))
