-- How calls that add to a list compose: which elements are in the list behind them.
use Rattle.std.proofs.Common.{◌≡◌, ◌↔◌, ℕ, ◌+◌, ◌<◌, ◌≤◌, List, [], ◌∷◌, ◌++◌, length, get_or, take, map, sym, subst, Contains}
use Rattle.std.specs.Prelude.{◌⊎◌, Any, Result, Ok, Err, OnOk}
use Rattle.std.proofs.lemmas.List.{take_all}
use Rattle.std.proofs.lemmas.List.Elements.{Contains-append_cases, Contains-append_left, Contains-append_right}
use mathlib.Core.Logic.{inl, inr}
use Rattle.graphql_documents.proofs.ListLemmas.{made_of, only_one, stands_first, stands_mapped}
use Rattle.graphql_variables.proofs.UseLemmas.{any_has, any_more, has_any, none_in_none}
use Rattle.graphql_usage_rules.specs.Scopes.{Adds}

module _ {X : Type 0} where
  -- nothing is added, and one element is
  pub adds_none : (P : X → Type 0) (xs : List X) → ((x : X) → ¬ P x) → Adds P xs xs
  adds_none P xs none x = (
    λ there. inl there,
    λ some. elim some [
      | inl there ↦ there
      | inr p ↦ absurd (none x p)
    ],
  )

  pub adds_one : (P : X → Type 0) (old new : List X) (y : X) → new ≡ old ++ y ∷ [] → ((x : X) → P x ↔ (x ≡ y)) → Adds P old new
  adds_one P old new y is only x = (
    λ there. to_cases (Contains-append_cases old (y ∷ []) x (subst (λ l. Contains l x) is there)),
    λ some. subst (λ l. Contains l x) (sym is) (from_cases some),
  ) where
    to_cases : Contains old x ⊎ Contains (y ∷ []) x → Contains old x ⊎ P x
    to_cases (inl there) = inl there
    to_cases (inr last) = inr ((only x).1 (only_one y x last))

    from_cases : Contains old x ⊎ P x → Contains (old ++ y ∷ []) x
    from_cases (inl there) = Contains-append_left old (y ∷ []) x there
    from_cases (inr p) = Contains-append_right old (y ∷ []) x (subst (Contains (y ∷ [])) (sym ((only x).0 p)) (stands_first y []))

  -- some are added after others
  pub adds_then : (P Q : X → Type 0) (old mid new : List X) → Adds P old mid → Adds Q mid new → Adds (λ x. P x ⊎ Q x) old new
  adds_then P Q old mid new a b x = (λ there. forth ((b x).0 there), λ some. (b x).1 (back some)) where
    before : Contains old x ⊎ P x → Contains old x ⊎ (P x ⊎ Q x)
    before (inl there) = inl there
    before (inr p) = inr (inl p)

    forth : Contains mid x ⊎ Q x → Contains old x ⊎ (P x ⊎ Q x)
    forth (inl there) = before ((a x).0 there)
    forth (inr q) = inr (inr q)

    back : Contains old x ⊎ (P x ⊎ Q x) → Contains mid x ⊎ Q x
    back (inl there) = inl ((a x).1 (inl there))
    back (inr (inl p)) = inl ((a x).1 (inr p))
    back (inr (inr q)) = inr q

  -- the same elements in other words
  pub adds_words : (P Q : X → Type 0) (old new : List X) → ((x : X) → P x ↔ Q x) → Adds P old new → Adds Q old new
  adds_words P Q old new w a x = (λ there. forth ((a x).0 there), λ some. (a x).1 (back some)) where
    forth : Contains old x ⊎ P x → Contains old x ⊎ Q x
    forth (inl there) = inl there
    forth (inr p) = inr ((w x).0 p)

    back : Contains old x ⊎ Q x → Contains old x ⊎ P x
    back (inl there) = inl there
    back (inr q) = inr ((w x).1 q)

  pub then_on_ok : {T E : Type 0} (r : Result T E) (P Q R : X → Type 0) (old mid new : List X) → ((x : X) → (P x ⊎ Q x) ↔ R x) → Adds P old mid → OnOk r (Adds Q mid new) → OnOk r (Adds R old new)
  then_on_ok (Ok y) P Q R old mid new w a b = adds_words (λ x. P x ⊎ Q x) R old new w (adds_then P Q old mid new a b)
  then_on_ok (Err y) P Q R old mid new w a b = b

  pub words_on_ok : {T E : Type 0} (r : Result T E) (P Q : X → Type 0) (old new : List X) → ((x : X) → P x ↔ Q x) → OnOk r (Adds P old new) → OnOk r (Adds Q old new)
  words_on_ok (Ok y) P Q old new w a = adds_words P Q old new w a
  words_on_ok (Err y) P Q old new w a = a

  -- a walk over a list that adds what is in each element: none yet, one more, and all
  module _ {Y : Type 0} (In : Y → X → Type 0) (ys : List Y) where
    pub adds_none_yet : (old : List X) → Adds (λ x. Any (λ y. In y x) (take 0 ys)) old old
    adds_none_yet old = adds_none (λ x. Any (λ y. In y x) (take 0 ys)) old (λ x any. none_in_none (λ y. In y x) any)

    pub adds_more : (i : ℕ) (y : Y) (old mid new : List X) → i < length ys → y ≡ get_or ys i y →
        Adds (λ x. Any (λ y. In y x) (take i ys)) old mid → Adds (In y) mid new → Adds (λ x. Any (λ y. In y x) (take (i + 1) ys)) old new
    adds_more i y old mid new within item a b =
        adds_words (λ x. Any (λ y. In y x) (take i ys) ⊎ In y x) (λ x. Any (λ y. In y x) (take (i + 1) ys)) old new
        (λ x. let more = any_more (λ y. In y x) ys i y within item in (more.1, more.0))
        (adds_then (λ x. Any (λ y. In y x) (take i ys)) (In y) old mid new a b)

    pub adds_all : (i : ℕ) (old new : List X) → length ys ≤ i →
        Adds (λ x. Any (λ y. In y x) (take i ys)) old new → Adds (λ x. Any (λ y. In y x) ys) old new
    adds_all i old new past h = subst (λ l. Adds (λ x. Any (λ y. In y x) l) old new) (take_all i ys past) h

    -- the same by an iterator, where those that were done are a list of their own
    pub adds_none_done : (old : List X) → Adds (λ x. Any (λ y. In y x) []) old old
    adds_none_done old = adds_none (λ x. Any (λ y. In y x) []) old (λ x any. none_in_none (λ y. In y x) any)

  module _ {Y : Type 0} (In : Y → X → Type 0) where
    any_last : (done : List Y) (y : Y) (x : X) → (Any (λ y. In y x) done ⊎ In y x) ↔ Any (λ y. In y x) (done ++ y ∷ [])
    any_last done y x = (forth, λ any. let h = any_has (λ y. In y x) (done ++ y ∷ []) any in back h.0 h.2 (Contains-append_cases done (y ∷ []) h.0 h.1)) where
      forth : Any (λ y. In y x) done ⊎ In y x → Any (λ y. In y x) (done ++ y ∷ [])
      forth (inl any) = let h = any_has (λ y. In y x) done any in has_any (λ y. In y x) (done ++ y ∷ []) h.0 (Contains-append_left done (y ∷ []) h.0 h.1) h.2
      forth (inr here) = has_any (λ y. In y x) (done ++ y ∷ []) y (Contains-append_right done (y ∷ []) y (stands_first y [])) here

      back : (z : Y) → In z x → Contains done z ⊎ Contains (y ∷ []) z → Any (λ y. In y x) done ⊎ In y x
      back z has (inl there) = inl (has_any (λ y. In y x) done z there has)
      back z has (inr last) = inr (subst (λ z. In z x) (only_one y z last) has)

    pub adds_done : (done : List Y) (y : Y) (old mid new : List X) →
        Adds (λ x. Any (λ y. In y x) done) old mid → Adds (In y) mid new → Adds (λ x. Any (λ y. In y x) (done ++ y ∷ [])) old new
    adds_done done y old mid new a b =
        adds_words (λ x. Any (λ y. In y x) done ⊎ In y x) (λ x. Any (λ y. In y x) (done ++ y ∷ [])) old new (any_last done y)
        (adds_then (λ x. Any (λ y. In y x) done) (In y) old mid new a b)

  -- what is in one of the elements that were made of others
  pub any_made : {Y Z : Type 0} (f : Y → Z) (In : Z → X → Type 0) (ys : List Y) (x : X) → Any (λ y. In (f y) x) ys ↔ Any (λ z. In z x) (map f ys)
  any_made f In ys x = (
    λ any. let h = any_has (λ y. In (f y) x) ys any in has_any (λ z. In z x) (map f ys) (f h.0) (stands_mapped f ys h.0 h.1) h.2,
    λ any.
        let h = any_has (λ z. In z x) (map f ys) any in
        let made = made_of f ys h.0 h.1 in
        has_any (λ y. In (f y) x) ys made.0 made.1 (subst (λ z. In z x) (sym made.2) h.2),
  )
