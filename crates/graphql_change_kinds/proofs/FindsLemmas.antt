-- How the parts of a comparison compose.
use Rattle.std.proofs.Common.{◌≡◌, ℕ, suc, ◌+◌, ◌<◌, ◌≤◌, List, [], ◌∷◌, ◌++◌, length, get_or, take, Bool, true, false, cond, Some, find, refl, sym, subst, All, arith, ◌∙◌, ap}
use Rattle.std.specs.Prelude.{Any, Result, Ok}
use Rattle.std.specs.Map.{lookup}
use Rattle.std.proofs.lemmas.List.{append-nil, take_all}
use Rattle.std.proofs.lemmas.List.Elements.{All-append, All-cons, All-head, All-more, All-nil, All-tail}
use Rattle.std.proofs.lemmas.Option.{same_Some}
use Rattle.graphql_documents.specs.declared.documents.schemas.Schema.{Schema}
use Rattle.graphql_change_kinds.specs.Found.{Adds, Finds}
use Rattle.graphql_change_kinds.specs.declared.change_list.ChangeList.{ChangeList}

-- what is found in a list is one of it of which this holds
pub found_any : {X : Type 0} (p : X → Bool) (Q : X → Type 0) (xs : List X) (x : X) → find p xs ≡ Some x → (p x ≡ true → Q x) → Any Q xs
found_any p Q [] x e q = absurd (let h : ⊥ = cc in h)
found_any {X} p Q (y ∷ ys) x e q = by (p y) refl e (found_any p Q ys x) where
  by : (b : Bool) → p y ≡ b → cond b (Some y) (find p ys) ≡ Some x → (find p ys ≡ Some x → (p x ≡ true → Q x) → Any Q ys) → Any Q (y ∷ ys)
  by true t e behind = let same : y ≡ x = same_Some y x e in (0, x, omega arith, same, q (subst (λ z. p z ≡ true) same t))
  by false t e behind = let rest = behind e q in (suc rest.0, rest.1, omega (arith, rest.2), rest.3, rest.4)

-- the same of what is looked up under a key
pub looked_up_any : {K V : Type 0} (p : K → Bool) (Q : K × V → Type 0) (es : List (K × V)) (v : V) → lookup p es ≡ Some v → ((k : K) → p k ≡ true → Q (k, v)) → Any Q es
looked_up_any p Q [] v e q = absurd (let h : ⊥ = cc in h)
looked_up_any {K} {V} p Q (y ∷ ys) v e q = by (p y.0) refl e (looked_up_any p Q ys v) where
  by : (b : Bool) → p y.0 ≡ b → cond b (Some y.1) (lookup p ys) ≡ Some v → (lookup p ys ≡ Some v → ((k : K) → p k ≡ true → Q (k, v)) → Any Q ys) → Any Q (y ∷ ys)
  by true t e behind =
      let same : y.1 ≡ v = same_Some y.1 v e in
      (0, y, omega arith, refl, subst (λ w. Q (y.0, w)) (sym same) (q y.0 t))
  by false t e behind = let rest = behind e q in (suc rest.0, rest.1, omega (arith, rest.2), rest.3, rest.4)

-- what holds of all entries holds of what is looked up, under its key
pub looked_up : {K V : Type 0} (p : K → Bool) (P : K × V → Type 0) (es : List (K × V)) (v : V) → lookup p es ≡ Some v → All P es → (k : K) × (p k ≡ true) × P (k, v)
looked_up p P [] v e all = absurd (let h : ⊥ = cc in h)
looked_up {K} {V} p P (y ∷ ys) v e all = by (p y.0) refl e (looked_up p P ys v) where
  by : (b : Bool) → p y.0 ≡ b → cond b (Some y.1) (lookup p ys) ≡ Some v → (lookup p ys ≡ Some v → All P ys → (k : K) × (p k ≡ true) × P (k, v)) → (k : K) × (p k ≡ true) × P (k, v)
  by true t e behind = let same : y.1 ≡ v = same_Some y.1 v e in (y.0, t, subst (λ w. P (y.0, w)) same (All-head P y ys all))
  by false t e behind = behind e (All-tail P y ys all)

-- and of what is found in a list
pub found_all : {X : Type 0} (p : X → Bool) (P : X → Type 0) (xs : List X) (x : X) → find p xs ≡ Some x → All P xs → (p x ≡ true) × P x
found_all p P [] x e all = absurd (let h : ⊥ = cc in h)
found_all {X} p P (y ∷ ys) x e all = by (p y) refl e (found_all p P ys x) where
  by : (b : Bool) → p y ≡ b → cond b (Some y) (find p ys) ≡ Some x → (find p ys ≡ Some x → All P ys → (p x ≡ true) × P x) → (p x ≡ true) × P x
  by true t e behind = let same : y ≡ x = same_Some y x e in (subst (λ z. p z ≡ true) same t, subst P same (All-head P y ys all))
  by false t e behind = behind e (All-tail P y ys all)

-- the same is looked up by tests that agree
pub looked_up_alike : {K V : Type 0} (p q : K → Bool) → ((k : K) → p k ≡ q k) → (es : List (K × V)) → lookup p es ≡ lookup q es
looked_up_alike p q alike [] = refl
looked_up_alike p q alike (y ∷ ys) = ap (λ b. cond b (Some y.1) (lookup p ys)) (alike y.0) ∙ ap (λ o. cond (q y.0) (Some y.1) o) (looked_up_alike p q alike ys)

-- ==== what is found between two lists of changes

module _ {old new : Schema} {a : ChangeList} where
  -- nothing is added
  pub keeps_here : {P : Bool → Type 0} → ((merging : Bool) → P merging) → Finds old new a a P
  keeps_here p = record { keeps = λ merging harmless. (harmless, p merging); each = λ all. all }

module _ {old new : Schema} {a b : ChangeList} where
  pub found_words : {P Q : Bool → Type 0} → ((merging : Bool) → P merging → Q merging) → Finds old new a b P → Finds old new a b Q
  found_words w f = record { keeps = λ merging harmless. let both = f.keeps merging harmless in (both.0, w merging both.1); each = f.each }

module _ {old new : Schema} {a b c : ChangeList} where
  pub found_both : {P Q : Bool → Type 0} → Finds old new a b P → Finds old new b c Q → Finds old new a c (λ merging. P merging × Q merging)
  found_both f g = record {
    keeps = λ merging harmless. let last = g.keeps merging harmless in let first = f.keeps merging last.0 in (first.0, (first.1, last.1));
    each = λ all. g.each (f.each all);
  }

module _ {old new : Schema} {a b c : ChangeList} {X : Type 0} (P : Bool → X → Type 0) where
  -- one more of a list, by its place
  pub found_more : (xs : List X) (i : ℕ) (x : X) → i < length xs → x ≡ get_or xs i x →
      Finds old new a b (λ merging. All (P merging) (take i xs)) → Finds old new b c (λ merging. P merging x) → Finds old new a c (λ merging. All (P merging) (take (i + 1) xs))
  found_more xs i x within item f g =
      found_words (λ merging two. All-more (P merging) xs i x within two.0 (subst (P merging) item two.1)) (found_both f g)

  -- one more behind those that were gone through
  pub found_behind : (done : List X) (x : X) →
      Finds old new a b (λ merging. All (P merging) done) → Finds old new b c (λ merging. P merging x) → Finds old new a c (λ merging. All (P merging) (done ++ x ∷ []))
  found_behind done x f g =
      found_words (λ merging two. All-append (P merging) done (x ∷ []) two.0 (All-cons (P merging) x [] two.1 (All-nil (P merging)))) (found_both f g)

module _ {old new : Schema} {a b : ChangeList} {X : Type 0} (P : Bool → X → Type 0) where
  -- all of a list
  pub found_all_of : (xs : List X) (i : ℕ) → length xs ≤ i → Finds old new a b (λ merging. All (P merging) (take i xs)) → Finds old new a b (λ merging. All (P merging) xs)
  found_all_of xs i past f = found_words (λ merging all. subst (All (P merging)) (take_all i xs past) all) f

  -- all that were gone through, where none is left
  pub found_whole : (all done left : List X) → all ≡ done ++ left → left ≡ [] → Finds old new a b (λ merging. All (P merging) done) → Finds old new a b (λ merging. All (P merging) all)
  found_whole all done left whole none f =
      found_words (λ merging kept. subst (All (P merging)) (sym (whole ∙ ap (λ l. done ++ l) none ∙ append-nil done)) kept) f

-- none of a list yet
pub found_none : {old new : Schema} {a : ChangeList} {X : Type 0} (P : Bool → X → Type 0) → Finds old new a a (λ merging. All (P merging) [])
found_none P = keeps_here (λ merging. All-nil (P merging))

-- nothing was compared
pub adds_none : {old new : Schema} {a : ChangeList} → Adds old new a a
adds_none = keeps_here (λ merging. tt)

pub adds_then : {old new : Schema} {a b c : ChangeList} → Adds old new a b → Adds old new b c → Adds old new a c
adds_then f g = found_words (λ merging both. tt) (found_both f g)

-- whatever was found
pub adds_found : {old new : Schema} {a b : ChangeList} {P : Bool → Type 0} → Finds old new a b P → Adds old new a b
adds_found f = found_words (λ merging p. tt) f

-- a copy of an element, by its place
pub found_more_copy : {old new : Schema} {a b c : ChangeList} {X : Type 0} (P : Bool → X → Type 0) (xs : List X) (i : ℕ) (d : X) → i < length xs →
    Finds old new a b (λ merging. All (P merging) (take i xs)) → Finds old new b c (λ merging. P merging (get_or xs i d)) → Finds old new a c (λ merging. All (P merging) (take (i + 1) xs))
found_more_copy P xs i d within f g = found_words (λ merging two. All-more (P merging) xs i d within two.0 two.1) (found_both f g)

-- one answer is one value
pub one_ok : {X E : Type 0} (r : Result X E) (x y : X) → r ≡ Ok x → r ≡ Ok y → x ≡ y
one_ok r x y e h = cc
