-- Tables of the places of the first elements of each name: what one more element changes, and what is found.
use Rattle.std.proofs.Common.{◌≡◌, ◌↔◌, ℕ, ◌<◌, ◌+◌, Bool, true, false, not, Bor, List, [], ◌∷◌, ◌++◌, Option, Some, None, cond, refl, length, get_or, take, sym, ap, subst, ◌∙◌, arith}
use Rattle.std.specs.HashMap.{HashMap}
use Rattle.std.specs.Option.{option_copied, option_or}
use Rattle.std.specs.Prelude.{IsNone, IsSome, IsTrue, is_some}
use Rattle.std.proofs.lemmas.List.{length-take-le}
use Rattle.graphql_nodes.specs.Names.{NameText, same_name}
use Rattle.graphql_documents.proofs.ListLemmas.{more_is}
use Rattle.graphql_name_tables.proofs.PositionLemmas.{position-push}
use Rattle.graphql_name_tables.specs.Places.{AddsPlace, HasPlaces}

-- a choice with nothing behind it
option_or_none : {X : Type 0} (o : Option X) → option_or o None ≡ o
option_or_none None = refl
option_or_none (Some x) = refl

-- what is put in front of nothing may as well be put behind it
pub chosen_or : {X : Type 0} (b : Bool) (x : X) (o : Option X) → (b ≡ true → o ≡ None) → cond b (Some x) o ≡ option_or o (cond b (Some x) None)
chosen_or true x o none = rw (none refl) refl
chosen_or false x o none = sym (option_or_none o)

-- what is there already needs nothing behind it
pub kept_or : {X : Type 0} (b : Bool) (x : X) (o : Option X) → (b ≡ true → ¬ (o ≡ None)) → o ≡ option_or o (cond b (Some x) None)
kept_or b x (Some y) some = refl
kept_or true x None some = absurd (some refl refl)
kept_or false x None some = refl

module _ {T S : Type 0} (name_of : T → NameText) where
  -- one element more, behind the others
  pub places_push : {old new : HashMap (Bor NameText) ℕ S} (xs : List T) (x : T) →
      AddsPlace old new (name_of x) (length xs) → HasPlaces name_of old xs → HasPlaces name_of new (xs ++ x ∷ [])
  places_push xs x adds has = record {
    look_up = λ name.
        adds.look_up name ∙ ap (λ o. option_or o (cond (same_name (name_of x) name) (Some (length xs)) None)) (has.look_up name) ∙
        sym (position-push (λ (y : T). same_name (name_of y) name) xs x);
  }

  -- the same of the first elements of a list
  pub places_more : {old new : HashMap (Bor NameText) ℕ S} (xs : List T) (i : ℕ) (x : T) →
      i < length xs → x ≡ get_or xs i x → AddsPlace old new (name_of x) i → HasPlaces name_of old (take i xs) → HasPlaces name_of new (take (i + 1) xs)
  places_more {old} {new} xs i x within item adds has =
      let count : length (take i xs) ≡ i = length-take-le i xs (omega arith) in
      subst (HasPlaces name_of new) (sym (more_is xs i x within item))
      (places_push (take i xs) x (subst (AddsPlace old new (name_of x)) (sym count) adds) has)

-- whether nothing is found
pub nothing_found : {X : Type 0} (got : Option (Bor X)) (found : Option X) (none : Bool) → option_copied got ≡ found → is_some got ≡ not none → IsTrue none ↔ IsNone found
nothing_found None found true same is = (λ h. subst (λ o. IsNone o) same refl, λ h. refl)
nothing_found None found false same is = absurd (let no : ⊥ = cc in no)
nothing_found (Some x) found true same is = absurd (let no : ⊥ = cc in no)
nothing_found (Some x) found false same is = (
  λ h. absurd (let no : ⊥ = cc in no),
  λ none. absurd (let there = subst (λ o. IsSome o) same refl in let no : ⊥ = cc in no),
)

pub is_nothing : {X : Type 0} (o : Option X) → IsNone o → o ≡ None
is_nothing None none = refl
is_nothing (Some x) none = absurd (let no : ⊥ = cc in no)

pub is_something : {X : Type 0} (o : Option X) → ¬ IsNone o → IsSome o
is_something None some = absurd (some refl)
is_something (Some x) some = refl
