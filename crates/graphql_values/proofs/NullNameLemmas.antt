-- The names of the entries of an object value that are null: what one more entry changes.
use Rattle.std.proofs.Common.{◌≡◌, ◌↔◌, ℕ, ◌+◌, ◌<◌, Bool, true, false, Bor, List, [], ◌∷◌, ◌++◌, Option, Some, None, cond, refl, length, get_or, take, sym, subst, ◌∙◌, true≢false}
use Rattle.std.specs.HashMap.{HashMap}
use Rattle.std.specs.Option.{option_or}
use Rattle.std.specs.Prelude.{IsFalse, is_some, ◌≢◌}
use Rattle.std.proofs.lemmas.List.Elements.{All-head, All-push}
use Rattle.graphql_documents.proofs.ListLemmas.{All-append_left, All-append_right, more_is}
use Rattle.graphql_documents.specs.declared.documents.values.Value.TheVariants as literal
use Rattle.graphql_documents.specs.declared.documents.values.Value.{Value}
use Rattle.graphql_name_tables.specs.Places.{AddsPlace, place_under}
use Rattle.graphql_nodes.specs.Names.{NameText, SameName, same_name}
use Rattle.graphql_nodes.specs.declared.nodes.Node.{Node}
use Rattle.graphql_specification.specs.Values.{HasNoNullEntry}
use Rattle.graphql_values.specs.EntriesByName.{HasNullNames}

-- the last of some entries is not null under the name
abbrev IsNoNull : NameText × Node Value → NameText → Type 0
IsNoNull x name = SameName x.0 name → x.1.value.value ≢ literal.Null

no_null_more : (xs : List (NameText × Node Value)) (x : NameText × Node Value) (name : NameText) →
    (HasNoNullEntry xs name × IsNoNull x name) ↔ HasNoNullEntry (xs ++ x ∷ []) name
no_null_more xs x name =
    let P : NameText × Node Value → Type 0 = λ entry. IsNoNull entry name in (
      λ both. All-push P xs x both.0 both.1,
      λ all. (All-append_left P xs (x ∷ []) all, All-head P x [] (All-append_right P xs (x ∷ []) all)),
    )

-- neither of two choices was taken
neither : (o : Option ℕ) (b : Bool) (n : ℕ) → (option_or o (cond b (Some n) None) ≡ None) → (o ≡ None) × (b ≡ false)
neither None false n e = (refl, refl)
neither None true n e = absurd (let no : ⊥ = cc in no)
neither (Some k) b n e = absurd (let no : ⊥ = cc in no)

not_true : (b : Bool) → ¬ (b ≡ true) → b ≡ false
not_true true other = absurd (other refl)
not_true false other = refl

-- an entry more that is null
nulls_push : {S : Type 0} {old new : HashMap (Bor NameText) ℕ S} (xs : List (NameText × Node Value)) (x : NameText × Node Value) (place : ℕ) →
    AddsPlace old new x.0 place → x.1.value.value ≡ literal.Null → HasNullNames old xs → HasNullNames new (xs ++ x ∷ [])
nulls_push {S} {old} {new} xs x place adds null has = record { look_up = λ name. (there name, back name) } where
  there : (name : NameText) → place_under new name ≡ None → HasNoNullEntry (xs ++ x ∷ []) name
  there name none =
      let (before, other) = neither (place_under old name) (same_name x.0 name) place (sym (adds.look_up name) ∙ none) in
      (no_null_more xs x name).0 ((has.look_up name).0 before, λ same. absurd (true≢false (sym same ∙ other)))

  back : (name : NameText) → HasNoNullEntry (xs ++ x ∷ []) name → place_under new name ≡ None
  back name all =
      let both = (no_null_more xs x name).1 all in
      let before : place_under old name ≡ None = (has.look_up name).1 both.0 in
      let other : same_name x.0 name ≡ false = not_true (same_name x.0 name) (λ same. both.1 same null) in
      adds.look_up name ∙ rw (before, other) refl

-- an entry more that is not
nulls_stay : {S : Type 0} {names : HashMap (Bor NameText) ℕ S} (xs : List (NameText × Node Value)) (x : NameText × Node Value) →
    x.1.value.value ≢ literal.Null → HasNullNames names xs → HasNullNames names (xs ++ x ∷ [])
nulls_stay xs x other has = record {
  look_up = λ name. (
    λ none. (no_null_more xs x name).0 ((has.look_up name).0 none, λ same. other),
    λ all. (has.look_up name).1 ((no_null_more xs x name).1 all).0,
  );
}

-- the same of the first entries of a list
module _ {S : Type 0} (xs : List (NameText × Node Value)) (i : ℕ) (x : NameText × Node Value) (within : i < length xs) (item : x ≡ get_or xs i x) where
  pub nulls_more : {old new : HashMap (Bor NameText) ℕ S} (place : ℕ) → AddsPlace old new x.0 place → x.1.value.value ≡ literal.Null →
      HasNullNames old (take i xs) → HasNullNames new (take (i + 1) xs)
  nulls_more {old} {new} place adds null has = subst (HasNullNames new) (sym (more_is xs i x within item)) (nulls_push (take i xs) x place adds null has)

  pub nulls_kept : {names : HashMap (Bor NameText) ℕ S} → x.1.value.value ≢ literal.Null →
      HasNullNames names (take i xs) → HasNullNames names (take (i + 1) xs)
  nulls_kept {names} other has = subst (HasNullNames names) (sym (more_is xs i x within item)) (nulls_stay (take i xs) x other has)

-- whether a name has no place
pub has_no_place : (o : Option ℕ) → (IsFalse (is_some o)) ↔ (o ≡ None)
has_no_place None = (λ e. refl, λ e. refl)
has_no_place (Some k) = (λ e. absurd (true≢false e), λ e. absurd (let no : ⊥ = cc in no))
