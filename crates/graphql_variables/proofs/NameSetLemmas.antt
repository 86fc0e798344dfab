-- Sets and maps whose keys are names: what one more name changes.
use Rattle.std.proofs.Common.{◌≡◌, ◌↔◌, ℕ, ◌+◌, ◌<◌, Bool, true, false, List, [], ◌∷◌, ◌++◌, length, get_or, take, map, refl, sym, ap, ◌∙◌, subst, Contains}
use Rattle.std.specs.Prelude.{◌⊎◌, Result, Ok, Err, IfOk}
use Rattle.std.specs.Borrow.{Bor}
use Rattle.std.specs.List.{list_any}
use Rattle.std.proofs.lemmas.List.{map-append}
use Rattle.std.proofs.lemmas.List.Elements.{Contains-append_left, Contains-append_right, Contains-append_cases}
use Rattle.std.proofs.lemmas.List.Folds.{Any-from_list_any, list_any-from_Any}
use Rattle.indexmap.specs.IndexMap.{insert_entry}
use Rattle.indexmap.specs.IndexSet.{insert_key}
use mathlib.Core.Logic.{inl, inr}
use Rattle.graphql_nodes.specs.Names.{NameText, SameName, same_name, with_name}
use Rattle.graphql_documents.proofs.ListLemmas.{made_of, more_is, only_one, stands_first, stands_mapped}
use Rattle.graphql_nodes.proofs.NameLemmas.{same_name_back, same_name_then}
use Rattle.graphql_variables.specs.Uses.{IsNamedIn, names_of}
use Rattle.graphql_variables.proofs.UseLemmas.{any_has, has_any}

-- a set that holds some names, in other words
pub has_used_by : {T E : Type 0} (r : Result T E) (keys_in : T → List (Bor NameText)) (P Q : NameText → Type 0) → ((n : NameText) → P n ↔ Q n) →
    IfOk r (λ set. (n : NameText) → IsNamedIn (names_of (keys_in set)) n ↔ P n) → IfOk r (λ set. (n : NameText) → IsNamedIn (names_of (keys_in set)) n ↔ Q n)
has_used_by (Ok set) keys_in P Q w h = λ n. (λ there. (w n).0 ((h n).0 there), λ q. (h n).1 ((w n).1 q))
has_used_by (Err e) keys_in P Q w h = h

-- names of references are the same where their texts are
abbrev pub same_key : Bor NameText → Bor NameText → Bool
same_key a b = same_name a.now b.now

-- what one more name adds
pub named_push : (names : List NameText) (x n : NameText) → IsNamedIn (names ++ x ∷ []) n ↔ (IsNamedIn names n ⊎ SameName x n)
named_push names x n = (λ h. by_place h.0 h.2 (Contains-append_cases names (x ∷ []) h.0 h.1), back) where
  by_place : (u : NameText) → SameName u n → Contains names u ⊎ Contains (x ∷ []) u → IsNamedIn names n ⊎ SameName x n
  by_place u same (inl before) = inl (u, before, same)
  by_place u same (inr last) = inr (subst (λ y. SameName y n) (only_one x u last) same)

  back : IsNamedIn names n ⊎ SameName x n → IsNamedIn (names ++ x ∷ []) n
  back (inl (u, before, same)) = (u, Contains-append_left names (x ∷ []) u before, same)
  back (inr same) = (x, Contains-append_right names (x ∷ []) x (stands_first x []), same)

-- a set that has the name of a reference
pub has_name : (keys : List (Bor NameText)) (k : Bor NameText) → list_any (same_key k) keys ≡ true → IsNamedIn (names_of keys) k.now
has_name keys k e =
    let h = any_has (λ (x : Bor NameText). same_key k x ≡ true) keys (Any-from_list_any (same_key k) keys e) in
    (h.0.now, stands_mapped (λ (b : Bor NameText). b.now) keys h.0 h.1, same_name_back k.now h.0.now h.2)

pub has_no_name : (keys : List (Bor NameText)) (k : Bor NameText) → list_any (same_key k) keys ≡ false → ¬ IsNamedIn (names_of keys) k.now
has_no_name keys k e (u, there, same) =
    let h = made_of (λ (b : Bor NameText). b.now) keys u there in
    let found : list_any (same_key k) keys ≡ true =
    list_any-from_Any (same_key k) keys (has_any (λ (x : Bor NameText). same_key k x ≡ true) keys h.0 h.1
    (same_name_back h.0.now k.now (subst (λ x. SameName x k.now) (sym h.2) same))) in
    let no : ⊥ = cc in no

-- a name that goes into a set
pub named_key : (keys : List (Bor NameText)) (k : Bor NameText) (n : NameText) →
    IsNamedIn (names_of (insert_key same_key keys k)) n ↔ (IsNamedIn (names_of keys) n ⊎ SameName k.now n)
named_key keys k n = by (list_any (same_key k) keys) refl where
  by : (b : Bool) → list_any (same_key k) keys ≡ b →
      IsNamedIn (names_of (insert_key same_key keys k)) n ↔ (IsNamedIn (names_of keys) n ⊎ SameName k.now n)
  by true e = rw e (λ there. inl there, back) where
    back : IsNamedIn (names_of keys) n ⊎ SameName k.now n → IsNamedIn (names_of keys) n
    back (inl there) = there
    back (inr same) = let (u, there, known) = has_name keys k e in (u, there, same_name_then u k.now n known same)
  by false e = rw e
      (subst (λ l. IsNamedIn l n ↔ (IsNamedIn (names_of keys) n ⊎ SameName k.now n)) (sym (map-append (λ (b : Bor NameText). b.now) keys (k ∷ [])))
      (named_push (names_of keys) k.now n))

-- a set that names what the first names of a list do names what one more of them do, with that one
pub named_more : (names : List (Bor NameText)) (i : ℕ) (x : Bor NameText) (keys : List (Bor NameText)) → i < length names → x ≡ get_or names i x →
    ((n : NameText) → IsNamedIn (names_of keys) n ↔ IsNamedIn (names_of (take i names)) n) → (n : NameText) →
    IsNamedIn (names_of (insert_key same_key keys x)) n ↔ IsNamedIn (names_of (take (i + 1) names)) n
named_more names i x keys within item h n =
    subst (λ l. IsNamedIn (names_of (insert_key same_key keys x)) n ↔ IsNamedIn (names_of l) n) (sym (more_is names i x within item)) (
      λ there. more.1 (forth ((named_key keys x n).0 there)),
      λ there. (named_key keys x n).1 (back (more.0 there)),
    ) where
      more : IsNamedIn (names_of (take i names ++ x ∷ [])) n ↔ (IsNamedIn (names_of (take i names)) n ⊎ SameName x.now n)
      more = subst (λ l. IsNamedIn l n ↔ (IsNamedIn (names_of (take i names)) n ⊎ SameName x.now n)) (sym (map-append (λ (b : Bor NameText). b.now) (take i names) (x ∷ [])))
          (named_push (names_of (take i names)) x.now n)

      forth : IsNamedIn (names_of keys) n ⊎ SameName x.now n → IsNamedIn (names_of (take i names)) n ⊎ SameName x.now n
      forth (inl there) = inl ((h n).0 there)
      forth (inr same) = inr same

      back : IsNamedIn (names_of (take i names)) n ⊎ SameName x.now n → IsNamedIn (names_of keys) n ⊎ SameName x.now n
      back (inl there) = inl ((h n).1 there)
      back (inr same) = inr same

-- the names of entries
abbrev pub entry_names : {X : Type 0} → List (Bor NameText × X) → List NameText
entry_names entries = map (λ e. e.0.now) entries

one_inserted : {X : Type 0} (e : Bor NameText × X) (entries : List (Bor NameText × X)) (k : Bor NameText) (v : X) →
    entry_names (insert_entry same_key entries k v) ≡ with_name (entry_names entries) k.now →
    (b : Bool) → same_key k e.0 ≡ b → (d : Bool) → list_any (same_name k.now) (entry_names entries) ≡ d →
    entry_names (insert_entry same_key (e ∷ entries) k v) ≡ with_name (entry_names (e ∷ entries)) k.now
one_inserted e entries k v more true known d rest = rw known refl
one_inserted e entries k v more false other true rest = rw (other, rest) (ap (λ l. e.0.now ∷ l) (more ∙ rw rest refl))
one_inserted e entries k v more false other false rest = rw (other, rest) (ap (λ l. e.0.now ∷ l) (more ∙ rw rest refl))

pub names_inserted : {X : Type 0} (entries : List (Bor NameText × X)) (k : Bor NameText) (v : X) →
    entry_names (insert_entry same_key entries k v) ≡ with_name (entry_names entries) k.now
names_inserted [] k v = refl
names_inserted (e ∷ entries) k v =
    one_inserted e entries k v (names_inserted entries k v) (same_key k e.0) refl (list_any (same_name k.now) (entry_names entries)) refl

-- what is the same as a name is another than the names that differ from it
pub apart : (a b c : NameText) → SameName a b → same_name b c ≡ false → same_name a c ≡ false
apart a b c same other = by (same_name a c) refl where
  by : (d : Bool) → same_name a c ≡ d → same_name a c ≡ false
  by false e = e
  by true e =
      let back : same_name b c ≡ true = same_name_then b a c (same_name_back a b same) e in
      absurd (let no : ⊥ = cc in no)

pub apart_back : (a b c : NameText) → same_name a b ≡ false → SameName b c → same_name a c ≡ false
apart_back a b c other same = by (same_name a c) refl where
  by : (d : Bool) → same_name a c ≡ d → same_name a c ≡ false
  by false e = e
  by true e =
      let there : same_name a b ≡ true = same_name_then a c b e (same_name_back b c same) in
      absurd (let no : ⊥ = cc in no)
