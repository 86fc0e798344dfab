-- Fields by a name of theirs, one more at a time; and the names.
use Rattle.std.proofs.Common.{◌≡◌, Bool, true, false, ◌||◌, bytes_eq, cond, List, [], ◌∷◌, ◌++◌, Some, Vec, map, refl, sym, ap, ◌∙◌, subst, if◌then◌else◌}
use Rattle.std.specs.Prelude.{◌⊎◌, Contains, filter}
use Rattle.std.specs.Borrow.{Bor}
use Rattle.std.specs.List.{list_any}
use Rattle.std.specs.Map.{lookup}
use Rattle.std.specs.declared.alloc.Global.{Global}
use Rattle.std.proofs.lemmas.List.{append-nil}
use Rattle.std.proofs.lemmas.List.Elements.{filter-append}
use mathlib.Core.Logic.{inl, inr}
use Rattle.graphql_documents.proofs.ListLemmas.{kept_by_filter, none_stands}
use Rattle.graphql_nodes.proofs.NameLemmas.{same_name_itself, same_text}
use Rattle.graphql_nodes.specs.Names.{NameText, SameName, same_name}
use Rattle.graphql_pair_merging.specs.FieldGroups.{Groups, IsGrouped, fields_in, group_under, has_name, name_by, names_in}
use Rattle.graphql_pair_merging.specs.declared.field_groups.GroupedBy.{GroupedBy}
use Rattle.graphql_pair_merging.specs.declared.numbered_sets.NumberedField.{NumberedField}

-- names that are the same find the same
found_alike : (groups : Groups) (a b : NameText) → SameName a b → group_under groups a ≡ group_under groups b
found_alike groups a b same = ap (λ t. fields_in (lookup (λ key. bytes_eq t key.now.text) groups)) (same_text a b same)

-- a field was put behind those under its key
pub pushed : (old new : Groups) (key : Bor NameText) (x : NumberedField) (group : Vec NumberedField Global) →
    group.items ≡ group_under old key.now ++ x ∷ [] →
    ((q : Bor NameText) → lookup (λ k. same_name q.now k.now) new ≡ cond (same_name key.now q.now) (Some group) (lookup (λ k. same_name q.now k.now) old)) →
    (name : NameText) → group_under new name ≡ (if same_name key.now name then group_under old name ++ x ∷ [] else group_under old name)
pushed old new key x group items says name =
    ap fields_in (says (record { ref_ptr = key.ref_ptr; now = name })) ∙ by (same_name key.now name) refl where
      by : (b : Bool) → same_name key.now name ≡ b → fields_in (cond b (Some group) (lookup (λ k. same_name name k.now) old)) ≡
          (if b then group_under old name ++ x ∷ [] else group_under old name)
      by true is = items ∙ ap (λ l. l ++ x ∷ []) (found_alike old key.now name is)
      by false is = refl

-- the groups of some fields, with one more under its name, are those of more
pub grouped_next : (by' : GroupedBy) (xs zs : List NumberedField) (x : NumberedField) (old new : Groups) → zs ≡ xs ++ x ∷ [] → IsGrouped by' xs old →
    ((name : NameText) → group_under new name ≡ (if same_name (name_by by' x) name then group_under old name ++ x ∷ [] else group_under old name)) → IsGrouped by' zs new
grouped_next by' xs zs x old new is grouped says name =
    says name ∙ by (has_name by' name x) refl ∙ ap (filter (has_name by' name)) (sym is) where
      by : (b : Bool) → has_name by' name x ≡ b → (if b then group_under old name ++ x ∷ [] else group_under old name) ≡ filter (has_name by' name) (xs ++ x ∷ [])
      by true same =
          ap (λ l. l ++ x ∷ []) (grouped name) ∙ sym (filter-append (has_name by' name) xs (x ∷ []) ∙ ap (λ b. filter (has_name by' name) xs ++ cond b (x ∷ []) []) same)
      by false other =
          grouped name ∙ sym (filter-append (has_name by' name) xs (x ∷ []) ∙ ap (λ b. filter (has_name by' name) xs ++ cond b (x ∷ []) []) other ∙ append-nil (filter (has_name by' name) xs))

-- the field's name is among these
abbrev pub is_among : GroupedBy → List (Bor NameText) → NumberedField → Bool
is_among by' names x = list_any (λ name. same_name (name_by by' x) name.now) names

-- what is looked up is under one of the keys
found_among : (groups : Groups) (name : NameText) (x : NumberedField) → Contains (group_under groups name) x → list_any (λ key. same_name name key.now) (map (λ entry. entry.0) groups) ≡ true
found_among [] name x in' = absurd (none_stands x in')
found_among (entry ∷ groups) name x in' = by (same_name name entry.0.now) refl in' (found_among groups name x) where
  by : (b : Bool) → same_name name entry.0.now ≡ b → Contains (fields_in (cond b (Some entry.1) (lookup (λ key. same_name name key.now) groups))) x →
      (Contains (group_under groups name) x → list_any (λ key. same_name name key.now) (map (λ e. e.0) groups) ≡ true) →
      (same_name name entry.0.now || list_any (λ key. same_name name key.now) (map (λ e. e.0) groups)) ≡ true
  by true is there rest = ap (λ b. b || list_any (λ key. same_name name key.now) (map (λ e. e.0) groups)) is
  by false is there rest = ap (λ b. b || list_any (λ key. same_name name key.now) (map (λ e. e.0) groups)) is ∙ rest there

-- each field's name is among the keys
pub all_among : (by' : GroupedBy) (fields : List NumberedField) (groups : Groups) → IsGrouped by' fields groups → (x : NumberedField) → Contains fields x →
    is_among by' (names_in groups) x ≡ true
all_among by' fields groups grouped x in' =
    let name = name_by by' x in
    found_among groups name x (subst (λ l. Contains l x) (sym (grouped name)) (kept_by_filter (has_name by' name) fields x in' (same_name_itself name)))

-- a name that is among one more is among the others, or is that one
pub among_more : (by' : GroupedBy) (done zs : List (Bor NameText)) (last : Bor NameText) (x : NumberedField) → zs ≡ done ++ last ∷ [] → is_among by' zs x ≡ true →
    (is_among by' done x ≡ true) ⊎ (has_name by' last.now x ≡ true)
among_more by' done zs last x is among = go done (ap (λ l. is_among by' l x) (sym is) ∙ among) where
  or_last : (b : Bool) → (b || false) ≡ true → b ≡ true
  or_last true e = refl
  or_last false e = e

  go : (done : List (Bor NameText)) → is_among by' (done ++ last ∷ []) x ≡ true → (is_among by' done x ≡ true) ⊎ (has_name by' last.now x ≡ true)
  go [] e = inr (or_last (has_name by' last.now x) e)
  go (d ∷ done) e = by (has_name by' d.now x) refl (go done) where
    by : (b : Bool) → has_name by' d.now x ≡ b → (is_among by' (done ++ last ∷ []) x ≡ true → (is_among by' done x ≡ true) ⊎ (has_name by' last.now x ≡ true)) →
        (is_among by' (d ∷ done) x ≡ true) ⊎ (has_name by' last.now x ≡ true)
    by true named rest = inl (ap (λ b. b || is_among by' done x) named)
    by false named rest = elim (rest (ap (λ b. b || is_among by' (done ++ last ∷ []) x) (sym named) ∙ e)) [
      | inl there ↦ inl (ap (λ b. b || is_among by' done x) named ∙ there)
      | inr here ↦ inr here
    ]

pub none_among : (by' : GroupedBy) (x : NumberedField) → is_among by' [] x ≡ true → ⊥
none_among by' x e = let no : ⊥ = cc in no
