-- The numbers of the contents of fields stay with them where they are grouped.
use Rattle.std.proofs.Common.{◌≡◌, ℕ, ◌+◌, ◌<◌, Bool, true, false, cond, fold, get_or, length, take, List, [], ◌∷◌, ◌++◌, Option, Some, Vec, ap, map, sym, subst, ◌∙◌}
use Rattle.std.specs.Prelude.{filter, unwrap_or}
use Rattle.std.specs.Borrow.{Bor}
use Rattle.std.specs.Map.{lookup}
use Rattle.std.specs.declared.alloc.Global.{Global}
use Rattle.std.proofs.lemmas.Grind.{fold-append}
use Rattle.std.proofs.lemmas.List.{map-append}
use Rattle.std.proofs.lemmas.List.Elements.{All-append, All-cons, All-head, All-map, All-nil, All-tail, filter-append}
use Rattle.graphql_documents.proofs.ListLemmas.{more_is}
use Rattle.graphql_specification.specs.Merging as merging
use Rattle.indexmap.specs.IndexMap.{insert_entry}
use Rattle.graphql_contents.specs.declared.contents.Content.{Content}
use Rattle.graphql_nodes.specs.Names.{NameText, same_name}
use Rattle.graphql_merging.specs.NumberedFields.{AreGroupsNumbered, AreNumberedIn, IsNumberedIn, listed, selection_of}
use Rattle.graphql_merging.specs.NumberedGroups.{AreEntriesNumbered}
use Rattle.graphql_merging.specs.declared.numbered_fields.NumberedField.{NumberedField}

abbrev Entries : Type 0
Entries = List (Bor NameText × Vec NumberedField Global)

module _ (contents : List Content) where
  abbrev pub IsEntryNumbered : Bor NameText × Vec NumberedField Global → Type 0
  IsEntryNumbered entry = AreNumberedIn contents entry.1.items

  abbrev pub IsGroupNumbered : Vec NumberedField Global → Type 0
  IsGroupNumbered group = AreNumberedIn contents group.items

  put_at : (new : Vec NumberedField Global) → AreNumberedIn contents new.items → (e : Bor NameText × Vec NumberedField Global) (es rest : Entries) →
      AreEntriesNumbered contents (e ∷ es) → AreEntriesNumbered contents rest → (b : Bool) → AreEntriesNumbered contents (cond b ((e.0, new) ∷ es) (e ∷ rest))
  put_at new own e es rest all behind true = All-cons IsEntryNumbered (e.0, new) es own (All-tail IsEntryNumbered e es all)
  put_at new own e es rest all behind false = All-cons IsEntryNumbered e rest (All-head IsEntryNumbered e es all) behind

  put_numbered : (new : Vec NumberedField Global) → AreNumberedIn contents new.items → (entries : Entries) (k : Bor NameText) → AreEntriesNumbered contents entries →
      AreEntriesNumbered contents (insert_entry (λ a b. same_name a.now b.now) entries k new)
  put_numbered new own [] k all = All-cons IsEntryNumbered (k, new) [] own (All-nil IsEntryNumbered)
  put_numbered new own (e ∷ es) k all =
      put_at new own e es (insert_entry (λ a b. same_name a.now b.now) es k new) all (put_numbered new own es k (All-tail IsEntryNumbered e es all)) (same_name k.now e.0.now)

  found_at : (none : Vec NumberedField Global) (e : Bor NameText × Vec NumberedField Global) (rest : Option (Vec NumberedField Global)) → AreNumberedIn contents e.1.items →
      AreNumberedIn contents (unwrap_or rest none).items → (b : Bool) → AreNumberedIn contents (unwrap_or (cond b (Some e.1) rest) none).items
  found_at none e rest own behind true = own
  found_at none e rest own behind false = behind

  found_numbered : (none : Vec NumberedField Global) → none.items ≡ [] → (entries : Entries) (n : NameText) → AreEntriesNumbered contents entries →
      AreNumberedIn contents (unwrap_or (lookup (λ b. same_name n b.now) entries) none).items
  found_numbered none empty [] n all = subst (AreNumberedIn contents) (sym empty) (All-nil (IsNumberedIn contents))
  found_numbered none empty (e ∷ es) n all =
      found_at none e (lookup (λ b. same_name n b.now) es) (All-head IsEntryNumbered e es all)
      (found_numbered none empty es n (All-tail IsEntryNumbered e es all)) (same_name n e.0.now)

  -- a field that is put behind those under a name
  pub under_numbered : (entries : Entries) (k : Bor NameText) (x : NumberedField) (none known new : Vec NumberedField Global) → none.items ≡ [] →
      known ≡ unwrap_or (lookup (λ b. same_name k.now b.now) entries) none → new.items ≡ known.items ++ x ∷ [] →
      AreEntriesNumbered contents entries → IsNumberedIn contents x → AreEntriesNumbered contents (insert_entry (λ a b. same_name a.now b.now) entries k new)
  under_numbered entries k x none known new empty found is all own =
      put_numbered new
      (subst (AreNumberedIn contents) (sym is)
      (All-append (IsNumberedIn contents) known.items (x ∷ [])
      (subst (λ (v : Vec NumberedField Global). AreNumberedIn contents v.items) (sym found) (found_numbered none empty entries k.now all))
      (All-cons (IsNumberedIn contents) x [] own (All-nil (IsNumberedIn contents)))))
      entries k all

  -- the lists of a map
  pub values_numbered : (entries : Entries) → AreEntriesNumbered contents entries → AreGroupsNumbered contents (map (λ e. e.1) entries)
  values_numbered entries all = All-map IsGroupNumbered (λ e. e.1) entries all

  -- one group more
  pub group_added : (groups : List (Vec NumberedField Global)) (group : Vec NumberedField Global) → AreGroupsNumbered contents groups → AreNumberedIn contents group.items →
      AreGroupsNumbered contents (groups ++ group ∷ [])
  group_added groups group all own =
      All-append IsGroupNumbered groups (group ∷ []) all (All-cons IsGroupNumbered group [] own (All-nil IsGroupNumbered))

-- one step more over the fields of a list
pub fold_more : {S : Type 0} (step : S → merging.FieldSelection → S) (start : S) (fields : List NumberedField) (i : ℕ) (x : NumberedField) → i < length fields →
    x ≡ get_or fields i x → step (fold step start (listed (take i fields))) (selection_of x) ≡ fold step start (listed (take (i + 1) fields))
fold_more step start fields i x within is =
    sym (ap (λ l. fold step start (listed l)) (more_is fields i x within is) ∙ ap (fold step start) (map-append selection_of (take i fields) (x ∷ [])) ∙
    fold-append step start (listed (take i fields)) (selection_of x ∷ []))

-- one field more that may pass a test
pub filter_more : (p : merging.FieldSelection → Bool) (fields : List NumberedField) (i : ℕ) (x : NumberedField) → i < length fields → x ≡ get_or fields i x →
    filter p (listed (take i fields)) ++ filter p (selection_of x ∷ []) ≡ filter p (listed (take (i + 1) fields))
filter_more p fields i x within is =
    sym (ap (λ l. filter p (listed l)) (more_is fields i x within is) ∙ ap (filter p) (map-append selection_of (take i fields) (x ∷ [])) ∙
    filter-append p (listed (take i fields)) (selection_of x ∷ []))
