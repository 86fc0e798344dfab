-- What one more name adds to the names of used fragments.
use Rattle.std.proofs.Common.{◌≡◌, ◌∙◌, Bool, true, false, List, [], ◌∷◌, ◌++◌, None, Some, map, ap, inl, inr, refl, subst, sym}
use Rattle.std.specs.Prelude.{◌⊎◌, Contains}
use Rattle.std.specs.Borrow.{Bor}
use Rattle.std.specs.List.{list_any}
use Rattle.std.proofs.lemmas.List.{map-append}
use Rattle.std.proofs.lemmas.List.Elements.{Contains-append_cases, Contains-append_left, Contains-append_right}
use Rattle.indexmap.specs.IndexSet.{insert_key}
use Rattle.graphql_documents.proofs.ListLemmas.{none_stands, only_one, stands_first}
use Rattle.graphql_documents.specs.Selections.{fragments_of}
use Rattle.graphql_documents.specs.declared.documents.executables.ExecutableDocument.{ExecutableDocument}
use Rattle.graphql_documents.specs.declared.documents.executables.Fragment.{Fragment}
use Rattle.graphql_nodes.proofs.NameLemmas.{same_name_itself}
use Rattle.graphql_nodes.specs.Names.{NameText}
use Rattle.graphql_nodes.specs.declared.nodes.Node.{Node}
use Rattle.graphql_variables.proofs.NameSetLemmas.{named_key, same_key}
use Rattle.graphql_variables.specs.Uses.{IsNamedIn, names_of}
use Rattle.graphql_pools.specs.Uses.{NotesNames}

-- a name that stays is named still
named_still : (old new : List NameText) (name : NameText) → ((used : NameText) → Contains old used → Contains new used) → IsNamedIn old name → IsNamedIn new name
named_still old new name stay (used, there, same) = (used, stay used there, same)

pub notes_nothing : (pool : ExecutableDocument) (old : List NameText) → NotesNames pool [] old old
notes_nothing pool old = record {
  only = λ used there. inl there;
  stay = λ used there. there;
  noted = λ name d among found. absurd (none_stands name among);
}

pub notes_then : (pool : ExecutableDocument) (ns ms old mid new : List NameText) → NotesNames pool ns old mid → NotesNames pool ms mid new → NotesNames pool (ns ++ ms) old new
notes_then pool ns ms old mid new first rest = record {
  only = λ used there. by used (rest.only used there);
  stay = λ used there. rest.stay used (first.stay used there);
  noted = λ name d among found. noted_by name d found (Contains-append_cases ns ms name among);
} where
  Noted : List NameText → NameText → Type 0
  Noted names used = (name : NameText) × (d : Node Fragment) × Contains names name × (fragments_of pool name ≡ Some d) × (used ≡ d.value.value.name)

  by_first : (used : NameText) → Contains old used ⊎ Noted ns used → Contains old used ⊎ Noted (ns ++ ms) used
  by_first used (inl was) = inl was
  by_first used (inr (name, d, among, found, is)) = inr (name, d, Contains-append_left ns ms name among, found, is)

  by : (used : NameText) → Contains mid used ⊎ Noted ms used → Contains old used ⊎ Noted (ns ++ ms) used
  by used (inl was) = by_first used (first.only used was)
  by used (inr (name, d, among, found, is)) = inr (name, d, Contains-append_right ns ms name among, found, is)

  noted_by : (name : NameText) (d : Node Fragment) → fragments_of pool name ≡ Some d → Contains ns name ⊎ Contains ms name → IsNamedIn new d.value.value.name
  noted_by name d found (inl among) = named_still mid new d.value.value.name rest.stay (first.noted name d among found)
  noted_by name d found (inr among) = rest.noted name d among found

-- a name that goes into a set
key_cases : (keys : List (Bor NameText)) (k : Bor NameText) (n : NameText) → Contains (names_of (insert_key same_key keys k)) n →
    Contains (names_of keys) n ⊎ (n ≡ k.now)
key_cases keys k n = by (list_any (same_key k) keys) refl where
  by_place : Contains (names_of keys) n ⊎ Contains (k.now ∷ []) n → Contains (names_of keys) n ⊎ (n ≡ k.now)
  by_place (inl before) = inl before
  by_place (inr last) = inr (only_one k.now n last)

  by : (b : Bool) → list_any (same_key k) keys ≡ b → Contains (names_of (insert_key same_key keys k)) n → Contains (names_of keys) n ⊎ (n ≡ k.now)
  by true e = rw e (λ there. inl there)
  by false e = rw e (λ there. by_place (Contains-append_cases (names_of keys) (k.now ∷ []) n
      (subst (λ l. Contains l n) (map-append (λ (b : Bor NameText). b.now) keys (k ∷ [])) there)))

-- and the names that were there stay
key_stays : (keys : List (Bor NameText)) (k : Bor NameText) (n : NameText) → Contains (names_of keys) n → Contains (names_of (insert_key same_key keys k)) n
key_stays keys k n there = by (list_any (same_key k) keys) refl where
  by : (b : Bool) → list_any (same_key k) keys ≡ b → Contains (names_of (insert_key same_key keys k)) n
  by true e = rw e there
  by false e = rw e
      (subst (λ l. Contains l n) (sym (map-append (λ (b : Bor NameText). b.now) keys (k ∷ []))) (Contains-append_left (names_of keys) (k.now ∷ []) n there))

pub notes_one : (pool : ExecutableDocument) (name : NameText) (d : Node Fragment) (keys new : List (Bor NameText)) (k : Bor NameText) → fragments_of pool name ≡ Some d →
    k.now ≡ d.value.value.name → new ≡ insert_key same_key keys k → NotesNames pool (name ∷ []) (names_of keys) (names_of new)
notes_one pool name d keys new k found named grown = record {
  only = λ used there. by used (key_cases keys k used (subst (λ (l : List (Bor NameText)). Contains (names_of l) used) grown there));
  stay = λ used there. subst (λ (l : List (Bor NameText)). Contains (names_of l) used) (sym grown) (key_stays keys k used there);
  noted = λ n e among there. noted_by n e (only_one name n among) there;
} where
  by : (used : NameText) → Contains (names_of keys) used ⊎ (used ≡ k.now) →
      Contains (names_of keys) used ⊎ ((n : NameText) × (e : Node Fragment) × Contains (name ∷ []) n × (fragments_of pool n ≡ Some e) × (used ≡ e.value.value.name))
  by used (inl was) = inl was
  by used (inr is) = inr (name, d, stands_first name [], found, is ∙ named)

  is_named : IsNamedIn (names_of new) d.value.value.name
  is_named = subst (λ (l : List (Bor NameText)). IsNamedIn (names_of l) d.value.value.name) (sym grown)
      (subst (λ x. IsNamedIn (names_of (insert_key same_key keys k)) x) named ((named_key keys k k.now).1 (inr (same_name_itself k.now))))

  noted_by : (n : NameText) (e : Node Fragment) → n ≡ name → fragments_of pool n ≡ Some e → IsNamedIn (names_of new) e.value.value.name
  noted_by n e is there =
      let both : Some d ≡ Some e = sym found ∙ ap (fragments_of pool) (sym is) ∙ there in
      let one : d ≡ e = cc in
      subst (λ (x : Node Fragment). IsNamedIn (names_of new) x.value.value.name) one is_named

pub notes_none : (pool : ExecutableDocument) (name : NameText) (old : List NameText) → fragments_of pool name ≡ None → NotesNames pool (name ∷ []) old old
notes_none pool name old is = record {
  only = λ used there. inl there;
  stay = λ used there. there;
  noted = λ n e among there.
      let both : None ≡ Some e = sym is ∙ ap (fragments_of pool) (sym (only_one name n among)) ∙ there in
      absurd (let h : ⊥ = cc in h);
}
