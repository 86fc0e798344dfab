-- How sets are described and numbered, selection by selection.
use Rattle.std.proofs.Common.{◌≡◌, ℕ, List, [], ◌∷◌, ◌++◌, Option, None, Some, length, map, refl, sym, ap, ◌∙◌, subst, All}
use Rattle.std.specs.Prelude.{filter_map, is_some, slice_get}
use Rattle.std.specs.List.{cons_option}
use Rattle.std.specs.Option.{option_map}
use Rattle.std.proofs.lemmas.List.{append-nil, map-append}
use Rattle.std.proofs.lemmas.List.Elements.{All-append, All-cons, All-nil, All-weaker, filter_map-append}
use Rattle.graphql_nodes.specs.Names.{NameText}
use Rattle.graphql_nodes.specs.declared.nodes.Node.{Node}
use Rattle.graphql_documents.specs.Selections.{Fragments}
use Rattle.graphql_documents.specs.declared.documents.executables.Field.{Field}
use Rattle.graphql_documents.specs.declared.documents.executables.Fragment.{Fragment}
use Rattle.graphql_documents.specs.declared.documents.executables.FragmentSpread.{FragmentSpread}
use Rattle.graphql_documents.specs.declared.documents.executables.InlineFragment.{InlineFragment}
use Rattle.graphql_documents.specs.declared.documents.executables.Selection.TheVariants as kind
use Rattle.graphql_documents.specs.declared.documents.executables.Selection.{Selection}
use Rattle.graphql_documents.specs.declared.documents.executables.SelectionSet.{SelectionSet}
use Rattle.graphql_specification.specs.MergedSets.{as_field}
use Rattle.graphql_specification.specs.Merging.{set_of}
use Rattle.graphql_pair_merging.specs.NumberedSets.{Describes, field_of, fragment_set}
use Rattle.graphql_pair_merging.specs.declared.numbered_sets.NumberedField.{NumberedField}
use Rattle.graphql_pair_merging.specs.declared.numbered_sets.NumberedSet.{NumberedSet}
use Rattle.graphql_pair_merging.proofs.MeetingLemmas.{opened_field, opened_fragment}
use Rattle.graphql_pair_merging.proofs.PlaceLemmas.{mapped_at, next_at, still_at}

-- numbers of sets stay so when more sets come behind
pub numbers_stay : (sets more : List SelectionSet) (numbers : List ℕ) (found : List SelectionSet) → map (slice_get sets) numbers ≡ map (λ s. Some s) found →
    map (slice_get (sets ++ more)) numbers ≡ map (λ s. Some s) found
numbers_stay sets more [] [] is = refl
numbers_stay sets more [] (s ∷ found) is = absurd (let no : ⊥ = cc in no)
numbers_stay sets more (n ∷ numbers) [] is = absurd (let no : ⊥ = cc in no)
numbers_stay sets more (n ∷ numbers) (s ∷ found) is =
    let first : slice_get sets n ≡ Some s = cc in
    let rest : map (slice_get sets) numbers ≡ map (λ s. Some s) found = cc in
    let still = still_at sets more n s first in
    let others = numbers_stay sets more numbers found rest in
    ap (λ o. o ∷ map (slice_get (sets ++ more)) numbers) still ∙ ap (λ l. Some s ∷ l) others

-- one set more has the next number
pub numbers_next : (sets new : List SelectionSet) (numbers all : List ℕ) (found more : List SelectionSet) (set : SelectionSet) (number : ℕ) →
    new ≡ sets ++ set ∷ [] → number ≡ length sets → all ≡ numbers ++ number ∷ [] → more ≡ found ++ set ∷ [] →
    map (slice_get sets) numbers ≡ map (λ s. Some s) found → map (slice_get new) all ≡ map (λ s. Some s) more
numbers_next sets new numbers all found more set number grown is numbered among before =
    ap (λ l. map (slice_get l) all) grown ∙ ap (map (slice_get (sets ++ set ∷ []))) numbered ∙ map-append (slice_get (sets ++ set ∷ [])) numbers (number ∷ []) ∙
    ap (λ l. l ++ slice_get (sets ++ set ∷ []) number ∷ []) (numbers_stay sets (set ∷ []) numbers found before) ∙
    ap (λ o. map (λ s. Some s) found ++ o ∷ []) (ap (slice_get (sets ++ set ∷ [])) is ∙ next_at sets set []) ∙
    sym (map-append (λ (s : SelectionSet). Some s) found (set ∷ [])) ∙ ap (map (λ s. Some s)) (sym among)

module _ (fragments : Fragments) (parent : NameText) where
  -- with more sets the description stays
  pub describes_still : (sets more : List SelectionSet) (done : List Selection) (x : NumberedSet) → Describes fragments sets parent done x → Describes fragments (sets ++ more) parent done x
  describes_still sets more done x d = record {
    fields = d.fields;
    own_sets = All-weaker (λ (f : NumberedField). slice_get sets f.set ≡ Some (set_of (field_of f))) (λ (f : NumberedField). slice_get (sets ++ more) f.set ≡ Some (set_of (field_of f)))
        (λ f is. still_at sets more f.set (set_of (field_of f)) is) x.fields.items d.own_sets;
    fragment_sets = numbers_stay sets more x.fragments.items (filter_map (fragment_set fragments) done) d.fragment_sets;
  }

  -- one selection more was described: with these fields and numbers of fragments
  describes_more : (sets : List SelectionSet) (done : List Selection) (s : Selection) (old new : NumberedSet) (fields : List NumberedField) (numbers : List ℕ) →
      new.fields.items ≡ old.fields.items ++ fields → new.fragments.items ≡ old.fragments.items ++ numbers →
      map field_of fields ≡ filter_map (as_field parent) (s ∷ []) →
      All (λ (f : NumberedField). slice_get sets f.set ≡ Some (set_of (field_of f))) fields →
      map (slice_get sets) numbers ≡ map (λ t. Some t) (filter_map (fragment_set fragments) (s ∷ [])) →
      Describes fragments sets parent done old → Describes fragments sets parent (done ++ s ∷ []) new
  describes_more sets done s old new fields numbers with_fields with_numbers are own_sets found d = record {
    fields = ap (map field_of) with_fields ∙ map-append field_of old.fields.items fields ∙ ap (λ l. l ++ map field_of fields) d.fields ∙
        ap (λ l. filter_map (as_field parent) done ++ l) are ∙ sym (filter_map-append (as_field parent) done (s ∷ []));
    own_sets = subst (All (λ (f : NumberedField). slice_get sets f.set ≡ Some (set_of (field_of f)))) (sym with_fields)
        (All-append (λ (f : NumberedField). slice_get sets f.set ≡ Some (set_of (field_of f))) old.fields.items fields d.own_sets own_sets);
    fragment_sets = ap (map (slice_get sets)) with_numbers ∙ map-append (slice_get sets) old.fragments.items numbers ∙
        ap (λ l. l ++ map (slice_get sets) numbers) d.fragment_sets ∙ ap (λ l. map (λ t. Some t) (filter_map (fragment_set fragments) done) ++ l) found ∙
        sym (map-append (λ (t : SelectionSet). Some t) (filter_map (fragment_set fragments) done) (filter_map (fragment_set fragments) (s ∷ []))) ∙
        ap (map (λ t. Some t)) (sym (filter_map-append (fragment_set fragments) done (s ∷ [])));
  }

  -- a field, whose set has the next number
  pub field_described : (sets new_sets : List SelectionSet) (done : List Selection) (s : Selection) (f : Node Field) (old new : NumberedSet) (x : NumberedField) →
      s ≡ kind.Field f → new_sets ≡ sets ++ f.value.value.selection_set ∷ [] → new.fields.items ≡ old.fields.items ++ x ∷ [] → new.fragments ≡ old.fragments →
      field_of x ≡ record { parent = parent; field = f } → x.set ≡ length sets →
      Describes fragments sets parent done old → Describes fragments new_sets parent (done ++ s ∷ []) new
  field_described sets new_sets done s f old new x is more with_field same x_is numbered d =
      subst (λ t. Describes fragments new_sets parent (done ++ t ∷ []) new) (sym is)
      (subst (λ l. Describes fragments l parent (done ++ kind.Field f ∷ []) new) (sym more)
      (describes_more (sets ++ f.value.value.selection_set ∷ []) done (kind.Field f) old new (x ∷ []) [] with_field
      (ap (λ v. v.items) same ∙ sym (append-nil old.fragments.items))
      (ap (λ y. y ∷ []) x_is ∙ sym (ap (λ o. cons_option (opened_field parent o) []) (kind.outs-Field f)))
      (All-cons (λ (f : NumberedField). slice_get all f.set ≡ Some (set_of (field_of f))) x [] at_end (All-nil (λ (f : NumberedField). slice_get all f.set ≡ Some (set_of (field_of f)))))
      (ap (map (λ t. Some t)) (sym (ap (λ o. cons_option (opened_fragment fragments o) []) (kind.outs-Field f))))
      (describes_still sets (f.value.value.selection_set ∷ []) done old d))) where
        all : List SelectionSet
        all = sets ++ f.value.value.selection_set ∷ []

        at_end : slice_get all x.set ≡ Some (set_of (field_of x))
        at_end = ap (slice_get all) numbered ∙ next_at sets f.value.value.selection_set [] ∙ ap (λ y. Some (set_of y)) (sym x_is)

  -- an inline fragment, whose set has the next number
  pub inline_described : (sets new_sets : List SelectionSet) (done : List Selection) (s : Selection) (i : Node InlineFragment) (old new : NumberedSet) (number : ℕ) →
      s ≡ kind.InlineFragment i → new_sets ≡ sets ++ i.value.value.selection_set ∷ [] → new.fields ≡ old.fields → new.fragments.items ≡ old.fragments.items ++ number ∷ [] →
      number ≡ length sets → Describes fragments sets parent done old → Describes fragments new_sets parent (done ++ s ∷ []) new
  inline_described sets new_sets done s i old new number is more same with_number numbered d =
      subst (λ t. Describes fragments new_sets parent (done ++ t ∷ []) new) (sym is)
      (subst (λ l. Describes fragments l parent (done ++ kind.InlineFragment i ∷ []) new) (sym more)
      (describes_more all done (kind.InlineFragment i) old new [] (number ∷ [])
      (ap (λ v. v.items) same ∙ sym (append-nil old.fields.items)) with_number
      (sym (ap (λ o. cons_option (opened_field parent o) []) (kind.outs-InlineFragment i)))
      (All-nil (λ (f : NumberedField). slice_get all f.set ≡ Some (set_of (field_of f))))
      (ap (λ o. o ∷ []) (ap (slice_get all) numbered ∙ next_at sets i.value.value.selection_set []) ∙
      ap (map (λ t. Some t)) (sym (ap (λ o. cons_option (opened_fragment fragments o) []) (kind.outs-InlineFragment i))))
      (describes_still sets (i.value.value.selection_set ∷ []) done old d))) where
        all : List SelectionSet
        all = sets ++ i.value.value.selection_set ∷ []

  spread_opens : (p : Node FragmentSpread) → filter_map (fragment_set fragments) (kind.FragmentSpread p ∷ []) ≡
      cons_option (option_map (λ d. d.value.value.selection_set) (fragments p.value.value.fragment_name)) []
  spread_opens p = ap (λ o. cons_option (opened_fragment fragments o) []) (kind.outs-FragmentSpread p)

  -- a spread of a fragment, whose set has a number among the first
  pub spread_described : (sets : List SelectionSet) (values : List (Node Fragment)) (more : List SelectionSet) (done : List Selection) (s : Selection) (p : Node FragmentSpread) (old new : NumberedSet) (number : ℕ) →
      s ≡ kind.FragmentSpread p → sets ≡ map (λ d. d.value.value.selection_set) values ++ more → slice_get values number ≡ fragments p.value.value.fragment_name → is_some (Some number) ≡ is_some (fragments p.value.value.fragment_name) →
      new.fields ≡ old.fields → new.fragments.items ≡ old.fragments.items ++ number ∷ [] →
      Describes fragments sets parent done old → Describes fragments sets parent (done ++ s ∷ []) new
  spread_described sets values more done s p old new number is begins at found same with_number d =
      subst (λ t. Describes fragments sets parent (done ++ t ∷ []) new) (sym is)
      (describes_more sets done (kind.FragmentSpread p) old new [] (number ∷ [])
      (ap (λ v. v.items) same ∙ sym (append-nil old.fields.items)) with_number
      (sym (ap (λ o. cons_option (opened_field parent o) []) (kind.outs-FragmentSpread p)))
      (All-nil (λ (f : NumberedField). slice_get sets f.set ≡ Some (set_of (field_of f))))
      (by (fragments p.value.value.fragment_name) at found ∙ ap (map (λ t. Some t)) (sym (spread_opens p))) d) where
        by : (o : Option (Node Fragment)) → slice_get values number ≡ o → is_some (Some number) ≡ is_some o →
            slice_get sets number ∷ [] ≡ map (λ t. Some t) (cons_option (option_map (λ d. d.value.value.selection_set) o) [])
        by None at found = absurd (let no : ⊥ = cc in no)
        by (Some e) at found =
            let first = mapped_at (λ (d : Node Fragment). d.value.value.selection_set) values number e at in
            ap (λ l. slice_get l number ∷ []) begins ∙ ap (λ o. o ∷ []) (still_at (map (λ d. d.value.value.selection_set) values) more number e.value.value.selection_set first)

  -- a spread of an undefined fragment
  pub unknown_described : (sets : List SelectionSet) (done : List Selection) (s : Selection) (p : Node FragmentSpread) (old : NumberedSet) →
      s ≡ kind.FragmentSpread p → is_some {T = ℕ} None ≡ is_some (fragments p.value.value.fragment_name) →
      Describes fragments sets parent done old → Describes fragments sets parent (done ++ s ∷ []) old
  unknown_described sets done s p old is unknown d =
      subst (λ t. Describes fragments sets parent (done ++ t ∷ []) old) (sym is)
      (describes_more sets done (kind.FragmentSpread p) old old [] []
      (sym (append-nil old.fields.items)) (sym (append-nil old.fragments.items))
      (sym (ap (λ o. cons_option (opened_field parent o) []) (kind.outs-FragmentSpread p)))
      (All-nil (λ (f : NumberedField). slice_get sets f.set ≡ Some (set_of (field_of f))))
      (by (fragments p.value.value.fragment_name) unknown ∙ ap (map (λ t. Some t)) (sym (spread_opens p))) d) where
        by : (o : Option (Node Fragment)) → is_some {T = ℕ} None ≡ is_some o → [] ≡ map (λ t. Some t) (cons_option (option_map (λ d. d.value.value.selection_set) o) [])
        by None unknown = refl
        by (Some e) unknown = absurd (let no : ⊥ = cc in no)
