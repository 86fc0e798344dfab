-- Documents that are the same nest as deep. Specification: 2.4 Selection Sets, 2.8 Fragments.
use Rattle.std.proofs.Common.{◌≡◌, inl, inr, Bool, true, false, ℕ, List, [], ◌∷◌, Option, None, Some, length, subst}
use Rattle.std.specs.Prelude.{◌==◌, filter_map, if◌then◌else◌, option_map}
use Rattle.std.specs.List.{AllZip, cons_option}
use Rattle.std.proofs.lemmas.List.Elements.{length_all_zip}
use Rattle.indexmap.specs.IndexMap.{values}
use Rattle.graphql_nodes.specs.declared.nodes.Node.{Node}
use Rattle.graphql_documents.specs.Contents.{SameIfAny}
use Rattle.graphql_documents.specs.Selections.{Fragments, fragments_of, no_fragments, selections_of}
use Rattle.graphql_documents.specs.declared.documents.executables.ExecutableDocument.{ExecutableDocument}
use Rattle.graphql_documents.specs.declared.documents.executables.Fragment.{Fragment}
use Rattle.graphql_documents.specs.declared.documents.executables.Operation.{Operation}
use Rattle.graphql_documents.specs.declared.documents.executables.Selection.{Selection}
use Rattle.graphql_documents.specs.declared.documents.executables.Selection.TheVariants as kind
use Rattle.graphql_documents.specs.declared.documents.executables.SelectionSet.{SelectionSet}
use Rattle.graphql_sameness_laws.specs.Nesting.{Descends, EndlessTogether, FragmentNests, HasLevels, IsEndless, IsWithin, NestsWithin, OperationNests, endless_one, no_more, one_level, one_more, other_one, set_below, sets_below}
use Rattle.graphql_kept_rules.specs.SameTexts.{SameFragmentText, SameOperationText, SameSelectionText, SameText, same_field, same_inline_fragment, same_spread}
use Rattle.graphql_kept_rules.proofs.TextFragmentLemmas.{fragments_back}
use Rattle.graphql_kept_rules.proofs.TextSelectionLemmas.{SameFragments, SameSet, fragment_definitions_alike, fragment_set, fragments_alike, operation_set, operations_alike, selections_zip, set_back}
use Rattle.graphql_sameness_laws.proofs.ZipLemmas.{options_mapped, zip_all, zip_contains}

none_alike : SameFragments no_fragments no_fragments
none_alike name = tt

-- the set of a field, if it selects something
kept_set : (m n : ℕ) (s t : SelectionSet) → m ≡ n → SameSet s t → SameIfAny SameSet (if m == 0 then None else Some s) (if n == 0 then None else Some t)
kept_set m n s t e same = subst (λ n. SameIfAny SameSet (if m == 0 then None else Some s) (if n == 0 then None else Some t)) e (by_test (m == 0))
  where
    by_test : (b : Bool) → SameIfAny SameSet (if b then None else Some s) (if b then None else Some t)
    by_test true = tt
    by_test false = same

zip_kept : {X Y : Type 0} (R : X → X → Type 0) (S : Y → Y → Type 0) (f g : X → Option Y) → ((x y : X) → R x y → SameIfAny S (f x) (g y)) →
    (xs ys : List X) → AllZip R xs ys → AllZip S (filter_map f xs) (filter_map g ys)
zip_kept R S f g one [] [] zip = tt
zip_kept R S f g one [] (y ∷ ys) zip = absurd zip
zip_kept R S f g one (x ∷ xs) [] zip = absurd zip
zip_kept {Y = Y} R S f g one (x ∷ xs) (y ∷ ys) zip = before (f x) (g y) _ _ (one x y zip.0) (zip_kept R S f g one xs ys zip.1)
  where
    before : (o p : Option Y) (us vs : List Y) → SameIfAny S o p → AllZip S us vs → AllZip S (cons_option o us) (cons_option p vs)
    before None None us vs same rest = rest
    before None (Some v) us vs same rest = absurd same
    before (Some u) None us vs same rest = absurd same
    before (Some u) (Some v) us vs same rest = (same, rest)

module _ (before after : Fragments) (alike : SameFragments before after) where
  below_alike : (s t : Selection) → SameSelectionText s t → SameIfAny SameSet (set_below before s) (set_below after t)
  below_alike s t (same_field f g head set at) =
      rw (kind.outs-Field f, kind.outs-Field g, set_below)
      (kept_set (length (selections_of f.value.value.selection_set)) (length (selections_of g.value.value.selection_set)) f.value.value.selection_set g.value.value.selection_set
      (length_all_zip SameSelectionText _ _ (selections_zip set)) (record { selections = set }))
  below_alike s t (same_spread p q same) =
      rw (kind.outs-FragmentSpread p, kind.outs-FragmentSpread q, set_below)
      (subst (λ n. SameIfAny SameSet (option_map (λ (d : Node Fragment). d.value.value.selection_set) (before p.value.value.fragment_name))
      (option_map (λ (d : Node Fragment). d.value.value.selection_set) (after n))) same.name
      (options_mapped SameFragmentText SameSet (λ d. d.value.value.selection_set) fragment_set (before p.value.value.fragment_name) (after p.value.value.fragment_name)
      (alike p.value.value.fragment_name)))
  below_alike s t (same_inline_fragment i j head set at) =
      rw (kind.outs-InlineFragment i, kind.outs-InlineFragment j, set_below) (record { selections = set })

  sets_below_alike : (s t : SelectionSet) → SameSet s t → AllZip SameSet (sets_below before s) (sets_below after t)
  sets_below_alike s t same = zip_kept SameSelectionText SameSet (set_below before) (set_below after) below_alike (selections_of s) (selections_of t) (selections_zip same.selections)

  descends_too : {s : SelectionSet} {n : ℕ} → Descends before s n → (t : SelectionSet) → SameSet s t → Descends after t n
  descends_too one_level t same = one_level
  descends_too (one_more {set = s} {inner = inner} c below) t same =
      let found = zip_contains SameSet (sets_below before s) (sets_below after t) inner (sets_below_alike s t same) c in
      one_more found.1 (descends_too below found.0 found.2)

module _ (before after : Fragments) (alike : SameFragments before after) where
  within_too : (most : ℕ) (s t : SelectionSet) → SameSet s t → IsWithin before most s → IsWithin after most t
  within_too most s t same h n down = h n (descends_too after before (fragments_back before after alike) down s (set_back same))

  levels_too : (levels : ℕ) (s t : SelectionSet) → SameSet s t → HasLevels before s levels → HasLevels after t levels
  levels_too levels s t same h = record {
    descends = descends_too before after alike h.descends t same;
    within = within_too levels s t same h.within;
  }

  endless_too : (s t : SelectionSet) → SameSet s t → IsEndless before s → IsEndless after t
  endless_too s t same h n = descends_too before after alike (h n) t same

module _ (before after : Fragments) (alike : SameFragments before after) where
  operation_nests_too : (most : ℕ) (o p : Node Operation) → SameOperationText o p → OperationNests before most o → OperationNests after most p
  operation_nests_too most o p same h = elim h [
    | inl within ↦ inl (within_too before after alike most _ _ (operation_set o p same) within)
    | inr endless ↦ inr (
      endless_too before after alike _ _ (operation_set o p same) endless.0,
      within_too no_fragments no_fragments none_alike most _ _ (operation_set o p same) endless.1,
    )
  ]

  fragment_nests_too : (most : ℕ) (d e : Node Fragment) → SameFragmentText d e → FragmentNests before most d → FragmentNests after most e
  fragment_nests_too most d e same h = elim h [
    | inl within ↦ inl (within_too before after alike most _ _ (fragment_set d e same) within)
    | inr endless ↦ inr (endless_too before after alike _ _ (fragment_set d e same) endless)
  ]

  endless_together_too : {xs : List (Node Fragment)} {levels : ℕ} → EndlessTogether before xs levels → (ys : List (Node Fragment)) →
      AllZip SameFragmentText xs ys → EndlessTogether after ys levels
  endless_together_too no_more [] zip = no_more
  endless_together_too no_more (y ∷ ys) zip = absurd zip
  endless_together_too (endless_one endless has rest) [] zip = absurd zip
  endless_together_too (endless_one {d = d} {n = n} endless has rest) (e ∷ ys) zip =
      endless_one (endless_too before after alike _ _ (fragment_set d e zip.0) endless)
      (levels_too no_fragments no_fragments none_alike n _ _ (fragment_set d e zip.0) has) (endless_together_too rest ys zip.1)
  endless_together_too (other_one has rest) [] zip = absurd zip
  endless_together_too (other_one {d = d} {n = n} has rest) (e ∷ ys) zip =
      other_one (levels_too before after alike n _ _ (fragment_set d e zip.0) has) (endless_together_too rest ys zip.1)

pub nests_too : (most : ℕ) (d e : ExecutableDocument) → SameText d e → NestsWithin most d → NestsWithin most e
nests_too most d e same h =
    let alike = fragments_alike d e same in
    record {
      operations = zip_all SameOperationText (OperationNests (fragments_of d) most) (OperationNests (fragments_of e) most)
          (operation_nests_too (fragments_of d) (fragments_of e) alike most) _ _ (operations_alike d e same) h.operations;
      fragments = zip_all SameFragmentText (FragmentNests (fragments_of d) most) (FragmentNests (fragments_of e) most)
          (fragment_nests_too (fragments_of d) (fragments_of e) alike most) _ _ (fragment_definitions_alike d e same) h.fragments;
      levels = h.levels;
      endless = endless_together_too (fragments_of d) (fragments_of e) alike h.endless (values e.fragments) (fragment_definitions_alike d e same);
      within = h.within;
    }
