-- Sets below selections, and ways down.
use Rattle.std.proofs.Common.{◌≡◌, ◌<◌, ◌≤◌, ℕ, zero, suc, Option, None, Some, Contains, arith, length, refl, ap, inl, inr}
use Rattle.std.specs.Prelude.{◌⊎◌, ◌==◌, filter_map, if◌then◌else◌}
use Rattle.std.specs.Option.{option_map}
use Rattle.graphql_nodes.specs.declared.nodes.Node.{Node}
use Rattle.graphql_documents.specs.Selections.{Fragments, no_fragments, selections_of}
use Rattle.graphql_documents.specs.declared.documents.executables.Field.{Field}
use Rattle.graphql_documents.specs.declared.documents.executables.Fragment.{Fragment}
use Rattle.graphql_documents.specs.declared.documents.executables.InlineFragment.{InlineFragment}
use Rattle.graphql_documents.specs.declared.documents.executables.Selection.{Selection, out-Selection}
use Rattle.graphql_documents.specs.declared.documents.executables.Selection.TheOpen as Open
use Rattle.graphql_documents.specs.declared.documents.executables.SelectionSet.{SelectionSet}
use Rattle.graphql_documents.proofs.ListLemmas.{kept_by_map, made_by}
use Rattle.graphql_nesting.specs.Nesting.{Descends, one_level, one_more, set_below, sets_below}
use Rattle.graphql_nesting.specs.Written.{fragment_spread}

module _ (fragments : Fragments) where
  -- the set below a selection, by what this opens to
  abbrev pub opened_below : Open.Selection-F Selection Field InlineFragment SelectionSet → Option SelectionSet
  opened_below o = elim o [
    | Open.Field f ↦ if length (selections_of f.value.value.selection_set) == 0 then None else Some f.value.value.selection_set
    | Open.FragmentSpread p ↦ option_map (λ d. d.value.value.selection_set) (fragments p.value.value.fragment_name)
    | Open.InlineFragment i ↦ Some i.value.value.selection_set
  ]

  -- the fragment that it spreads
  abbrev pub opened_spread : Open.Selection-F Selection Field InlineFragment SelectionSet → Option (Node Fragment)
  opened_spread o = elim o [
    | Open.Field f ↦ None
    | Open.FragmentSpread p ↦ fragments p.value.value.fragment_name
    | Open.InlineFragment i ↦ None
  ]

module _ (fragments : Fragments) where
  written_below : (o : Open.Selection-F Selection Field InlineFragment SelectionSet) (inner : SelectionSet) →
      opened_below no_fragments o ≡ Some inner → opened_below fragments o ≡ Some inner
  written_below (Open.Field f) inner e = e
  written_below (Open.FragmentSpread p) inner e = absurd (let no : ⊥ = cc in no)
  written_below (Open.InlineFragment i) inner e = e

  spread_below : (o : Open.Selection-F Selection Field InlineFragment SelectionSet) (d : Node Fragment) →
      opened_spread fragments o ≡ Some d → opened_below fragments o ≡ Some d.value.value.selection_set
  spread_below (Open.Field f) d e = absurd (let no : ⊥ = cc in no)
  spread_below (Open.FragmentSpread p) d e = ap (option_map (λ (d : Node Fragment). d.value.value.selection_set)) e
  spread_below (Open.InlineFragment i) d e = absurd (let no : ⊥ = cc in no)

  found_below : (o : Option (Node Fragment)) (inner : SelectionSet) → option_map (λ d. d.value.value.selection_set) o ≡ Some inner →
      (d : Node Fragment) × (o ≡ Some d) × (d.value.value.selection_set ≡ inner)
  found_below None inner e = absurd (let no : ⊥ = cc in no)
  found_below (Some d) inner e = (d, refl, (let same : d.value.value.selection_set ≡ inner = cc in same))

  below_cases : (o : Open.Selection-F Selection Field InlineFragment SelectionSet) (inner : SelectionSet) → opened_below fragments o ≡ Some inner →
      (opened_below no_fragments o ≡ Some inner) ⊎ ((d : Node Fragment) × (opened_spread fragments o ≡ Some d) × (d.value.value.selection_set ≡ inner))
  below_cases (Open.Field f) inner e = inl e
  below_cases (Open.FragmentSpread p) inner e = inr (found_below (fragments p.value.value.fragment_name) inner e)
  below_cases (Open.InlineFragment i) inner e = inl e

  -- a set that is written below the set is below it
  pub written_sets_below : (set inner : SelectionSet) → Contains (sets_below no_fragments set) inner → Contains (sets_below fragments set) inner
  written_sets_below set inner in' =
      let (s, stands, e) = made_by (set_below no_fragments) (selections_of set) inner in' in
      kept_by_map (set_below fragments) (selections_of set) s inner stands (written_below (out-Selection s) inner e)

  -- so is the set of a fragment that is spread in it
  pub spread_sets_below : (set : SelectionSet) (d : Node Fragment) →
      Contains (filter_map (fragment_spread fragments) (selections_of set)) d → Contains (sets_below fragments set) d.value.value.selection_set
  spread_sets_below set d in' =
      let (s, stands, e) = made_by (fragment_spread fragments) (selections_of set) d in' in
      kept_by_map (set_below fragments) (selections_of set) s d.value.value.selection_set stands (spread_below (out-Selection s) d e)

  -- and no others are
  pub sets_below_cases : (set inner : SelectionSet) → Contains (sets_below fragments set) inner →
      Contains (sets_below no_fragments set) inner ⊎
      ((d : Node Fragment) × Contains (filter_map (fragment_spread fragments) (selections_of set)) d × (d.value.value.selection_set ≡ inner))
  sets_below_cases set inner in' =
      let (s, stands, e) = made_by (set_below fragments) (selections_of set) inner in' in
      by s stands (below_cases (out-Selection s) inner e) where
        by : (s : Selection) → Contains (selections_of set) s →
            (set_below no_fragments s ≡ Some inner) ⊎ ((d : Node Fragment) × (fragment_spread fragments s ≡ Some d) × (d.value.value.selection_set ≡ inner)) →
            Contains (sets_below no_fragments set) inner ⊎
            ((d : Node Fragment) × Contains (filter_map (fragment_spread fragments) (selections_of set)) d × (d.value.value.selection_set ≡ inner))
        by s stands (inl e) = inl (kept_by_map (set_below no_fragments) (selections_of set) s inner stands e)
        by s stands (inr (d, e, same)) = inr (d, kept_by_map (fragment_spread fragments) (selections_of set) s d stands e, same)

  -- a way down that is written is one
  pub written_descends : {set : SelectionSet} {n : ℕ} → Descends no_fragments set n → Descends fragments set n
  written_descends one_level = one_level
  written_descends (one_more {set = set} {inner = inner} in' way) = one_more (written_sets_below set inner in') (written_descends way)

  -- a part of a way down is one
  pub shorter : {set : SelectionSet} {n : ℕ} (m : ℕ) → Descends fragments set n → suc m ≤ n → Descends fragments set (suc m)
  shorter zero way le = one_level
  shorter (suc m) one_level le = absurd (omega arith)
  shorter (suc m) (one_more in' way) le = one_more in' (shorter m way (omega arith))

  -- a way down has some levels
  pub some_levels : {set : SelectionSet} {n : ℕ} → Descends fragments set n → 0 < n
  some_levels one_level = omega arith
  some_levels (one_more in' way) = omega arith
