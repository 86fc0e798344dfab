-- A path of spreads goes down at least one level with each of them. So a fragment of known levels leads to no way back to it, and
-- its paths have no more spreads than it has levels.
use Rattle.std.proofs.Common.{◌≡◌, ℕ, false, suc, ◌+◌, ◌<◌, ◌≤◌, List, [], ◌∷◌, None, Some, All, Contains, arith, length, map, refl, ap, ◌∙◌, subst}
use Rattle.std.specs.Prelude.{◌==◌, if◌then◌else◌}
use Rattle.std.specs.Option.{option_map}
use Rattle.std.proofs.lemmas.List.{length-map}
use Rattle.std.proofs.lemmas.List.Elements.{All-cons, All-head, All-nil, All-weaker}
use Rattle.graphql_nodes.specs.Names.{DifferentNames}
use Rattle.graphql_nodes.specs.declared.nodes.Node.{Node}
use Rattle.graphql_documents.specs.Paths.{Path, path_of_one, path_of_more}
use Rattle.graphql_specification.specs.Fragments.{FragmentHasNoCycle, HasLongSpreadPath, SpreadsBy, fragment_of}
use Rattle.graphql_documents.specs.Selections.{Fragments, SetWritten, fragments_of, selections_of, set_itself, set_in_field, set_in_inline_fragment}
use Rattle.graphql_documents.specs.declared.documents.executables.ExecutableDocument.{ExecutableDocument}
use Rattle.graphql_documents.specs.declared.documents.executables.Field.{Field}
use Rattle.graphql_documents.specs.declared.documents.executables.Fragment.{Fragment}
use Rattle.graphql_documents.specs.declared.documents.executables.FragmentSpread.{FragmentSpread}
use Rattle.graphql_documents.specs.declared.documents.executables.InlineFragment.{InlineFragment}
use Rattle.graphql_documents.specs.declared.documents.executables.Selection.TheVariants as kind
use Rattle.graphql_documents.specs.declared.documents.executables.Selection.{Selection}
use Rattle.graphql_documents.specs.declared.documents.executables.SelectionSet.{SelectionSet}
use Rattle.graphql_documents.proofs.ListLemmas.{All-append_right, kept_by_map, none_stands}
use Rattle.graphql_documents.proofs.SelectionLemmas.{one_fragment_found}
use Rattle.graphql_nesting.specs.Nesting.{Descends, HasLevels, one_level, one_more, set_below, sets_below}
use Rattle.graphql_nesting.proofs.DescentLemmas.{opened_below}
use Rattle.graphql_cycles.proofs.DifferentNameLemmas.{differs_from_itself, no_more}
use Rattle.graphql_cycles.proofs.FragmentSearchLemmas.{name_of}

-- a set in which something is written has a selection
has_selection : {set inner : SelectionSet} {s : Selection} → SetWritten set inner → Contains (selections_of inner) s → (t : Selection) × Contains (selections_of set) t
has_selection {s = s} set_itself stands = (s, stands)
has_selection (set_in_field {f = f} there more) stands = (kind.Field f, there)
has_selection (set_in_inline_fragment {i = i} there more) stands = (kind.InlineFragment i, there)

not_empty : (xs : List Selection) (s : Selection) (set : SelectionSet) → Contains xs s → (if length xs == 0 then None else Some set) ≡ Some set
not_empty [] s set stands = absurd (none_stands s stands)
not_empty (x ∷ xs) s set stands = let some : (length (x ∷ xs) == 0) ≡ false = grind arith in rw some refl

module _ (fragments : Fragments) where
  -- a way down from the set has more levels than this
  abbrev GoesBelow : SelectionSet → ℕ → Type 0
  GoesBelow set n = (levels : ℕ) × Descends fragments set levels × (n < levels)

  -- the sets of what is in a set are below it
  field_below : (set : SelectionSet) (f : Node Field) (s : Selection) → Contains (selections_of set) (kind.Field f) →
      Contains (selections_of f.value.value.selection_set) s → Contains (sets_below fragments set) f.value.value.selection_set
  field_below set f s there stands =
      kept_by_map (set_below fragments) (selections_of set) (kind.Field f) f.value.value.selection_set there
      (ap (opened_below fragments) (kind.outs-Field f) ∙ not_empty (selections_of f.value.value.selection_set) s f.value.value.selection_set stands)

  inline_fragment_below : (set : SelectionSet) (i : Node InlineFragment) → Contains (selections_of set) (kind.InlineFragment i) →
      Contains (sets_below fragments set) i.value.value.selection_set
  inline_fragment_below set i there =
      kept_by_map (set_below fragments) (selections_of set) (kind.InlineFragment i) i.value.value.selection_set there (ap (opened_below fragments) (kind.outs-InlineFragment i))

  fragment_below : (set : SelectionSet) (p : Node FragmentSpread) (d : Node Fragment) → Contains (selections_of set) (kind.FragmentSpread p) →
      fragment_of fragments p ≡ Some d → Contains (sets_below fragments set) d.value.value.selection_set
  fragment_below set p d there found =
      kept_by_map (set_below fragments) (selections_of set) (kind.FragmentSpread p) d.value.value.selection_set there
      (ap (opened_below fragments) (kind.outs-FragmentSpread p) ∙ ap (option_map (λ (d : Node Fragment). d.value.value.selection_set)) found)

  -- a way down from the set of a fragment is longer from where that is spread
  longer : {set inner : SelectionSet} {n : ℕ} (p : Node FragmentSpread) (d : Node Fragment) → SetWritten set inner → Contains (selections_of inner) (kind.FragmentSpread p) →
      fragment_of fragments p ≡ Some d → Descends fragments d.value.value.selection_set n → GoesBelow set n
  longer {n = n} p d (set_itself {set = set}) stands found way = (suc n, one_more (fragment_below set p d stands found) way, omega arith)
  longer p d (set_in_field {set = set} {f = f} there more) stands found way =
      let (levels, below, less) = longer p d more stands found way in
      let (s, in') = has_selection more stands in
      (suc levels, one_more (field_below set f s there in') below, omega arith)
  longer p d (set_in_inline_fragment {set = set} {i = i} there more) stands found way =
      let (levels, below, less) = longer p d more stands found way in
      (suc levels, one_more (inline_fragment_below set i there) below, omega arith)

  -- so it is from the beginning of a path to there
  abbrev LeadsDown : SelectionSet → Node FragmentSpread → Type 0
  LeadsDown set p = (d : Node Fragment) (n : ℕ) → fragment_of fragments p ≡ Some d → Descends fragments d.value.value.selection_set n → GoesBelow set n

  along : {d : Node Fragment} {path : List (Node FragmentSpread)} → Path SpreadsBy (fragment_of fragments) d path → All (LeadsDown d.value.value.selection_set) path
  along (path_of_one {d = d} {r = r} spreads) =
      All-cons (LeadsDown d.value.value.selection_set) r [] (λ e n found way. longer r e spreads.1 spreads.2 found way) (All-nil (LeadsDown d.value.value.selection_set))
  along (path_of_more {d = d} {next = next} {r = r} {rs = rs} spreads is rest) =
      All-cons (LeadsDown d.value.value.selection_set) r rs (λ e n found way. longer r e spreads.1 spreads.2 found way)
      (All-weaker (LeadsDown next.value.value.selection_set) (LeadsDown d.value.value.selection_set) (λ p leads e n found way.
      let (m, below, less) = leads e n found way in
      let (k, far, further) = longer r next spreads.1 spreads.2 is below in
      (k, far, omega arith)) rs (along rest))

  -- a path has no more spreads than a way down has levels
  as_long : {d : Node Fragment} {path : List (Node FragmentSpread)} → Path SpreadsBy (fragment_of fragments) d path →
      (levels : ℕ) × Descends fragments d.value.value.selection_set levels × (length path ≤ levels)
  as_long (path_of_one spreads) = (1, one_level, omega arith)
  as_long (path_of_more {next = next} {r = r} spreads is rest) =
      let (m, below, less) = as_long rest in
      let (k, far, further) = longer r next spreads.1 spreads.2 is below in
      (k, far, omega arith)

module _ (document : ExecutableDocument) (d : Node Fragment) (levels : ℕ) (has : HasLevels (fragments_of document) d.value.value.selection_set levels) where
  -- no path leads back to a fragment of known levels that the document has under its own name
  pub no_way_back : fragments_of document d.value.value.name ≡ Some d → FragmentHasNoCycle (fragments_of document) d
  no_way_back found path cycle =
      let P = LeadsDown (fragments_of document) d.value.value.selection_set in
      let all = subst (All P) cycle.ends (along (fragments_of document) cycle.is_path) in
      let leads = All-head P cycle.last [] (All-append_right P cycle.before (cycle.last ∷ []) all) in
      let back : fragment_of (fragments_of document) cycle.last ≡ Some d =
      one_fragment_found document (name_of cycle.last) d.value.value.name cycle.is_back ∙ found in
      let (m, way, less) = leads d levels back has.descends in
      omega (arith, has.within m way)

  -- and none has more different names than it has levels, its own apart
  pub no_longer_path : (count : ℕ) → levels < count → ¬ HasLongSpreadPath (fragments_of document) d (count + 1)
  no_longer_path count less (path, is_path, (chosen, counted, distinct, among)) =
      let own = d.value.value.name in
      let (m, way, long) = as_long (fragments_of document) is_path in
      let fit = no_more chosen (own ∷ map name_of path) DifferentNames differs_from_itself distinct among own in
      omega (arith, has.within m way, length-map path name_of)
