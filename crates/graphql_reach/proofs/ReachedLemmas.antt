-- What selections reach through fragments.
use Rattle.std.proofs.Common.{◌≡◌, List, Some, refl, sym, ◌∙◌, subst, true, Contains, IsTrue}
use Rattle.std.specs.Prelude.{◌⊎◌, IsSome}
use Rattle.std.proofs.lemmas.List.Folds.{Any-from_list_any}
use mathlib.Core.Logic.{inl, inr}
use Rattle.graphql_nodes.specs.Names.{NameText, same_name, stands_on}
use Rattle.graphql_nodes.specs.declared.nodes.Node.{Node}
use Rattle.graphql_documents.proofs.SelectionLemmas.{includes_then, one_fragment_found}
use Rattle.graphql_documents.specs.Selections.{Fragments, Includes, Reachable, SetWritten, Written, fragments_of, includes_inline_fragment, includes_itself, includes_spread, reachable_below, reachable_inside, selections_of, set_in_field, set_in_inline_fragment, set_itself}
use Rattle.graphql_documents.specs.declared.documents.executables.ExecutableDocument.{ExecutableDocument}
use Rattle.graphql_documents.specs.declared.documents.executables.Field.{Field}
use Rattle.graphql_documents.specs.declared.documents.executables.Fragment.{Fragment}
use Rattle.graphql_documents.specs.declared.documents.executables.FragmentSpread.{FragmentSpread}
use Rattle.graphql_documents.specs.declared.documents.executables.Selection.{Selection}
use Rattle.graphql_documents.specs.declared.documents.executables.Selection.TheVariants as kind
use Rattle.graphql_documents.specs.declared.documents.executables.SelectionSet.{SelectionSet}
use Rattle.graphql_variables.proofs.UseLemmas.{any_has}
use Rattle.graphql_reach.specs.Written.{SetHas}
use Rattle.graphql_reach.specs.Reached.{SpreadsName}

-- what is written in a set that is written in another is so in that
written_then : {a b c : SelectionSet} → SetWritten a b → SetWritten b c → SetWritten a c
written_then set_itself rest = rest
written_then (set_in_field stands more) rest = set_in_field stands (written_then more rest)
written_then (set_in_inline_fragment stands more) rest = set_in_inline_fragment stands (written_then more rest)

pub below_written_field : {set inner : SelectionSet} (f : Node Field) (s : Selection) → SetWritten set inner → Contains (selections_of inner) (kind.Field f) →
    Written f.value.value.selection_set s → Written set s
below_written_field f s written stands (deep, deeper, there) = (deep, written_then written (set_in_field {f = f} stands deeper), there)

module _ (fragments : Fragments) where
  reach_from : {a b : SelectionSet} {s : Selection} → Includes fragments a b → Reachable fragments b s → Reachable fragments a s
  reach_from included (reachable_inside (inner, includes, stands)) = reachable_inside (inner, includes_then fragments included includes, stands)
  reach_from included (reachable_below {f = f} (inner, includes, stands) rest) =
      reachable_below {f = f} (inner, includes_then fragments included includes, stands) rest

  -- what is written is reached, and what a spread that is reached reaches
  pub reach_written : {set inner : SelectionSet} (s : Selection) → SetWritten set inner → Contains (selections_of inner) s → Reachable fragments set s
  reach_written {set = set} s set_itself stands = reachable_inside (set, includes_itself, stands)
  reach_written {set = set} s (set_in_field {f = f} there deeper) stands = reachable_below {f = f} (set, includes_itself, there) (reach_written s deeper stands)
  reach_written s (set_in_inline_fragment {i = i} there deeper) stands = reach_from (includes_inline_fragment there includes_itself) (reach_written s deeper stands)

  through_spread : {set : SelectionSet} {t : Selection} → Reachable fragments set t → (p : Node FragmentSpread) (d : Node Fragment) (s : Selection) →
      t ≡ kind.FragmentSpread p → fragments p.value.value.fragment_name ≡ Some d → Reachable fragments d.value.value.selection_set s → Reachable fragments set s
  through_spread (reachable_inside (inner, includes, stands)) p d s e is rest =
      reach_from (includes_then fragments includes (includes_spread {p = p} {d = d} (subst (Contains (selections_of inner)) e stands) is includes_itself)) rest
  through_spread (reachable_below {f = f} inside more) p d s e is rest = reachable_below {f = f} inside (through_spread more p d s e is rest)

  pub reach_spread : {set : SelectionSet} (p : Node FragmentSpread) (d : Node Fragment) (s : Selection) → Reachable fragments set (kind.FragmentSpread p) →
      fragments p.value.value.fragment_name ≡ Some d → Reachable fragments d.value.value.selection_set s → Reachable fragments set s
  reach_spread p d s reached is rest = through_spread reached p d s refl is rest

  -- written in a fragment that the set reaches
  pub record ReachedWritten (set : SelectionSet) (s : Selection) : Type 0 where
    pub p : Node FragmentSpread
    pub d : Node Fragment
    pub reached : Reachable fragments set (kind.FragmentSpread p)
    pub is : fragments p.value.value.fragment_name ≡ Some d
    pub written : Written d.value.value.selection_set s

  -- what is reached is written in the set itself or in a fragment that it reaches
  split_inside : {set inner : SelectionSet} → Includes fragments set inner → (s : Selection) → Contains (selections_of inner) s →
      Written set s ⊎ ReachedWritten set s
  split_inside {set = set} includes_itself s stands = inl (set, set_itself, stands)
  split_inside {set = set} (includes_inline_fragment {i = i} there more) s stands =
      elim (split_inside more s stands) [
        | inl (inner, written, here) ↦ inl (inner, set_in_inline_fragment {i = i} there written, here)
        | inr far ↦ inr (record { p = far.p; d = far.d; reached = reach_from (includes_inline_fragment {i = i} there includes_itself) far.reached; is = far.is; written = far.written })
      ]
  split_inside {set = set} (includes_spread {p = p} {d = d} there is more) s stands =
      elim (split_inside more s stands) [
        | inl written ↦ inr (record { p = p; d = d; reached = reachable_inside (set, includes_itself, there); is = is; written = written })
        | inr far ↦ inr (record { p = far.p; d = far.d; reached = reach_from (includes_spread {p = p} {d = d} there is includes_itself) far.reached; is = far.is; written = far.written })
      ]

  pub split_reached : {set : SelectionSet} {s : Selection} → Reachable fragments set s → Written set s ⊎ ReachedWritten set s
  split_reached {s = s} (reachable_inside (inner, includes, stands)) = split_inside includes s stands
  split_reached {set = set} {s = s} (reachable_below {f = f} (inner, includes, stands) rest) =
      elim (split_reached rest) [
        | inl written ↦ elim (split_inside includes (kind.Field f) stands) [
          | inl (around, deep, there) ↦ inl (below_written_field f s deep there written)
          | inr far ↦ inr (record { p = far.p; d = far.d; reached = far.reached; is = far.is; written = below_written_field f s far.written.1 far.written.2 written })
        ]
        | inr far ↦ inr (record { p = far.p; d = far.d; reached = reachable_below {f = f} (inner, includes, stands) far.reached; is = far.is; written = far.written })
      ]

-- names among which is each that a set spreads, and each that the fragment of one of them does, have all that the set reaches
module _ (document : ExecutableDocument) (names : List NameText) where
  abbrev pub Covers : SelectionSet → Type 0
  Covers set = (name : NameText) → SetHas SpreadsName set name → IsSome (fragments_of document name) → IsTrue (stands_on names name)

  -- a name that is among them stands for one that is
  pub stands_for : (name : NameText) (d : Node Fragment) → IsTrue (stands_on names name) → fragments_of document name ≡ Some d →
      (known : NameText) × Contains names known × (fragments_of document known ≡ Some d)
  stands_for name d there is =
      let h = any_has (λ (x : NameText). same_name name x ≡ true) names (Any-from_list_any (same_name name) names there) in
      (h.0, h.1, sym (one_fragment_found document name h.0 h.2) ∙ is)

  module _ (followed : (known : NameText) → Contains names known → (d : Node Fragment) → fragments_of document known ≡ Some d → Covers d.value.value.selection_set) where
    covers_fragment : (set : SelectionSet) (p : Node FragmentSpread) (d : Node Fragment) → Covers set → Contains (selections_of set) (kind.FragmentSpread p) →
        fragments_of document p.value.value.fragment_name ≡ Some d → Covers d.value.value.selection_set
    covers_fragment set p d covers stands is =
        let defined : IsSome (fragments_of document p.value.value.fragment_name) = rw is refl in
        let there = covers p.value.value.fragment_name (kind.FragmentSpread p, (set, set_itself, stands), (p, refl, refl)) defined in
        let known = stands_for p.value.value.fragment_name d there is in
        followed known.0 known.1 d known.2

    covers_inside : {set inner : SelectionSet} → Includes (fragments_of document) set inner → Covers set → Covers inner
    covers_inside includes_itself covers = covers
    covers_inside (includes_inline_fragment {i = i} there more) covers =
        covers_inside more (λ name (s, (inner, written, here), spreads). covers name (s, (inner, set_in_inline_fragment {i = i} there written, here), spreads))
    covers_inside {set = set} (includes_spread {p = p} {d = d} there is more) covers = covers_inside more (covers_fragment set p d covers there is)

    pub covers_reached : {set : SelectionSet} {s : Selection} → Reachable (fragments_of document) set s → Covers set → (name : NameText) → SpreadsName s name →
        IsSome (fragments_of document name) → IsTrue (stands_on names name)
    covers_reached {s = s} (reachable_inside (inner, includes, stands)) covers name spreads defined =
        covers_inside includes covers name (s, (inner, set_itself, stands), spreads) defined
    covers_reached {s = s} (reachable_below {f = f} (inner, includes, stands) rest) covers name spreads defined =
        covers_reached rest (λ other (x, written, its). covers_inside includes covers other (x, below_written_field f x set_itself stands written, its)) name spreads defined
