-- What is inside, below or written in sets that are the same is the same. Specification: 2.4 Selection Sets to 2.8 Fragments.
use Rattle.std.proofs.Common.{◌≡◌, Some, subst}
use Rattle.graphql_nodes.specs.Names.{NameText}
use Rattle.graphql_nodes.specs.declared.nodes.Node.{Node}
use Rattle.graphql_documents.specs.Selections.{Fragments, InExpandedSet, Includes, Reachable, SetWritten, Written, includes_inline_fragment, includes_itself, includes_spread, reachable_below, reachable_inside, selections_of, set_in_field, set_in_inline_fragment, set_itself}
use Rattle.graphql_documents.specs.declared.documents.executables.Fragment.{Fragment}
use Rattle.graphql_documents.specs.declared.documents.executables.Selection.{Selection}
use Rattle.graphql_documents.specs.declared.documents.executables.Selection.TheVariants as kind
use Rattle.graphql_documents.specs.declared.documents.executables.SelectionSet.{SelectionSet}
use Rattle.graphql_kept_rules.specs.SameTexts.{SameFragmentText, SameSelectionText}
use Rattle.graphql_kept_rules.proofs.TextSelectionLemmas.{SameFragments, SameSet, field_too, fragment_set, inline_fragment_too, same_field_node, selection_too, spread_too}
use Rattle.graphql_sameness_laws.proofs.ZipLemmas.{other_side}

-- ==== what is written in a set

pub set_written_too : {set inner : SelectionSet} → SetWritten set inner → (other : SelectionSet) → SameSet set other →
    (found : SelectionSet) × SetWritten other found × SameSet inner found
set_written_too set_itself other same = (other, set_itself, same)
set_written_too (set_in_field {set = set} {inner = inner} {f = f} c below) other same =
    let g = field_too (selections_of set) (selections_of other) same.selections f c in
    let deep = set_written_too below g.0.value.value.selection_set g.2.set in
    (deep.0, set_in_field g.1 deep.1, deep.2)
set_written_too (set_in_inline_fragment {set = set} {inner = inner} {i = i} c below) other same =
    let j = inline_fragment_too (selections_of set) (selections_of other) same.selections i c in
    let deep = set_written_too below j.0.value.value.selection_set j.2.set in
    (deep.0, set_in_inline_fragment j.1 deep.1, deep.2)

pub written_too : (set : SelectionSet) (s : Selection) → Written set s → (other : SelectionSet) → SameSet set other →
    (t : Selection) × Written other t × SameSelectionText s t
written_too set s w other same =
    let deep = set_written_too w.1 other same in
    let found = selection_too (selections_of w.0) (selections_of deep.0) deep.2.selections s w.2 in
    (found.0, (deep.0, deep.1, found.1), found.2)

-- ==== what is inside a set or below it, fragments gone into

module _ (before after : Fragments) (alike : SameFragments before after) where
  pub fragment_too : (p q : NameText) (d : Node Fragment) → p ≡ q → before p ≡ Some d → (e : Node Fragment) × (after q ≡ Some e) × SameFragmentText d e
  fragment_too p q d pq e =
      let found = other_side SameFragmentText (before p) (after p) d (alike p) e in
      (found.0, subst (λ n. after n ≡ Some found.0) pq found.1, found.2)

  pub included_too : {set inner : SelectionSet} → Includes before set inner → (other : SelectionSet) → SameSet set other →
      (found : SelectionSet) × Includes after other found × SameSet inner found
  included_too includes_itself other same = (other, includes_itself, same)
  included_too (includes_inline_fragment {set = set} {inner = inner} {i = i} c below) other same =
      let j = inline_fragment_too (selections_of set) (selections_of other) same.selections i c in
      let deep = included_too below j.0.value.value.selection_set j.2.set in
      (deep.0, includes_inline_fragment j.1 deep.1, deep.2)
  included_too (includes_spread {set = set} {inner = inner} {p = p} {d = d} c defined below) other same =
      let q = spread_too (selections_of set) (selections_of other) same.selections p c in
      let e = fragment_too p.value.value.fragment_name q.0.value.value.fragment_name d q.2.name defined in
      let deep = included_too below e.0.value.value.selection_set (fragment_set d e.0 e.2) in
      (deep.0, includes_spread q.1 e.1 deep.1, deep.2)

  pub inside_too : (set : SelectionSet) (s : Selection) → InExpandedSet before set s → (other : SelectionSet) → SameSet set other →
      (t : Selection) × InExpandedSet after other t × SameSelectionText s t
  inside_too set s inside other same =
      let deep = included_too inside.1 other same in
      let found = selection_too (selections_of inside.0) (selections_of deep.0) deep.2.selections s inside.2 in
      (found.0, (deep.0, deep.1, found.1), found.2)

  pub reachable_too : {set : SelectionSet} {s : Selection} → Reachable before set s → (other : SelectionSet) → SameSet set other →
      (t : Selection) × Reachable after other t × SameSelectionText s t
  reachable_too (reachable_inside {set = set} {s = s} inside) other same =
      let found = inside_too set s inside other same in
      (found.0, reachable_inside found.1, found.2)
  reachable_too (reachable_below {set = set} {s = s} {f = f} inside below) other same =
      let found = inside_too set (kind.Field f) inside other same in
      let g = same_field_node f found.0 found.2 in
      let deep = reachable_too below g.0.value.value.selection_set g.1.set in
      (deep.0, reachable_below (subst (InExpandedSet after other) g.2 found.1) deep.1, deep.2)
