-- How much an expansion has left: what is in the sets that are still to be listed, and in the fragments whose names it has not visited.
use Rattle.std.proofs.Common.{◌≡◌, ℕ, ◌+◌, ◌<◌, ◌≤◌, Bool, true, false, ◌||◌, List, [], ◌∷◌, ◌++◌, Option, Some, None, IsFalse, refl, sym, ap, ◌∙◌, sum_by, arith}
use Rattle.std.specs.List.{list_any}
use Rattle.std.specs.Map.{lookup}
use Rattle.std.proofs.lemmas.List.Sums.{sum_by-append, sum_by-cons}
use Rattle.graphql_specification.specs.MergedSets.{FragmentSets, followed_by, into_inline_fragment, into_spread, no_more, past_field, past_spread}
use Rattle.graphql_nodes.specs.Names.{NameText, same_name}
use Rattle.graphql_documents.specs.Selections.{Fragments, selections_of}
use Rattle.graphql_documents.specs.declared.documents.executables.Fragment.{Fragment}
use Rattle.graphql_documents.specs.declared.documents.executables.Selection.TheVariants as kind
use Rattle.graphql_documents.specs.declared.documents.executables.Selection.{Selection}
use Rattle.graphql_documents.specs.declared.documents.executables.SelectionSet.{SelectionSet}
use Rattle.graphql_nodes.specs.declared.nodes.Node.{Node}
use Rattle.graphql_nodes.proofs.NameLemmas.{same_name_back}
use Rattle.graphql_laws.proofs.VisitedNameLemmas.{Entries, visited_alike}
use Rattle.graphql_laws.proofs.SizeLemmas.{size_of, size_of_inline, size_of_set, size_of_set_is}
use Rattle.graphql_merging.specs.ExpansionSteps.{Expanding, Expands, fragments_in}

-- nothing, where it holds
abbrev unless : Bool → ℕ → ℕ
unless true n = 0
unless false n = n

-- what is in the fragments whose names were not visited
abbrev pub room : List NameText → Entries → ℕ
room visited [] = 0
room visited (e ∷ es) = unless (list_any (same_name e.0) visited) (size_of_set e.1.value.value.selection_set) + room visited es

-- the same, and what is in the sets of the queue
abbrev pub left : Expanding → ℕ
left expansion = sum_by size_of_set expansion.queue + room expansion.visited expansion.fragments.entries

no_more_left : (a b : Bool) (n : ℕ) → unless (a || b) n ≤ unless b n
no_more_left true true n = omega arith
no_more_left true false n = omega arith
no_more_left false b n = omega arith

room_stays : (name : NameText) (visited : List NameText) (es : Entries) → room (name ∷ visited) es ≤ room visited es
room_stays name visited [] = omega arith
room_stays name visited (e ∷ es) =
    omega (arith, no_more_left (same_name e.0 name) (list_any (same_name e.0) visited) (size_of_set e.1.value.value.selection_set), room_stays name visited es)

room_falls : (name : NameText) (visited : List NameText) (es : Entries) (d : Node Fragment) → lookup (same_name name) es ≡ Some d →
    IsFalse (list_any (same_name name) visited) → room (name ∷ visited) es + size_of_set d.value.value.selection_set ≤ room visited es
room_falls name visited [] d found new = absurd (let no : ⊥ = cc in no)
room_falls name visited (e ∷ es) d found new = at_first (same_name name e.0) refl (λ later. room_falls name visited es d later new) where
  at_first : (b : Bool) → same_name name e.0 ≡ b → (lookup (same_name name) es ≡ Some d → room (name ∷ visited) es + size_of_set d.value.value.selection_set ≤ room visited es) →
      room (name ∷ visited) (e ∷ es) + size_of_set d.value.value.selection_set ≤ room visited (e ∷ es)
  at_first true is falls =
      let same : e.1 ≡ d = let f : Some e.1 ≡ Some d = rw is at found in cc in
      let back : same_name e.0 name ≡ true = same_name_back name e.0 is in
      let unvisited : list_any (same_name e.0) visited ≡ false = sym (visited_alike name e.0 is visited) ∙ new in
      rw (back, unvisited, sym same) (omega (arith, room_stays name visited es))
  at_first false is falls =
      let later : room (name ∷ visited) es + size_of_set d.value.value.selection_set ≤ room visited es = falls (rw is at found) in
      omega (arith, later, no_more_left (same_name e.0 name) (list_any (same_name e.0) visited) (size_of_set e.1.value.value.selection_set))

-- the sets of the fragments among some selections are no larger than these, but for the fragments that were
-- visited with them
module _ (fragments : Fragments) (entries : Entries) (looks_up : (name : NameText) → fragments name ≡ lookup (same_name name) entries) where
  gathered : {seen visited : List NameText} {xs : List Selection} {sets : List SelectionSet} → FragmentSets fragments seen xs sets visited →
      sum_by size_of_set sets + room visited entries ≤ sum_by size_of xs + room seen entries
  gathered no_more = omega arith
  gathered (past_field f rest found) = omega (arith, gathered found, sum_by-cons size_of (kind.Field f) rest)
  gathered (into_inline_fragment {sets = sets} i rest found) =
      omega (arith, gathered found, sum_by-cons size_of (kind.InlineFragment i) rest, sum_by-cons size_of_set i.value.value.selection_set sets, size_of_inline i)
  gathered (past_spread p rest known found) = omega (arith, gathered found, sum_by-cons size_of (kind.FragmentSpread p) rest)
  gathered {seen = seen} (into_spread {visited = visited} {sets = sets} p rest fresh found) = by (fragments p.value.value.fragment_name) refl (gathered found) where
    by : (o : Option (Node Fragment)) → fragments p.value.value.fragment_name ≡ o →
        sum_by size_of_set sets + room visited entries ≤ sum_by size_of rest + room (p.value.value.fragment_name ∷ seen) entries →
        sum_by size_of_set (followed_by (fragments p.value.value.fragment_name) sets) + room visited entries ≤ sum_by size_of (kind.FragmentSpread p ∷ rest) + room seen entries
    by None is behind = rw is (omega (arith, behind, sum_by-cons size_of (kind.FragmentSpread p) rest, room_stays p.value.value.fragment_name seen entries))
    by (Some d) is behind =
        let falls = room_falls p.value.value.fragment_name seen entries d (sym (looks_up p.value.value.fragment_name) ∙ is) fresh in
        rw is (omega (arith, behind, falls, sum_by-cons size_of (kind.FragmentSpread p) rest, sum_by-cons size_of_set d.value.value.selection_set sets))

-- once the first set of a queue was listed there is less left
pub less_left : (set : SelectionSet) (a b : Expanding) → Expands a b set.ty (selections_of set) →
    left b < sum_by size_of_set (set ∷ a.queue) + room a.visited a.fragments.entries
less_left set a b e =
    let same : left b ≡ sum_by size_of_set (a.queue ++ e.sets) + room b.visited a.fragments.entries =
    ap (λ q. sum_by size_of_set q + room b.visited b.fragments.entries) e.queue ∙
    ap (λ (m : _). sum_by size_of_set (a.queue ++ e.sets) + room b.visited m.entries) e.fragments in
    omega (
      arith,
      same,
      gathered (fragments_in a.fragments) a.fragments.entries (λ name. refl) e.found,
      sum_by-append size_of_set a.queue e.sets,
      sum_by-cons size_of_set set a.queue,
      size_of_set_is set,
    )
