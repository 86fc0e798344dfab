-- How much a walk has left that goes into each fragment once: what is in the fragments that it has not visited.
use Rattle.std.proofs.Common.{◌≡◌, ℕ, ◌+◌, ◌<◌, ◌≤◌, Bool, true, false, List, [], ◌∷◌, Some, IsTrue, IsFalse, refl, sym, ap, ◌∙◌, arith, get_or, length, if◌then◌else◌}
use denote.Param.Weighed.{at_most}
use Rattle.std.specs.List.{list_any}
use Rattle.std.specs.Map.{lookup}
use Rattle.std.specs.Str.{bytes_eq}
use Rattle.graphql_nodes.specs.Names.{NameText, SameName, same_name, stands_on}
use Rattle.graphql_nodes.specs.declared.nodes.Node.{Node}
use Rattle.graphql_documents.specs.declared.documents.executables.Fragment.{Fragment}
use Rattle.graphql_documents.specs.declared.documents.executables.SelectionSet.{SelectionSet, size-SelectionSet, size_is-SelectionSet}
use Rattle.graphql_documents.specs.declared.documents.executables.Selection.{Selection, size-Selection}
use Rattle.graphql_nodes.proofs.NameLemmas.{same_text}

-- names of one text are on the same lists
pub stands_by_text : (names : List NameText) (a b : NameText) → SameName a b → stands_on names a ≡ stands_on names b
stands_by_text names a b same = ap (λ (text : List ℕ). list_any (λ (key : NameText). bytes_eq text key.text) names) (same_text a b same)

-- how deep the set of a fragment is, and one more for going into it
abbrev pub depth_of_fragment : Node Fragment → ℕ
depth_of_fragment d = size-SelectionSet d.value.value.selection_set + 1

-- the sum over the fragments that were not visited
abbrev pub room : List NameText → List (NameText × Node Fragment) → ℕ
room visited_fragments [] = 0
room visited_fragments (e ∷ es) = (if stands_on visited_fragments e.0 then 0 else depth_of_fragment e.1) + room visited_fragments es

one_falls : (a b : Bool) (n : ℕ) → (IsTrue a → IsTrue b) → (if b then 0 else n) ≤ (if a then 0 else n)
one_falls true true n still = omega arith
one_falls true false n still = absurd (let there = still refl in let no : ⊥ = cc in no)
one_falls false true n still = omega arith
one_falls false false n still = omega arith

-- with more visited there is no more room
pub room_stays : (old new : List NameText) → ((name : NameText) → IsTrue (stands_on old name) → IsTrue (stands_on new name)) →
    (es : List (NameText × Node Fragment)) → room new es ≤ room old es
room_stays old new still [] = omega arith
room_stays old new still (e ∷ es) =
    omega (arith, one_falls (stands_on old e.0) (stands_on new e.0) (depth_of_fragment e.1) (still e.0), room_stays old new still es)

-- and where a fragment was visited that was not before, its depth is gone
pub room_falls : (old new : List NameText) → ((name : NameText) → IsTrue (stands_on old name) → IsTrue (stands_on new name)) →
    (name : NameText) (d : Node Fragment) → IsFalse (stands_on old name) → IsTrue (stands_on new name) →
    (es : List (NameText × Node Fragment)) → lookup (same_name name) es ≡ Some d → room new es + depth_of_fragment d ≤ room old es
room_falls old new still name d fresh there [] found = absurd (let no : ⊥ = cc in no)
room_falls old new still name d fresh there (e ∷ es) found = at_first (same_name name e.0) refl (λ later. room_falls old new still name d fresh there es later) where
  at_first : (b : Bool) → same_name name e.0 ≡ b → (lookup (same_name name) es ≡ Some d → room new es + depth_of_fragment d ≤ room old es) →
      room new (e ∷ es) + depth_of_fragment d ≤ room old (e ∷ es)
  at_first true is later =
      let same : e.1 ≡ d = let f : Some e.1 ≡ Some d = rw is at found in cc in
      let is_fresh : stands_on old e.0 ≡ false = sym (stands_by_text old name e.0 is) ∙ fresh in
      let is_there : stands_on new e.0 ≡ true = sym (stands_by_text new name e.0 is) ∙ there in
      rw (is_fresh, is_there, sym same) (omega (arith, room_stays old new still es))
  at_first false is later =
      let rest : room new es + depth_of_fragment d ≤ room old es = later (rw is at found) in
      omega (arith, rest, one_falls (stands_on old e.0) (stands_on new e.0) (depth_of_fragment e.1) (still e.0))

-- a selection is less deep than the set in which it is
pub selection_is_smaller : (set : SelectionSet) (i : ℕ) (d : Selection) → i < length set.selections.items →
    size-Selection (get_or set.selections.items i d) < size-SelectionSet set
selection_is_smaller set i d within = omega (arith, size_is-SelectionSet set, at_most size-Selection set.selections.items i d within)
