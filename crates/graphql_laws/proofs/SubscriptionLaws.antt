-- How many fields a walk over a set and its fragments meets.
use Rattle.std.proofs.Common.{◌≡◌, ◌↔◌, ℕ, suc, ◌+◌, ◌≤◌, Bool, true, false, List, [], ◌∷◌, ◌++◌, Some, None, inl, inr, refl, sym, ◌∙◌, ap, subst, All, AllPairs, Contains, length, sum_by, arith, length-append}
use Rattle.std.specs.List.{list_any}
use Rattle.std.proofs.lemmas.List.Elements.{All-nil, All-cons, All-head, All-tail, All-append, All-weaker, All-contains, Contains-append_left, Contains-append_right, Contains-append_cases}
use Rattle.std.proofs.lemmas.List.Kept.{AllPairs-cons}
use Rattle.std.proofs.lemmas.List.Sums.{sum_by-cons, sum_by-append}
use Rattle.graphql_nodes.specs.Names.{NameText, SameName, DifferentNames, same_name}
use Rattle.graphql_documents.specs.Selections.{Fragments, fragments_of, selections_of, InExpandedSet, Includes, includes_itself, includes_inline_fragment, includes_spread}
use Rattle.graphql_specification.specs.Subscriptions.{RootFields, no_selections, root_field, root_inline_fragment, root_spread, WalkedFields, walked_none, walked_field, walked_inline_fragment, walked_known_spread, walked_undefined_spread, walked_spread, SpreadFields, HasOneRootField}
use Rattle.graphql_nodes.specs.declared.nodes.Node.{Node}
use Rattle.graphql_documents.specs.declared.documents.executables.ExecutableDocument.{ExecutableDocument}
use Rattle.graphql_documents.specs.declared.documents.executables.Selection.{Selection, out-Selection}
use Rattle.graphql_documents.specs.declared.documents.executables.Selection.TheOpen as Open
use Rattle.graphql_documents.specs.declared.documents.executables.Selection.TheVariants as kind
use Rattle.graphql_documents.specs.declared.documents.executables.SelectionSet.{SelectionSet}
use Rattle.graphql_documents.specs.declared.documents.executables.Field.{Field}
use Rattle.graphql_documents.specs.declared.documents.executables.InlineFragment.{InlineFragment}
use Rattle.graphql_documents.specs.declared.documents.executables.FragmentSpread.{FragmentSpread}
use Rattle.graphql_documents.specs.declared.documents.executables.Fragment.{Fragment}
use Rattle.graphql_nodes.proofs.NameLemmas.{same_name_itself, same_name_back, same_name_then, not_both}
use Rattle.graphql_documents.proofs.ListLemmas.{none_stands, only_one, stands_first, stands_behind, each_standing}
use Rattle.graphql_documents.proofs.SelectionLemmas.{not_inline, not_spread, same_inline, same_spread, spread_not_inline, includes_then, one_fragment_found}
use Rattle.graphql_laws.proofs.VisitedNameLemmas.{Visited, Unvisited, visited_itself, visited_behind, differs, unvisited_before}

abbrev name_of : Node FragmentSpread → NameText
name_of p = p.value.value.fragment_name

-- pairs of a list that is put together
module _ {X : Type 0} (R : X → X → Type 0) where
  pairs_none : AllPairs R []
  pairs_none = λ i j d before within. absurd (let no : ⊥ = omega arith in no)

  pairs_head : (x : X) (xs : List X) → AllPairs R (x ∷ xs) → All (R x) xs
  pairs_head x xs all = λ k d within. all 0 (suc k) d (omega arith) (omega arith)

  pairs_tail : (x : X) (xs : List X) → AllPairs R (x ∷ xs) → AllPairs R xs
  pairs_tail x xs all = λ i j d before within. all (suc i) (suc j) d (omega arith) (omega arith)

  pairs_append : (xs ys : List X) → AllPairs R xs → AllPairs R ys → ((x y : X) → Contains xs x → Contains ys y → R x y) → AllPairs R (xs ++ ys)
  pairs_append [] ys first second between = second
  pairs_append (x ∷ xs) ys first second between =
      AllPairs-cons R x (xs ++ ys)
      (All-append (R x) xs ys (pairs_head x xs first) (each_standing (R x) ys (λ y in'. between x y (stands_first x xs) in')))
      (pairs_append xs ys (pairs_tail x xs first) second (λ a b in_a in_b. between a b (stands_behind x xs a in_a) in_b))

-- a list is what is before an element, that element, and what is behind it
taken_out : {X : Type 0} (xs : List X) (x : X) → Contains xs x → (before : List X) × (behind : List X) × (xs ≡ before ++ x ∷ behind)
taken_out [] x in' = absurd (none_stands x in')
taken_out (y ∷ ys) x in' = elim (Contains-append_cases (y ∷ []) ys x in') [
  | inl here ↦ ([], ys, ap (λ z. z ∷ ys) (sym (only_one y x here)))
  | inr later ↦ let parts = taken_out ys x later in (y ∷ parts.0, parts.1, ap (λ l. y ∷ l) parts.2)
]

-- a list of which each element has another of its weight in a second list weighs no more than that
module _ {X : Type 0} (weight : X → ℕ) (R M : X → X → Type 0)
    (weighs : (x y : X) → M x y → weight x ≡ weight y) (apart : (x y z : X) → R x y → M x z → M y z → ⊥) where
  weighs_no_more : (xs ys : List X) → AllPairs R xs → ((x : X) → Contains xs x → (y : X) × Contains ys y × M x y) → sum_by weight xs ≤ sum_by weight ys
  weighs_no_more [] ys differ matched = omega arith
  weighs_no_more (x ∷ xs) ys differ matched =
      let own = matched x (stands_first x xs) in
      let parts = taken_out ys own.0 own.1 in
      let rest : sum_by weight xs ≤ sum_by weight (parts.0 ++ parts.1) =
      weighs_no_more xs (parts.0 ++ parts.1) (pairs_tail R x xs differ) (λ z in_z.
      let other = matched z (stands_behind x xs z in_z) in
      elim (Contains-append_cases parts.0 (own.0 ∷ parts.1) other.0 (subst (λ l. Contains l other.0) parts.2 other.1)) [
        | inl before ↦ (other.0, Contains-append_left parts.0 parts.1 other.0 before, other.2)
        | inr here ↦ elim (Contains-append_cases (own.0 ∷ []) parts.1 other.0 here) [
          | inl it ↦ absurd (apart x z own.0 (All-contains (R x) xs z (pairs_head R x xs differ) in_z) own.2
              (subst (M z) (only_one own.0 other.0 it) other.2))
          | inr behind ↦ (other.0, Contains-append_right parts.0 parts.1 other.0 behind, other.2)
        ]
      ]) in
      let whole : sum_by weight ys ≡ sum_by weight parts.0 + (weight own.0 + sum_by weight parts.1) =
      ap (sum_by weight) parts.2 ∙ sum_by-append weight parts.0 (own.0 ∷ parts.1) ∙
      ap (λ n. sum_by weight parts.0 + n) (sum_by-cons weight own.0 parts.1) in
      omega (arith, sum_by-cons weight x xs, sum_by-append weight parts.0 parts.1, weighs x own.0 own.2)

-- a selection as it opens
abbrev Opened : Type 0
Opened = Open.Selection-F Selection Field InlineFragment SelectionSet

-- what the fields written among the selections are, by the first of these
abbrev FromFirst : Opened → List Selection → List (Node Field) → Type 0
FromFirst (Open.Field f) rest fields = (more : List (Node Field)) × RootFields rest more × (fields ≡ f ∷ more)
FromFirst (Open.FragmentSpread p) rest fields = RootFields rest fields
FromFirst (Open.InlineFragment i) rest fields =
    (within : List (Node Field)) × (more : List (Node Field)) × RootFields (selections_of i.value.value.selection_set) within × RootFields rest more × (fields ≡ within ++ more)

abbrev ByFirst : List Selection → List (Node Field) → Type 0
ByFirst [] fields = fields ≡ []
ByFirst (s ∷ rest) fields = FromFirst (out-Selection s) rest fields

by_first : {selections : List Selection} {fields : List (Node Field)} → RootFields selections fields → ByFirst selections fields
by_first no_selections = refl
by_first (root_field f {rest = rest} {fields = fields} more) =
    subst (λ o. FromFirst o rest (f ∷ fields)) (sym (kind.outs-Field f)) (fields, more, refl)
by_first (root_inline_fragment i {rest = rest} {within = within} {fields = fields} inner more) =
    subst (λ o. FromFirst o rest (within ++ fields)) (sym (kind.outs-InlineFragment i)) (within, fields, inner, more, refl)
by_first (root_spread p {rest = rest} {fields = fields} more) =
    subst (λ o. FromFirst o rest fields) (sym (kind.outs-FragmentSpread p)) more

-- the fields written among selections are these and no others
one_list : {selections : List Selection} {fields : List (Node Field)} → RootFields selections fields →
    (others : List (Node Field)) → RootFields selections others → fields ≡ others
one_list no_selections others written = sym (by_first written)
one_list (root_field f {rest = rest} {fields = fields} more) others written =
    let first = subst (λ o. FromFirst o rest others) (kind.outs-Field f) (by_first written) in
    ap (λ l. f ∷ l) (one_list more first.0 first.1) ∙ sym first.2
one_list (root_inline_fragment i {rest = rest} {within = within} {fields = fields} inner more) others written =
    let first = subst (λ o. FromFirst o rest others) (kind.outs-InlineFragment i) (by_first written) in
    ap (λ l. l ++ fields) (one_list inner first.0 first.2) ∙ ap (λ l. first.0 ++ l) (one_list more first.1 first.3) ∙ sym first.4
one_list (root_spread p {rest = rest} {fields = fields} more) others written =
    one_list more others (subst (λ o. FromFirst o rest others) (kind.outs-FragmentSpread p) (by_first written))

-- each spread among the selections and in their inline fragments has a name that was visited
data Covered (visited : List NameText) : List Selection → Type 0 where
  covered_none : Covered visited []
  covered_field : (f : Node Field) {rest : List Selection} → Covered visited rest → Covered visited (kind.Field f ∷ rest)
  covered_inline : (i : Node InlineFragment) {rest : List Selection} →
      Covered visited (selections_of i.value.value.selection_set) → Covered visited rest → Covered visited (kind.InlineFragment i ∷ rest)
  covered_spread : (p : Node FragmentSpread) {rest : List Selection} →
      Visited visited (name_of p) → Covered visited rest → Covered visited (kind.FragmentSpread p ∷ rest)

still_covered : {old new : List NameText} → ((name : NameText) → Visited old name → Visited new name) →
    {selections : List Selection} → Covered old selections → Covered new selections
still_covered still covered_none = covered_none
still_covered still (covered_field f more) = covered_field f (still_covered still more)
still_covered still (covered_inline i inner more) = covered_inline i (still_covered still inner) (still_covered still more)
still_covered still (covered_spread p visited more) = covered_spread p (still (name_of p) visited) (still_covered still more)

within_inline : {visited : List NameText} {selections : List Selection} → Covered visited selections → (i : Node InlineFragment) →
    Contains selections (kind.InlineFragment i) → Covered visited (selections_of i.value.value.selection_set)
within_inline covered_none i in' = absurd (none_stands (kind.InlineFragment i) in')
within_inline (covered_field f {rest = rest} more) i in' = elim (Contains-append_cases (kind.Field f ∷ []) rest (kind.InlineFragment i) in') [
  | inl here ↦ absurd (not_inline f i (only_one (kind.Field f) (kind.InlineFragment i) here))
  | inr later ↦ within_inline more i later
]
within_inline {visited} (covered_inline j {rest = rest} inner more) i in' = elim (Contains-append_cases (kind.InlineFragment j ∷ []) rest (kind.InlineFragment i) in') [
  | inl here ↦
      subst (λ (k : Node InlineFragment). Covered visited (selections_of k.value.value.selection_set))
      (sym (same_inline i j (only_one (kind.InlineFragment j) (kind.InlineFragment i) here))) inner
  | inr later ↦ within_inline more i later
]
within_inline (covered_spread p {rest = rest} visited more) i in' = elim (Contains-append_cases (kind.FragmentSpread p ∷ []) rest (kind.InlineFragment i) in') [
  | inl here ↦ absurd (spread_not_inline i p (sym (only_one (kind.FragmentSpread p) (kind.InlineFragment i) here)))
  | inr later ↦ within_inline more i later
]

spread_visited : {visited : List NameText} {selections : List Selection} → Covered visited selections → (p : Node FragmentSpread) →
    Contains selections (kind.FragmentSpread p) → Visited visited (name_of p)
spread_visited covered_none p in' = absurd (none_stands (kind.FragmentSpread p) in')
spread_visited (covered_field f {rest = rest} more) p in' = elim (Contains-append_cases (kind.Field f ∷ []) rest (kind.FragmentSpread p) in') [
  | inl here ↦ absurd (not_spread f p (only_one (kind.Field f) (kind.FragmentSpread p) here))
  | inr later ↦ spread_visited more p later
]
spread_visited (covered_inline i {rest = rest} inner more) p in' = elim (Contains-append_cases (kind.InlineFragment i ∷ []) rest (kind.FragmentSpread p) in') [
  | inl here ↦ absurd (spread_not_inline i p (only_one (kind.InlineFragment i) (kind.FragmentSpread p) here))
  | inr later ↦ spread_visited more p later
]
spread_visited {visited} (covered_spread q {rest = rest} named more) p in' = elim (Contains-append_cases (kind.FragmentSpread q ∷ []) rest (kind.FragmentSpread p) in') [
  | inl here ↦
      subst (λ (r : Node FragmentSpread). Visited visited r.value.value.fragment_name)
      (sym (same_spread p q (only_one (kind.FragmentSpread q) (kind.FragmentSpread p) here))) named
  | inr later ↦ spread_visited more p later
]

-- a fragment's name, with the fields written in the fragment
abbrev Part : Type 0
Part = NameText × List (Node Field)

abbrev fields_in : Part → ℕ
fields_in part = length part.1

abbrev Apart : Part → Part → Type 0
Apart a b = DifferentNames a.0 b.0

-- a fragment under this name is among the parts, and what is spread in it was visited
record Listed (visited : List NameText) (parts : List Part) (name : NameText) (d : Node Fragment) : Type 0 where
  part : Part
  stands : Contains parts part
  named : SameName name part.0
  written : RootFields (selections_of d.value.value.selection_set) part.1
  covered : Covered visited (selections_of d.value.value.selection_set)

listed_among : (old new : List NameText) (few many : List Part) (name : NameText) (d : Node Fragment) →
    ((n : NameText) → Visited old n → Visited new n) → ((part : Part) → Contains few part → Contains many part) →
    Listed old few name d → Listed new many name d
listed_among old new few many name d still more listed = record {
  part = listed.part;
  stands = more listed.part listed.stands;
  named = listed.named;
  written = listed.written;
  covered = still_covered still listed.covered;
}

still_visited : {fragments : Fragments} {seen visited : List NameText} {selections : List Selection} {walked : List (Node Field)} →
    WalkedFields fragments seen selections walked visited → (name : NameText) → Visited seen name → Visited visited name
still_visited walked_none name h = h
still_visited (walked_field f rest more) name h = still_visited more name h
still_visited (walked_inline_fragment i rest inner more) name h = still_visited more name (still_visited inner name h)
still_visited (walked_known_spread p rest known more) name h = still_visited more name h
still_visited (walked_undefined_spread {seen = seen} p rest undefined more) name h =
    still_visited more name (visited_behind (name_of p) seen name h)
still_visited (walked_spread {seen = seen} p rest new found inner more) name h =
    still_visited more name (still_visited inner name (visited_behind (name_of p) seen name h))

-- what is in the set of an inline fragment or of a fragment is inside the set around it
inside_inline : (fragments : Fragments) (set : SelectionSet) (i : Node InlineFragment) → InExpandedSet fragments set (kind.InlineFragment i) →
    All (InExpandedSet fragments set) (selections_of i.value.value.selection_set)
inside_inline fragments set i (outer, included, stands) =
    each_standing (InExpandedSet fragments set) (selections_of i.value.value.selection_set) (λ s in'.
    (i.value.value.selection_set, includes_then fragments included (includes_inline_fragment stands includes_itself), in'))

inside_spread : (fragments : Fragments) (set : SelectionSet) (p : Node FragmentSpread) (d : Node Fragment) →
    InExpandedSet fragments set (kind.FragmentSpread p) → fragments (name_of p) ≡ Some d →
    All (InExpandedSet fragments set) (selections_of d.value.value.selection_set)
inside_spread fragments set p d (outer, included, stands) found =
    each_standing (InExpandedSet fragments set) (selections_of d.value.value.selection_set) (λ s in'.
    (d.value.value.selection_set, includes_then fragments included (includes_spread stands found includes_itself), in'))

module _ (fragments : Fragments) (respects : (a b : NameText) → SameName a b → fragments a ≡ fragments b) (set : SelectionSet) where
  abbrev IsSpread : Part → Type 0
  IsSpread part = SpreadFields fragments set part.0 part.1

  -- the parts are those of the fragments that were newly visited
  record NewlyVisited (seen visited : List NameText) (parts : List Part) : Type 0 where
    spread : All IsSpread parts
    differ : AllPairs Apart parts
    unvisited : All (λ part. Unvisited seen part.0) parts
    visited' : All (λ part. Visited visited part.0) parts
    listed : (name : NameText) (d : Node Fragment) → Visited visited name → Unvisited seen name → fragments name ≡ Some d → Listed visited parts name d

  nothing_visited : (seen : List NameText) → NewlyVisited seen seen []
  nothing_visited seen = record {
    spread = All-nil IsSpread;
    differ = pairs_none Apart;
    unvisited = All-nil (λ part. Unvisited seen part.0);
    visited' = All-nil (λ part. Visited seen part.0);
    listed = λ name d is_visited is_new found. absurd (let no : ⊥ = cc in no);
  }

  -- one walk after another
  visited_then : (seen between visited : List NameText) (early late : List Part) →
      ((name : NameText) → Visited seen name → Visited between name) → ((name : NameText) → Visited between name → Visited visited name) →
      NewlyVisited seen between early → NewlyVisited between visited late → NewlyVisited seen visited (early ++ late)
  visited_then seen between visited early late still further first after = record {
    spread = All-append IsSpread early late first.spread after.spread;
    differ = pairs_append Apart early late first.differ after.differ (λ x y in_x in_y.
        differs between x.0 y.0
        (All-contains (λ part. Visited between part.0) early x first.visited' in_x)
        (All-contains (λ part. Unvisited between part.0) late y after.unvisited in_y));
    unvisited = All-append (λ part. Unvisited seen part.0) early late first.unvisited
        (All-weaker (λ part. Unvisited between part.0) (λ part. Unvisited seen part.0) (λ part. unvisited_before seen between part.0 (still part.0)) late after.unvisited);
    visited' = All-append (λ part. Visited visited part.0) early late
        (All-weaker (λ part. Visited between part.0) (λ part. Visited visited part.0) (λ part. further part.0) early first.visited') after.visited';
    listed = λ name d is_visited is_new found. listed_in_either name d is_visited is_new found (list_any (same_name name) between) refl;
  } where
    listed_in_either : (name : NameText) (d : Node Fragment) → Visited visited name → Unvisited seen name → fragments name ≡ Some d →
        (b : Bool) → list_any (same_name name) between ≡ b → Listed visited (early ++ late) name d
    listed_in_either name d is_visited is_new found true e =
        listed_among between visited early (early ++ late) name d further (λ part. Contains-append_left early late part) (first.listed name d e is_new found)
    listed_in_either name d is_visited is_new found false e =
        listed_among visited visited late (early ++ late) name d (λ n h. h) (λ part. Contains-append_right early late part) (after.listed name d is_visited e found)

  -- a name of no fragment was visited before the walk
  visited_undefined : (seen visited : List NameText) (visited_fragments : NameText) (parts : List Part) → fragments visited_fragments ≡ None →
      NewlyVisited (visited_fragments ∷ seen) visited parts → NewlyVisited seen visited parts
  visited_undefined seen visited visited_fragments parts undefined after = record {
    spread = after.spread;
    differ = after.differ;
    unvisited = All-weaker (λ part. Unvisited (visited_fragments ∷ seen) part.0) (λ part. Unvisited seen part.0)
        (λ part. unvisited_before seen (visited_fragments ∷ seen) part.0 (visited_behind visited_fragments seen part.0)) parts after.unvisited;
    visited' = after.visited';
    listed = λ name d is_visited is_new found. listed_still name d is_visited is_new found (same_name name visited_fragments) refl;
  } where
    listed_still : (name : NameText) (d : Node Fragment) → Visited visited name → Unvisited seen name → fragments name ≡ Some d →
        (b : Bool) → same_name name visited_fragments ≡ b → Listed visited parts name d
    listed_still name d is_visited is_new found true e = absurd (let same = respects name visited_fragments e in let no : ⊥ = cc in no)
    listed_still name d is_visited is_new found false e = after.listed name d is_visited (rw e is_new) found

  -- a fragment was visited before the walk
  visited_fragment_names_are : (seen visited : List NameText) (p : Node FragmentSpread) (d : Node Fragment) (own : List (Node Field)) (parts : List Part) →
      InExpandedSet fragments set (kind.FragmentSpread p) → Unvisited seen (name_of p) → fragments (name_of p) ≡ Some d →
      RootFields (selections_of d.value.value.selection_set) own → Covered visited (selections_of d.value.value.selection_set) →
      Visited visited (name_of p) → NewlyVisited (name_of p ∷ seen) visited parts → NewlyVisited seen visited ((name_of p, own) ∷ parts)
  visited_fragment_names_are seen visited p d own parts inside new found written covered visited_now after =
      let here : Part = (name_of p, own) in
      record {
        spread = All-cons IsSpread here parts (record { spread = p; definition = d; inside = inside; named = same_name_itself (name_of p); defined = found; written = written }) after.spread;
        differ = AllPairs-cons Apart here parts
            (All-weaker (λ part. Unvisited (name_of p ∷ seen) part.0) (Apart here)
            (λ part. differs (name_of p ∷ seen) (name_of p) part.0 (visited_itself (name_of p) seen)) parts after.unvisited) after.differ;
        unvisited = All-cons (λ part. Unvisited seen part.0) here parts new
            (All-weaker (λ part. Unvisited (name_of p ∷ seen) part.0) (λ part. Unvisited seen part.0)
            (λ part. unvisited_before seen (name_of p ∷ seen) part.0 (visited_behind (name_of p) seen part.0)) parts after.unvisited);
        visited' = All-cons (λ part. Visited visited part.0) here parts visited_now after.visited';
        listed = λ name e is_visited is_new is. listed_or_here name e is_visited is_new is (same_name name (name_of p)) refl;
      } where
        listed_or_here : (name : NameText) (e : Node Fragment) → Visited visited name → Unvisited seen name → fragments name ≡ Some e →
            (b : Bool) → same_name name (name_of p) ≡ b → Listed visited ((name_of p, own) ∷ parts) name e
        listed_or_here name e is_visited is_new is true named =
            let same = respects name (name_of p) named in
            let one : d ≡ e = cc in
            record {
              part = (name_of p, own);
              stands = stands_first (name_of p, own) parts;
              named = named;
              written = subst (λ (f : Node Fragment). RootFields (selections_of f.value.value.selection_set) own) one written;
              covered = subst (λ (f : Node Fragment). Covered visited (selections_of f.value.value.selection_set)) one covered;
            }
        listed_or_here name e is_visited is_new is false other =
            listed_among visited visited parts ((name_of p, own) ∷ parts) name e (λ n h. h) (stands_behind (name_of p, own) parts) (after.listed name e is_visited (rw other is_new) is)

  -- what a walk visited: fields among the selections, and those of the fragments that were newly visited
  record Sorted (seen visited : List NameText) (selections : List Selection) (walked : List (Node Field)) : Type 0 where
    own : List (Node Field)
    parts : List Part
    written : RootFields selections own
    number : length walked ≡ length own + sum_by fields_in parts
    newly : NewlyVisited seen visited parts
    covered : Covered visited selections

  sorted : {seen visited : List NameText} {selections : List Selection} {walked : List (Node Field)} →
      WalkedFields fragments seen selections walked visited → All (InExpandedSet fragments set) selections → Sorted seen visited selections walked
  sorted (walked_none {seen = seen}) inside =
      record { own = []; parts = []; written = no_selections; number = refl; newly = nothing_visited seen; covered = covered_none }
  sorted (walked_field {fields = fields} f rest more) inside =
      let after = sorted more (All-tail (InExpandedSet fragments set) (kind.Field f) rest inside) in
      record {
        own = f ∷ after.own;
        parts = after.parts;
        written = root_field f after.written;
        number = omega (arith, after.number);
        newly = after.newly;
        covered = covered_field f after.covered;
      }
  sorted (walked_inline_fragment {seen = seen} {between = between} {visited = visited} {within = within} {fields = fields} i rest inner more) inside =
      let first = sorted inner (inside_inline fragments set i (All-head (InExpandedSet fragments set) (kind.InlineFragment i) rest inside)) in
      let after = sorted more (All-tail (InExpandedSet fragments set) (kind.InlineFragment i) rest inside) in
      record {
        own = first.own ++ after.own;
        parts = first.parts ++ after.parts;
        written = root_inline_fragment i first.written after.written;
        number = simp (length-append, sum_by-append) (omega (arith, first.number, after.number));
        newly = visited_then seen between visited first.parts after.parts (still_visited inner) (still_visited more) first.newly after.newly;
        covered = covered_inline i (still_covered (still_visited more) first.covered) after.covered;
      }
  sorted (walked_known_spread p rest known more) inside =
      let after = sorted more (All-tail (InExpandedSet fragments set) (kind.FragmentSpread p) rest inside) in
      record {
        own = after.own;
        parts = after.parts;
        written = root_spread p after.written;
        number = after.number;
        newly = after.newly;
        covered = covered_spread p (still_visited more (name_of p) known) after.covered;
      }
  sorted (walked_undefined_spread {seen = seen} {visited = visited} p rest undefined more) inside =
      let named = name_of p in
      let after = sorted more (All-tail (InExpandedSet fragments set) (kind.FragmentSpread p) rest inside) in
      record {
        own = after.own;
        parts = after.parts;
        written = root_spread p after.written;
        number = after.number;
        newly = visited_undefined seen visited named after.parts undefined after.newly;
        covered = covered_spread p (still_visited more named (visited_itself named seen)) after.covered;
      }
  sorted (walked_spread {seen = seen} {between = between} {visited = visited} {d = d} {within = within} {fields = fields} p rest new found inner more) inside =
      let named = name_of p in
      let stands = All-head (InExpandedSet fragments set) (kind.FragmentSpread p) rest inside in
      let first = sorted inner (inside_spread fragments set p d stands found) in
      let after = sorted more (All-tail (InExpandedSet fragments set) (kind.FragmentSpread p) rest inside) in
      let visited_fragments : Visited between named = still_visited inner named (visited_itself named seen) in
      let here : Part = (named, first.own) in
      record {
        own = after.own;
        parts = (here ∷ first.parts) ++ after.parts;
        written = root_spread p after.written;
        number = simp (length-append, sum_by-append) (omega (arith, first.number, after.number, sum_by-cons fields_in here first.parts));
        newly = visited_then seen between visited (here ∷ first.parts) after.parts
            (λ name h. still_visited inner name (visited_behind named seen name h)) (still_visited more)
            (visited_fragment_names_are seen between p d first.own first.parts stands new found first.written first.covered visited_fragments first.newly) after.newly;
        covered = covered_spread p (still_visited more named visited_fragments) after.covered;
      }

  -- what is spread inside the set was visited, if what is spread in each fragment that was visited is
  covered_inside : {visited : List NameText} → ((name : NameText) (d : Node Fragment) → Visited visited name → fragments name ≡ Some d →
      Covered visited (selections_of d.value.value.selection_set)) →
      {outer inner : SelectionSet} → Includes fragments outer inner → Covered visited (selections_of outer) → Covered visited (selections_of inner)
  covered_inside closed includes_itself covered = covered
  covered_inside closed (includes_inline_fragment {i = i} stands more) covered = covered_inside closed more (within_inline covered i stands)
  covered_inside closed (includes_spread {p = p} {d = d} stands found more) covered =
      covered_inside closed more (closed (name_of p) d (spread_visited covered p stands) found)

  -- the two parts are of one fragment
  record OneFragment (x y : Part) : Type 0 where
    named : SameName x.0 y.0
    number : fields_in x ≡ fields_in y

  two_of_one : (x y z : Part) → Apart x y → OneFragment x z → OneFragment y z → ⊥
  two_of_one x y z apart first second =
      not_both x.0 y.0 (same_name_then x.0 z.0 y.0 first.named (same_name_back y.0 z.0 second.named)) apart

  module _ (visited : List NameText) (walked : List (Node Field)) (walk : WalkedFields fragments [] (selections_of set) walked visited) where
    all : Sorted [] visited (selections_of set) walked
    all = sorted walk (each_standing (InExpandedSet fragments set) (selections_of set) (λ s in'. (set, includes_itself, in')))

    -- each fragment that is spread inside the set is among what the walk visited
    is_listed : (part : Part) → IsSpread part → (found : Part) × Contains all.parts found × OneFragment part found
    is_listed part is =
        let named = is.spread.value.value.fragment_name in
        let covered = covered_inside (λ name d is_visited found. (all.newly.listed name d is_visited refl found).covered) is.inside.1 all.covered in
        let listed = all.newly.listed named is.definition (spread_visited covered is.spread is.inside.2) refl is.defined in (
          listed.part,
          listed.stands,
          record {
            named = same_name_then part.0 named listed.part.0 (same_name_back named part.0 is.named) listed.named;
            number = ap (λ l. length l) (one_list is.written listed.part.1 listed.written);
          },
        )

    pub decides_one_root_field : (length walked ≤ 1) ↔ HasOneRootField fragments set
    decides_one_root_field = (few, λ one. at_most one) where
      few : length walked ≤ 1 → HasOneRootField fragments set
      few short own spread written is_spread differ =
          let same : length all.own ≡ length own = ap (λ l. length l) (one_list all.written own written) in
          let fewer : sum_by fields_in spread ≤ sum_by fields_in all.parts =
          weighs_no_more fields_in Apart OneFragment (λ x y m. m.number) two_of_one spread all.parts differ
          (λ part in'. is_listed part (All-contains IsSpread spread part is_spread in')) in
          omega (arith, all.number)

      at_most : HasOneRootField fragments set → length walked ≤ 1
      at_most one =
          let few : length all.own + sum_by fields_in all.parts ≤ 1 = one all.own all.parts all.written all.newly.spread all.newly.differ in
          omega (arith, all.number)

pub walked_fields_decide : (document : ExecutableDocument) (set : SelectionSet) (walked : List (Node Field)) (visited : List NameText) →
    WalkedFields (fragments_of document) [] (selections_of set) walked visited → (length walked ≤ 1) ↔ HasOneRootField (fragments_of document) set
walked_fields_decide document set walked visited walk =
    decides_one_root_field (fragments_of document) (one_fragment_found document) set visited walked walk

pub spread_twice : (document : ExecutableDocument) (set : SelectionSet) (p q : Node FragmentSpread) (d : Node Fragment) (f : Node Field) →
    selections_of set ≡ kind.FragmentSpread p ∷ (kind.FragmentSpread q ∷ []) →
    SameName (name_of q) (name_of p) → fragments_of document (name_of p) ≡ Some d →
    selections_of d.value.value.selection_set ≡ kind.Field f ∷ [] → HasOneRootField (fragments_of document) set
spread_twice document set p q d f has same found only =
    let fragments = fragments_of document in
    let named = name_of p in
    let inner : WalkedFields fragments (named ∷ []) (selections_of d.value.value.selection_set) (f ∷ []) (named ∷ []) =
    rw only (walked_field f [] walked_none) in
    let known : Visited (named ∷ []) (name_of q) = rw same refl in
    let walk : WalkedFields fragments [] (selections_of set) (f ∷ []) (named ∷ []) =
    rw has (walked_spread p (kind.FragmentSpread q ∷ []) refl found inner (walked_known_spread q [] known walked_none)) in
    (walked_fields_decide document set (f ∷ []) (named ∷ []) walk).0 (omega arith)

pub two_fields : (fragments : Fragments) (set : SelectionSet) (a b : Node Field) →
    selections_of set ≡ kind.Field a ∷ (kind.Field b ∷ []) → ¬ HasOneRootField fragments set
two_fields fragments set a b has one =
    let written : RootFields (selections_of set) (a ∷ (b ∷ [])) = rw has (root_field a (root_field b no_selections)) in
    let Spread : Part → Type 0 = λ part. SpreadFields fragments set part.0 part.1 in
    let more : 2 ≤ 1 = one (a ∷ (b ∷ [])) [] written (All-nil Spread) (pairs_none Apart) in
    omega arith
