-- The expansion of a list of sets lists the fields inside one of them.
use Rattle.std.proofs.Common.{◌≡◌, ◌↔◌, Bool, true, List, [], ◌∷◌, Option, Some, None, ◌⊎◌, inl, inr, refl, sym, ◌∙◌, ap, subst, All, Contains, map}
use Rattle.std.specs.Prelude.{filter, is_some, slice_get}
use Rattle.std.specs.List.{list_any}
use Rattle.std.proofs.lemmas.List.Elements.{All-nil, All-cons, All-head, All-tail, All-weaker, All-contains, All-contains_itself, All-filter, Contains-append_left, Contains-append_right, Contains-append_cases}
use Rattle.graphql_nodes.specs.Names.{NameText, SameName, same_name}
use Rattle.graphql_documents.specs.Selections.{Fragments, selections_of, Includes, includes_itself, includes_inline_fragment, includes_spread}
use Rattle.graphql_specification.specs.Merging.{FieldSelection, FieldInExpandedSet, set_of}
use Rattle.graphql_specification.specs.MergedSets.{as_field, fields_standing, followed_by, FragmentSets, no_more, past_field, into_inline_fragment, past_spread, into_spread, ExpandsFrom, expanded, expand_next, Expansion, nested_sets}
use Rattle.graphql_nodes.specs.declared.nodes.Node.{Node}
use Rattle.graphql_documents.specs.declared.documents.executables.Selection.{Selection, out-Selection, roll-Selection, roll-out-Selection}
use Rattle.graphql_documents.specs.declared.documents.executables.Selection.TheOpen as Open
use Rattle.graphql_documents.specs.declared.documents.executables.Selection.TheVariants as kind
use Rattle.graphql_documents.specs.declared.documents.executables.SelectionSet.{SelectionSet}
use Rattle.graphql_documents.specs.declared.documents.executables.Field.{Field}
use Rattle.graphql_documents.specs.declared.documents.executables.InlineFragment.{InlineFragment}
use Rattle.graphql_documents.specs.declared.documents.executables.FragmentSpread.{FragmentSpread}
use Rattle.graphql_documents.specs.declared.documents.executables.Fragment.{Fragment}
use Rattle.graphql_documents.proofs.ListLemmas.{none_stands, only_one, stands_first, stands_behind, made_by, made_of, kept_by_map, kept_by_filter, stands_mapped}
use Rattle.graphql_documents.proofs.SelectionLemmas.{not_inline, not_spread, same_inline, same_spread, spread_not_inline, includes_then}
use Rattle.graphql_laws.proofs.VisitedNameLemmas.{Visited, either_true, visited_itself, visited_behind}

-- a selection as it opens, as a field
abbrev Opened : Type 0
Opened = Open.Selection-F Selection Field InlineFragment SelectionSet

abbrev field_of : NameText → Opened → Option FieldSelection
field_of ty o = elim o [
  | Open.Field f ↦ Some (record { parent = ty; field = f })
  | Open.FragmentSpread p ↦ None
  | Open.InlineFragment i ↦ None
]

-- a selection that counts as a field is one
opened_field : (ty : NameText) (o : Opened) (x : FieldSelection) → field_of ty o ≡ Some x → (o ≡ Open.Field x.field) × (x.parent ≡ ty)
opened_field ty (Open.Field f) x e =
    let own : FieldSelection = record { parent = ty; field = f } in
    let same : own ≡ x = cc in
    (ap (λ (y : FieldSelection). Open.Field y.field) same, ap (λ (y : FieldSelection). y.parent) (sym same))
opened_field ty (Open.FragmentSpread p) x e = absurd (let no : ⊥ = cc in no)
opened_field ty (Open.InlineFragment i) x e = absurd (let no : ⊥ = cc in no)

-- the fields that are in a set are those that are listed of it
stands_as_field : (set : SelectionSet) (x : FieldSelection) → Contains (fields_standing set) x → Contains (selections_of set) (kind.Field x.field) × (x.parent ≡ set.ty)
stands_as_field set x listed =
    let made = made_by (as_field set.ty) (selections_of set) x listed in
    let opens = opened_field set.ty (out-Selection made.0) x made.2 in
    let is : made.0 ≡ kind.Field x.field = sym (roll-out-Selection made.0) ∙ ap roll-Selection opens.0 ∙ kind.rolls-Field x.field in
    (subst (Contains (selections_of set)) is made.1, opens.1)

listed_standing : (set : SelectionSet) (x : FieldSelection) → Contains (selections_of set) (kind.Field x.field) → x.parent ≡ set.ty → Contains (fields_standing set) x
listed_standing set x stands parent =
    kept_by_map (as_field set.ty) (selections_of set) (kind.Field x.field) x stands
    (let standing : NameText → Option FieldSelection = λ ty. Some (record { parent = ty; field = x.field }) in
    ap (field_of set.ty) (kind.outs-Field x.field) ∙ ap standing (sym parent))

-- what is in a list is its first, or is behind it
first_or_behind : {X : Type 0} (x : X) (xs : List X) (y : X) → Contains (x ∷ xs) y → (y ≡ x) ⊎ Contains xs y
first_or_behind x xs y in' = elim (Contains-append_cases (x ∷ []) xs y in') [
  | inl here ↦ inl (only_one x y here)
  | inr behind ↦ inr behind
]

-- the set of a fragment that was found goes first
behind_followed : (o : Option (Node Fragment)) (sets : List SelectionSet) (s : SelectionSet) → Contains sets s → Contains (followed_by o sets) s
behind_followed None sets s in' = in'
behind_followed (Some d) sets s in' = stands_behind d.value.value.selection_set sets s in'

all_followed : (P : SelectionSet → Type 0) (o : Option (Node Fragment)) (sets : List SelectionSet) →
    ((d : Node Fragment) → o ≡ Some d → P d.value.value.selection_set) → All P sets → All P (followed_by o sets)
all_followed P None sets here all = all
all_followed P (Some d) sets here all = All-cons P d.value.value.selection_set sets (here d refl) all

-- an inline fragment has its set among these; a spread has its name among these
abbrev HasSetIn : List SelectionSet → Selection → Type 0
HasSetIn sets s = (i : Node InlineFragment) → s ≡ kind.InlineFragment i → Contains sets i.value.value.selection_set

abbrev HasNameIn : List NameText → Selection → Type 0
HasNameIn visited s = (p : Node FragmentSpread) → s ≡ kind.FragmentSpread p → Visited visited p.value.value.fragment_name

module _ (fragments : Fragments) (respects : (a b : NameText) → SameName a b → fragments a ≡ fragments b) where
  -- the sets of the fragments among the selections of a set
  record Gathered (outer : SelectionSet) (seen visited : List NameText) (selections : List Selection) (sets : List SelectionSet) : Type 0 where
    grows : (name : NameText) → Visited seen name → Visited visited name
    included : All (Includes fragments outer) sets
    inlines : All (HasSetIn sets) selections
    spreads : All (HasNameIn visited) selections
    newly : (name : NameText) (d : Node Fragment) → Visited visited name → fragments name ≡ Some d → Visited seen name ⊎ Contains sets d.value.value.selection_set

  gathered : {seen visited : List NameText} {selections : List Selection} {sets : List SelectionSet} → FragmentSets fragments seen selections sets visited →
      (outer : SelectionSet) → All (Contains (selections_of outer)) selections → Gathered outer seen visited selections sets
  gathered (no_more {seen = seen}) outer stand = record {
    grows = λ name h. h;
    included = All-nil (Includes fragments outer);
    inlines = All-nil (HasSetIn []);
    spreads = All-nil (HasNameIn seen);
    newly = λ name d h found. inl h;
  }
  gathered (past_field {visited = visited} {sets = sets} f rest more) outer stand =
      let g = gathered more outer (All-tail (Contains (selections_of outer)) (kind.Field f) rest stand) in
      record {
        grows = g.grows;
        included = g.included;
        inlines = All-cons (HasSetIn sets) (kind.Field f) rest (λ i e. absurd (not_inline f i (sym e))) g.inlines;
        spreads = All-cons (HasNameIn visited) (kind.Field f) rest (λ p e. absurd (not_spread f p (sym e))) g.spreads;
        newly = g.newly;
      }
  gathered (into_inline_fragment {visited = visited} {sets = sets} i rest more) outer stand =
      let own = i.value.value.selection_set in
      let g = gathered more outer (All-tail (Contains (selections_of outer)) (kind.InlineFragment i) rest stand) in
      let here = All-head (Contains (selections_of outer)) (kind.InlineFragment i) rest stand in
      record {
        grows = g.grows;
        included = All-cons (Includes fragments outer) own sets (includes_inline_fragment here includes_itself) g.included;
        inlines = All-cons (HasSetIn (own ∷ sets)) (kind.InlineFragment i) rest
            (λ j e. subst (λ (k : Node InlineFragment). Contains (own ∷ sets) k.value.value.selection_set) (same_inline i j e) (stands_first own sets))
            (All-weaker (HasSetIn sets) (HasSetIn (own ∷ sets)) (λ s h j e. stands_behind own sets j.value.value.selection_set (h j e)) rest g.inlines);
        spreads = All-cons (HasNameIn visited) (kind.InlineFragment i) rest (λ p e. absurd (spread_not_inline i p (sym e))) g.spreads;
        newly = λ name d h found. elim (g.newly name d h found) [
          | inl before ↦ inl before
          | inr new ↦ inr (stands_behind own sets d.value.value.selection_set new)
        ];
      }
  gathered (past_spread {visited = visited} {sets = sets} p rest known more) outer stand =
      let g = gathered more outer (All-tail (Contains (selections_of outer)) (kind.FragmentSpread p) rest stand) in
      record {
        grows = g.grows;
        included = g.included;
        inlines = All-cons (HasSetIn sets) (kind.FragmentSpread p) rest (λ i e. absurd (spread_not_inline i p e)) g.inlines;
        spreads = All-cons (HasNameIn visited) (kind.FragmentSpread p) rest
            (λ q e. subst (λ (r : Node FragmentSpread). Visited visited r.value.value.fragment_name) (same_spread p q e) (g.grows p.value.value.fragment_name known)) g.spreads;
        newly = g.newly;
      }
  gathered (into_spread {seen = seen} {visited = visited} {sets = sets} p rest new more) outer stand =
      let named = p.value.value.fragment_name in
      let o = fragments named in
      let g = gathered more outer (All-tail (Contains (selections_of outer)) (kind.FragmentSpread p) rest stand) in
      let here = All-head (Contains (selections_of outer)) (kind.FragmentSpread p) rest stand in
      let itself : Visited (named ∷ seen) named = visited_itself named seen in
      record {
        grows = λ name h. g.grows name (visited_behind named seen name h);
        included = all_followed (Includes fragments outer) o sets (λ d found. includes_spread here found includes_itself) g.included;
        inlines = All-cons (HasSetIn (followed_by o sets)) (kind.FragmentSpread p) rest (λ i e. absurd (spread_not_inline i p e))
            (All-weaker (HasSetIn sets) (HasSetIn (followed_by o sets)) (λ s h j e. behind_followed o sets j.value.value.selection_set (h j e)) rest g.inlines);
        spreads = All-cons (HasNameIn visited) (kind.FragmentSpread p) rest
            (λ q e. subst (λ (r : Node FragmentSpread). Visited visited r.value.value.fragment_name) (same_spread p q e) (g.grows named itself)) g.spreads;
        newly = λ name d h found. elim (g.newly name d h found) [
          | inl before ↦ elim (either_true (same_name name named) (list_any (same_name name) seen) before) [
            | inl same ↦
                let is : fragments named ≡ Some d = sym (respects name named same) ∙ found in
                inr (rw is (stands_first d.value.value.selection_set sets))
            | inr known ↦ inl known
          ]
          | inr later ↦ inr (behind_followed o sets d.value.value.selection_set later)
        ];
      }

  -- the sets of which an expansion lists the fields: those of the queue, and what these include
  record Through (seen : List NameText) (queue : List SelectionSet) (fields : List FieldSelection) : Type 0 where
    sets : List SelectionSet
    queued : (s : SelectionSet) → Contains queue s → Contains sets s
    reachable : (s : SelectionSet) → Contains sets s → (start : SelectionSet) × Contains queue start × Includes fragments start s
    listed : (x : FieldSelection) → Contains fields x → (s : SelectionSet) × Contains sets s × Contains (fields_standing s) x
    standing : (s : SelectionSet) → Contains sets s → (x : FieldSelection) → Contains (fields_standing s) x → Contains fields x
    inlines : (s : SelectionSet) → Contains sets s → (i : Node InlineFragment) → Contains (selections_of s) (kind.InlineFragment i) →
        Contains sets i.value.value.selection_set
    spreads : (s : SelectionSet) → Contains sets s → (p : Node FragmentSpread) (d : Node Fragment) → Contains (selections_of s) (kind.FragmentSpread p) →
        fragments p.value.value.fragment_name ≡ Some d → Visited seen p.value.value.fragment_name ⊎ Contains sets d.value.value.selection_set

  through : {seen : List NameText} {queue : List SelectionSet} {fields : List FieldSelection} → ExpandsFrom fragments seen queue fields → Through seen queue fields
  through expanded = record {
    sets = [];
    queued = λ s in'. in';
    reachable = λ s in'. absurd (none_stands s in');
    listed = λ x in'. absurd (none_stands x in');
    standing = λ s in' x in''. absurd (none_stands s in');
    inlines = λ s in' i stands. absurd (none_stands s in');
    spreads = λ s in' p d stands found. absurd (none_stands s in');
  }
  through (expand_next {seen = seen} {visited = visited} {set = set} {queue = queue} {more = more} {fields = fields} found rest) =
      let g = gathered found set (All-contains_itself (selections_of set)) in
      let r = through rest in
      let new = λ (s : SelectionSet) (in' : Contains more s). stands_behind set r.sets s (r.queued s (Contains-append_right queue more s in')) in
      let known = λ (p : Node FragmentSpread) (d : Node Fragment) (is : fragments p.value.value.fragment_name ≡ Some d) (h : Visited visited p.value.value.fragment_name).
      or_new p.value.value.fragment_name (set ∷ r.sets) d (new d.value.value.selection_set) (g.newly p.value.value.fragment_name d h is) in
      record {
        sets = set ∷ r.sets;
        queued = λ s in'. elim (first_or_behind set queue s in') [
          | inl is ↦ subst (Contains (set ∷ r.sets)) (sym is) (stands_first set r.sets)
          | inr waits ↦ stands_behind set r.sets s (r.queued s (Contains-append_left queue more s waits))
        ];
        reachable = λ s in'. elim (first_or_behind set r.sets s in') [
          | inl is ↦ (set, stands_first set queue, subst (Includes fragments set) (sym is) includes_itself)
          | inr later ↦
              let way = r.reachable s later in
              elim (Contains-append_cases queue more way.0 way.1) [
                | inl waits ↦ (way.0, stands_behind set queue way.0 waits, way.2)
                | inr below ↦ (set, stands_first set queue, includes_then fragments (All-contains (Includes fragments set) more way.0 g.included below) way.2)
              ]
        ];
        listed = λ x in'. elim (Contains-append_cases (fields_standing set) fields x in') [
          | inl here ↦ (set, stands_first set r.sets, here)
          | inr later ↦ let l = r.listed x later in (l.0, stands_behind set r.sets l.0 l.1, l.2)
        ];
        standing = λ s in' x stands. elim (first_or_behind set r.sets s in') [
          | inl is ↦ Contains-append_left (fields_standing set) fields x (subst (λ t. Contains (fields_standing t) x) is stands)
          | inr later ↦ Contains-append_right (fields_standing set) fields x (r.standing s later x stands)
        ];
        inlines = λ s in' i stands. elim (first_or_behind set r.sets s in') [
          | inl is ↦ new i.value.value.selection_set
              (All-contains (HasSetIn more) (selections_of set) (kind.InlineFragment i) g.inlines (subst (λ t. Contains (selections_of t) (kind.InlineFragment i)) is stands) i refl)
          | inr later ↦ stands_behind set r.sets i.value.value.selection_set (r.inlines s later i stands)
        ];
        spreads = λ s in' p d stands is_found. elim (first_or_behind set r.sets s in') [
          | inl is ↦ known p d is_found
              (All-contains (HasNameIn visited) (selections_of set) (kind.FragmentSpread p) g.spreads (subst (λ t. Contains (selections_of t) (kind.FragmentSpread p)) is stands) p refl)
          | inr later ↦ elim (r.spreads s later p d stands is_found) [
            | inl h ↦ known p d is_found h
            | inr there ↦ inr (stands_behind set r.sets d.value.value.selection_set there)
          ]
        ];
      } where
        or_new : (name : NameText) (sets : List SelectionSet) (d : Node Fragment) → (Contains more d.value.value.selection_set → Contains sets d.value.value.selection_set) →
            Visited seen name ⊎ Contains more d.value.value.selection_set → Visited seen name ⊎ Contains sets d.value.value.selection_set
        or_new name sets d put (inl before) = inl before
        or_new name sets d put (inr there) = inr (put there)

  module _ (queue : List SelectionSet) (fields : List FieldSelection) (expands : Expansion fragments queue fields) where
    all : Through [] queue fields
    all = through expands

    -- what a set includes is gone through with it
    included_too : {outer inner : SelectionSet} → Includes fragments outer inner → Contains all.sets outer → Contains all.sets inner
    included_too includes_itself in' = in'
    included_too (includes_inline_fragment {set = outer} {i = i} stands more) in' = included_too more (all.inlines outer in' i stands)
    included_too (includes_spread {set = outer} {p = p} {d = d} stands found more) in' = elim (all.spreads outer in' p d stands found) [
      | inl before ↦ absurd (let no : ⊥ = cc in no)
      | inr there ↦ included_too more there
    ]

    pub lists_what_is_inside : (x : FieldSelection) → Contains fields x ↔ ((set : SelectionSet) × Contains queue set × FieldInExpandedSet fragments set x)
    lists_what_is_inside x = (
      λ in'.
          let from = all.listed x in' in
          let way = all.reachable from.0 from.1 in
          let stands = stands_as_field from.0 x from.2 in
          (way.0, way.1, record { inner = from.0; included = way.2; stands = stands.0; parent_is = stands.1 }),
      λ here. there here.0 here.1 here.2,
    ) where
      there : (set : SelectionSet) → Contains queue set → FieldInExpandedSet fragments set x → Contains fields x
      there set in' here = all.standing here.inner (included_too here.included (all.queued set in')) x (listed_standing here.inner x here.stands here.parent_is)

-- a set that includes one with a selection has a selection itself
selects : {fragments : Fragments} {outer inner : SelectionSet} → Includes fragments outer inner → (s : Selection) → Contains (selections_of inner) s →
    (t : Selection) × Contains (selections_of outer) t
selects includes_itself s in' = (s, in')
selects (includes_inline_fragment {i = i} stands more) s in' = (kind.InlineFragment i, stands)
selects (includes_spread {p = p} stands found more) s in' = (kind.FragmentSpread p, stands)

has_first : (selections : List Selection) (s : Selection) → Contains selections s → is_some (slice_get selections 0) ≡ true
has_first [] s in' = absurd (none_stands s in')
has_first (t ∷ rest) s in' = refl

-- what passes a filter was in the list
pub stood_before : {X : Type 0} (test : X → Bool) (xs : List X) (x : X) → Contains (filter test xs) x → Contains xs x
stood_before test xs x in' = All-contains (Contains xs) (filter test xs) x (All-filter test (Contains xs) xs (All-contains_itself xs)) in'

pub sets_of_group : (group : List FieldSelection) (set : SelectionSet) → Contains (nested_sets group) set → (u : FieldSelection) × Contains group u × (set_of u ≡ set)
sets_of_group group set in' = made_of set_of group set (stood_before (λ (s : SelectionSet). is_some (slice_get (selections_of s) 0)) (map set_of group) set in')

pub nested_of_group : (fragments : Fragments) (group : List FieldSelection) (u x : FieldSelection) → Contains group u → FieldInExpandedSet fragments (set_of u) x →
    Contains (nested_sets group) (set_of u)
nested_of_group fragments group u x in' here =
    let first = selects here.included (kind.Field x.field) here.stands in
    kept_by_filter (λ (s : SelectionSet). is_some (slice_get (selections_of s) 0)) (map set_of group) (set_of u) (stands_mapped set_of group u in')
    (has_first (selections_of (set_of u)) first.0 first.1)

pub below_lists_what_is_inside : (fragments : Fragments) → ((a b : NameText) → SameName a b → fragments a ≡ fragments b) →
    (group below : List FieldSelection) → Expansion fragments (nested_sets group) below → (x : FieldSelection) →
    Contains below x ↔ ((outer : FieldSelection) × Contains group outer × FieldInExpandedSet fragments (set_of outer) x)
below_lists_what_is_inside fragments respects group below expands x =
    let lists = lists_what_is_inside fragments respects (nested_sets group) below expands x in (
      λ in'.
          let from = lists.0 in' in
          let of = sets_of_group group from.0 from.1 in
          (of.0, of.1, subst (λ s. FieldInExpandedSet fragments s x) (sym of.2) from.2),
      λ here. lists.1 (set_of here.0, nested_of_group fragments group here.0 x here.1 here.2, here.2),
    )
