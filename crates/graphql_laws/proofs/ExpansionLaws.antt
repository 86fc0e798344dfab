-- The expansion of a set lists the fields inside it.
use Rattle.std.proofs.Common.{◌≡◌, Bool, true, false, ◌||◌, List, [], ◌∷◌, Option, Some, None, ◌⊎◌, inl, inr, refl, sym, ◌∙◌, ap, subst, All, Contains}
use Rattle.std.specs.Prelude.{IsTrue, IsFalse}
use Rattle.std.specs.List.{list_any}
use Rattle.std.proofs.lemmas.List.Elements.{All-nil, All-cons, All-contains, All-weaker, Contains-append_left, Contains-append_right, Contains-append_cases}
use Rattle.graphql_nodes.specs.Names.{NameText, SameName, same_name}
use Rattle.graphql_documents.specs.Selections.{Fragments, selections_of, Includes, includes_itself, includes_inline_fragment, includes_spread}
use Rattle.graphql_specification.specs.Merging.{FieldSelection, FieldInExpandedSet}
use Rattle.graphql_specification.specs.MergedSets.{as_field, fields_standing, followed_by, FragmentSets, no_more, past_field, into_inline_fragment, past_spread, into_spread, ExpandsFrom, expanded, expand_next, Expansion}
use Rattle.graphql_nodes.specs.declared.nodes.Node.{Node}
use Rattle.graphql_documents.specs.declared.documents.executables.Selection.{Selection, out-Selection, roll-Selection, roll-out-Selection}
use Rattle.graphql_documents.specs.declared.documents.executables.Selection.TheOpen as Open
use Rattle.graphql_documents.specs.declared.documents.executables.Selection.TheVariants as kind
use Rattle.graphql_documents.specs.declared.documents.executables.SelectionSet.{SelectionSet}
use Rattle.graphql_documents.specs.declared.documents.executables.Field.{Field}
use Rattle.graphql_documents.specs.declared.documents.executables.InlineFragment.{InlineFragment}
use Rattle.graphql_documents.specs.declared.documents.executables.FragmentSpread.{FragmentSpread}
use Rattle.graphql_documents.specs.declared.documents.executables.Fragment.{Fragment}
use Rattle.graphql_nodes.proofs.NameLemmas.{same_name_itself}
use Rattle.graphql_documents.proofs.ListLemmas.{none_stands, only_one, stands_first, stands_behind, made_by, kept_by_map}
use Rattle.graphql_documents.proofs.SelectionLemmas.{not_inline, not_spread, same_inline, same_spread, spread_not_inline}

-- a selection as it opens, as a field
abbrev Opened : Type 0
Opened = Open.Selection-F Selection Field InlineFragment SelectionSet

abbrev field_of : NameText → Opened → Option FieldSelection
field_of ty o = elim o [
  | Open.Field f ↦ Some (record { parent = ty; field = f })
  | Open.FragmentSpread p ↦ None
  | Open.InlineFragment i ↦ None
]

-- a selection that counts as a field is one
opened_field : (ty : NameText) (o : Opened) (x : FieldSelection) → field_of ty o ≡ Some x → (o ≡ Open.Field x.field) × (x.parent ≡ ty)
opened_field ty (Open.Field f) x e =
    let own : FieldSelection = record { parent = ty; field = f } in
    let same : own ≡ x = cc in
    (ap (λ (y : FieldSelection). Open.Field y.field) same, ap (λ (y : FieldSelection). y.parent) (sym same))
opened_field ty (Open.FragmentSpread p) x e = absurd (let no : ⊥ = cc in no)
opened_field ty (Open.InlineFragment i) x e = absurd (let no : ⊥ = cc in no)

is_field : (ty : NameText) (s : Selection) (x : FieldSelection) → as_field ty s ≡ Some x → (s ≡ kind.Field x.field) × (x.parent ≡ ty)
is_field ty s x e =
    let opens = opened_field ty (out-Selection s) x e in
    (sym (roll-out-Selection s) ∙ ap roll-Selection opens.0 ∙ kind.rolls-Field x.field, opens.1)

-- the fields that are in a set
standing_inside : (fragments : Fragments) (set : SelectionSet) (x : FieldSelection) → Contains (fields_standing set) x → FieldInExpandedSet fragments set x
standing_inside fragments set x listed =
    let made = made_by (as_field set.ty) (selections_of set) x listed in
    let is = is_field set.ty made.0 x made.2 in
    record { inner = set; included = includes_itself; stands = subst (Contains (selections_of set)) is.0 made.1; parent_is = is.1 }

listed_standing : (set : SelectionSet) (x : FieldSelection) → Contains (selections_of set) (kind.Field x.field) → x.parent ≡ set.ty → Contains (fields_standing set) x
listed_standing set x stands parent =
    kept_by_map (as_field set.ty) (selections_of set) (kind.Field x.field) x stands
    (let standing : NameText → Option FieldSelection = λ ty. Some (record { parent = ty; field = x.field }) in
    ap (field_of set.ty) (kind.outs-Field x.field) ∙ ap standing (sym parent))

-- the name was visited
abbrev Visited : List NameText → NameText → Type 0
Visited visited name = IsTrue (list_any (same_name name) visited)

module _ (fragments : Fragments) where
  -- the set is that of a fragment among the selections
  data OfFragment (selections : List Selection) : SelectionSet → Type 0 where
    of_inline : (i : Node InlineFragment) → Contains selections (kind.InlineFragment i) → OfFragment selections i.value.value.selection_set
    of_spread : (p : Node FragmentSpread) (d : Node Fragment) → Contains selections (kind.FragmentSpread p) →
        fragments p.value.value.fragment_name ≡ Some d → OfFragment selections d.value.value.selection_set

  of_more : {selections : List Selection} {set : SelectionSet} (s : Selection) → OfFragment selections set → OfFragment (s ∷ selections) set
  of_more {selections} s (of_inline i stands) = of_inline i (stands_behind s selections (kind.InlineFragment i) stands)
  of_more {selections} s (of_spread p d stands found) = of_spread p d (stands_behind s selections (kind.FragmentSpread p) stands) found

  all_of_fragments : {seen visited : List NameText} {selections : List Selection} {sets : List SelectionSet} →
      FragmentSets fragments seen selections sets visited → All (OfFragment selections) sets
  all_of_fragments no_more = All-nil (OfFragment [])
  all_of_fragments (past_field {sets = sets} f rest more) =
      All-weaker (OfFragment rest) (OfFragment (kind.Field f ∷ rest)) (λ set. of_more (kind.Field f)) sets (all_of_fragments more)
  all_of_fragments (into_inline_fragment {sets = sets} i rest more) =
      All-cons (OfFragment (kind.InlineFragment i ∷ rest)) i.value.value.selection_set sets (of_inline i (stands_first (kind.InlineFragment i) rest))
      (All-weaker (OfFragment rest) (OfFragment (kind.InlineFragment i ∷ rest)) (λ set. of_more (kind.InlineFragment i)) sets (all_of_fragments more))
  all_of_fragments (past_spread {sets = sets} p rest visited more) =
      All-weaker (OfFragment rest) (OfFragment (kind.FragmentSpread p ∷ rest)) (λ set. of_more (kind.FragmentSpread p)) sets (all_of_fragments more)
  all_of_fragments (into_spread {sets = sets} p rest new more) =
      followed p rest sets (fragments p.value.value.fragment_name) refl
      (All-weaker (OfFragment rest) (OfFragment (kind.FragmentSpread p ∷ rest)) (λ set. of_more (kind.FragmentSpread p)) sets (all_of_fragments more)) where
        followed : (p : Node FragmentSpread) (rest : List Selection) (sets : List SelectionSet) (o : Option (Node Fragment)) → fragments p.value.value.fragment_name ≡ o →
            All (OfFragment (kind.FragmentSpread p ∷ rest)) sets → All (OfFragment (kind.FragmentSpread p ∷ rest)) (followed_by o sets)
        followed p rest sets None e all = all
        followed p rest sets (Some d) e all =
            All-cons (OfFragment (kind.FragmentSpread p ∷ rest)) d.value.value.selection_set sets
            (of_spread p d (stands_first (kind.FragmentSpread p) rest) e) all

  -- what is inside the set of a fragment is inside the set around it
  from_fragment : {set inner : SelectionSet} (x : FieldSelection) → OfFragment (selections_of set) inner →
      FieldInExpandedSet fragments inner x → FieldInExpandedSet fragments set x
  from_fragment x (of_inline i stands) here =
      record { inner = here.inner; included = includes_inline_fragment stands here.included; stands = here.stands; parent_is = here.parent_is }
  from_fragment x (of_spread p d stands found) here =
      record { inner = here.inner; included = includes_spread stands found here.included; stands = here.stands; parent_is = here.parent_is }

  -- each field that is listed is inside one of the sets
  InOneExpandedSet : List SelectionSet → FieldSelection → Type 0
  InOneExpandedSet sets x = (set : SelectionSet) × Contains sets set × FieldInExpandedSet fragments set x

  inside_one : {seen : List NameText} {sets : List SelectionSet} {fields : List FieldSelection} → ExpandsFrom fragments seen sets fields →
      (x : FieldSelection) → Contains fields x → InOneExpandedSet sets x
  unfolding InOneExpandedSet
  inside_one expanded x listed = absurd (none_stands x listed)
  inside_one (expand_next {set = set} {queue = queue} {more = more} {fields = fields} found rest) x listed =
      elim (Contains-append_cases (fields_standing set) fields x listed) [
        | inl here ↦ (set, stands_first set queue, standing_inside fragments set x here)
        | inr later ↦
            let one = inside_one rest x later in
            elim (Contains-append_cases queue more one.0 one.1) [
              | inl waits ↦ (one.0, stands_behind set queue one.0 waits, one.2)
              | inr new ↦ (set, stands_first set queue, from_fragment x (All-contains (OfFragment (selections_of set)) more one.0 (all_of_fragments found) new) one.2)
            ]
      ]

  pub listed_is_inside : (set : SelectionSet) (fields : List FieldSelection) → Expansion fragments (set ∷ []) fields →
      (x : FieldSelection) → Contains fields x → FieldInExpandedSet fragments set x
  unfolding InOneExpandedSet
  listed_is_inside set fields expands x listed =
      let one = inside_one expands x listed in
      subst (λ s. FieldInExpandedSet fragments s x) (only_one set one.0 one.1) one.2

-- a name that was visited stays so, whatever is visited before it
visited_behind : (a b : Bool) → b ≡ true → (a || b) ≡ true
visited_behind true b e = refl
visited_behind false b e = e

behind_followed : (o : Option (Node Fragment)) (sets : List SelectionSet) (s : SelectionSet) → Contains sets s → Contains (followed_by o sets) s
behind_followed None sets s in' = in'
behind_followed (Some d) sets s in' = stands_behind d.value.value.selection_set sets s in'

-- a spread among the selections was visited, and an inline fragment's set is listed
abbrev IsVisited : List NameText → Selection → Type 0
IsVisited visited s = (p : Node FragmentSpread) → s ≡ kind.FragmentSpread p → Visited visited p.value.value.fragment_name

abbrev IsListedInline : List SelectionSet → Selection → Type 0
IsListedInline sets s = (i : Node InlineFragment) → s ≡ kind.InlineFragment i → Contains sets i.value.value.selection_set

module _ (fragments : Fragments) (respects : (a b : NameText) → SameName a b → fragments a ≡ fragments b) where
  still_visited : {seen visited : List NameText} {selections : List Selection} {sets : List SelectionSet} →
      FragmentSets fragments seen selections sets visited → (name : NameText) → Visited seen name → Visited visited name
  still_visited no_more name h = h
  still_visited (past_field f rest more) name h = still_visited more name h
  still_visited (into_inline_fragment i rest more) name h = still_visited more name h
  still_visited (past_spread p rest m more) name h = still_visited more name h
  still_visited (into_spread {seen = seen} p rest new more) name h =
      still_visited more name (visited_behind (same_name name p.value.value.fragment_name) (list_any (same_name name) seen) h)

  all_visited : {seen visited : List NameText} {selections : List Selection} {sets : List SelectionSet} →
      FragmentSets fragments seen selections sets visited → All (IsVisited visited) selections
  all_visited (no_more {seen = seen}) = All-nil (IsVisited seen)
  all_visited (past_field {visited = visited} f rest more) =
      All-cons (IsVisited visited) (kind.Field f) rest (λ p e. absurd (not_spread f p (sym e))) (all_visited more)
  all_visited (into_inline_fragment {visited = visited} i rest more) =
      All-cons (IsVisited visited) (kind.InlineFragment i) rest (λ p e. absurd (spread_not_inline i p (sym e))) (all_visited more)
  all_visited (past_spread {visited = visited} p rest m more) =
      All-cons (IsVisited visited) (kind.FragmentSpread p) rest
      (λ q e. subst (λ (r : Node FragmentSpread). Visited visited r.value.value.fragment_name) (same_spread p q e) (still_visited more p.value.value.fragment_name m))
      (all_visited more)
  all_visited (into_spread {seen = seen} {visited = visited} p rest new more) =
      let itself : Visited (p.value.value.fragment_name ∷ seen) p.value.value.fragment_name = rw (same_name_itself p.value.value.fragment_name) refl in
      All-cons (IsVisited visited) (kind.FragmentSpread p) rest
      (λ q e. subst (λ (r : Node FragmentSpread). Visited visited r.value.value.fragment_name) (same_spread p q e) (still_visited more p.value.value.fragment_name itself))
      (all_visited more)

  all_listed : {seen visited : List NameText} {selections : List Selection} {sets : List SelectionSet} →
      FragmentSets fragments seen selections sets visited → All (IsListedInline sets) selections
  all_listed no_more = All-nil (IsListedInline [])
  all_listed (past_field {sets = sets} f rest more) =
      All-cons (IsListedInline sets) (kind.Field f) rest (λ i e. absurd (not_inline f i (sym e))) (all_listed more)
  all_listed (into_inline_fragment {sets = sets} i rest more) =
      let own = i.value.value.selection_set in
      All-cons (IsListedInline (own ∷ sets)) (kind.InlineFragment i) rest
      (λ j e. subst (λ (k : Node InlineFragment). Contains (own ∷ sets) k.value.value.selection_set) (same_inline i j e) (stands_first own sets))
      (All-weaker (IsListedInline sets) (IsListedInline (own ∷ sets)) (λ s h j e. stands_behind own sets j.value.value.selection_set (h j e)) rest (all_listed more))
  all_listed (past_spread {sets = sets} p rest m more) =
      All-cons (IsListedInline sets) (kind.FragmentSpread p) rest (λ i e. absurd (spread_not_inline i p e)) (all_listed more)
  all_listed (into_spread {sets = sets} p rest new more) =
      let sets' = followed_by (fragments p.value.value.fragment_name) sets in
      All-cons (IsListedInline sets') (kind.FragmentSpread p) rest (λ i e. absurd (spread_not_inline i p e))
      (All-weaker (IsListedInline sets) (IsListedInline sets')
      (λ s h j e. behind_followed (fragments p.value.value.fragment_name) sets j.value.value.selection_set (h j e)) rest (all_listed more))

  -- a fragment whose name is newly visited has its set listed
  newly_at : (p : Node FragmentSpread) (sets : List SelectionSet) (name : NameText) (d : Node Fragment) → fragments name ≡ Some d →
      (b : Bool) → same_name name p.value.value.fragment_name ≡ b →
      (same_name name p.value.value.fragment_name ≡ false → Contains sets d.value.value.selection_set) →
      Contains (followed_by (fragments p.value.value.fragment_name) sets) d.value.value.selection_set
  newly_at p sets name d found true e later =
      let is : fragments p.value.value.fragment_name ≡ Some d = sym (respects name p.value.value.fragment_name e) ∙ found in
      rw is (stands_first d.value.value.selection_set sets)
  newly_at p sets name d found false e later = behind_followed (fragments p.value.value.fragment_name) sets d.value.value.selection_set (later e)

  newly : {seen visited : List NameText} {selections : List Selection} {sets : List SelectionSet} →
      FragmentSets fragments seen selections sets visited → (name : NameText) → Visited visited name → IsFalse (list_any (same_name name) seen) →
      (d : Node Fragment) → fragments name ≡ Some d → Contains sets d.value.value.selection_set
  newly no_more name m n d found = absurd (let no : ⊥ = cc in no)
  newly (past_field f rest more) name m n d found = newly more name m n d found
  newly (into_inline_fragment {sets = sets} i rest more) name m n d found =
      stands_behind i.value.value.selection_set sets d.value.value.selection_set (newly more name m n d found)
  newly (past_spread p rest was more) name m n d found = newly more name m n d found
  newly (into_spread {sets = sets} p rest new more) name m n d found =
      newly_at p sets name d found (same_name name p.value.value.fragment_name) refl (λ e. newly more name m (rw e n) d found)

  -- a set leads to another without the spreads of these names
  data Avoids (names : List NameText) : SelectionSet → SelectionSet → Type 0 where
    avoids_itself : {set : SelectionSet} → Avoids names set set
    avoids_inline : {set inner : SelectionSet} {i : Node InlineFragment} → Contains (selections_of set) (kind.InlineFragment i) →
        Avoids names i.value.value.selection_set inner → Avoids names set inner
    avoids_spread : {set inner : SelectionSet} {p : Node FragmentSpread} {d : Node Fragment} → Contains (selections_of set) (kind.FragmentSpread p) →
        fragments p.value.value.fragment_name ≡ Some d → IsFalse (list_any (same_name p.value.value.fragment_name) names) →
        Avoids names d.value.value.selection_set inner → Avoids names set inner

  avoids_none : {set inner : SelectionSet} → Includes fragments set inner → Avoids [] set inner
  avoids_none includes_itself = avoids_itself
  avoids_none (includes_inline_fragment stands more) = avoids_inline stands (avoids_none more)
  avoids_none (includes_spread stands found more) = avoids_spread stands found refl (avoids_none more)

  -- a way from a listed set, without the spreads of the names that are visited by then
  FromListed : List SelectionSet → List NameText → SelectionSet → Type 0
  FromListed more visited inner = (s : SelectionSet) × Contains more s × Avoids visited s inner

  at_spread : {seen visited : List NameText} {selections : List Selection} {more : List SelectionSet} {set inner : SelectionSet} (p : Node FragmentSpread) (d : Node Fragment) →
      FragmentSets fragments seen selections more visited → Contains (selections_of set) (kind.FragmentSpread p) →
      fragments p.value.value.fragment_name ≡ Some d → IsFalse (list_any (same_name p.value.value.fragment_name) seen) →
      Avoids visited d.value.value.selection_set inner →
      (b : Bool) → list_any (same_name p.value.value.fragment_name) visited ≡ b → Avoids visited set inner ⊎ FromListed more visited inner
  unfolding FromListed
  at_spread p d sets there found new rest true e = inr (d.value.value.selection_set, newly sets p.value.value.fragment_name e new d found, rest)
  at_spread p d sets there found new rest false e = inl (avoids_spread there found e rest)

  suffix : {seen visited : List NameText} {selections : List Selection} {more : List SelectionSet} → FragmentSets fragments seen selections more visited →
      {s inner : SelectionSet} → Avoids seen s inner → Avoids visited s inner ⊎ FromListed more visited inner
  suffix sets avoids_itself = inl avoids_itself
  suffix sets (avoids_inline there rest) = elim (suffix sets rest) [ inl r ↦ inl (avoids_inline there r) | inr later ↦ inr later ]
  suffix {visited = visited} sets (avoids_spread {p = p} {d = d} there found new rest) = elim (suffix sets rest) [
    | inl r ↦ at_spread p d sets there found new r (list_any (same_name p.value.value.fragment_name) visited) refl
    | inr later ↦ inr later
  ]

  first_step : {seen visited : List NameText} {more : List SelectionSet} {set inner : SelectionSet} → Avoids visited set inner →
      FragmentSets fragments seen (selections_of set) more visited → (inner ≡ set) ⊎ FromListed more visited inner
  unfolding FromListed
  first_step avoids_itself sets = inl refl
  first_step {more = more} (avoids_inline {set = set} {i = i} there rest) sets =
      inr (i.value.value.selection_set, All-contains (IsListedInline more) (selections_of set) (kind.InlineFragment i) (all_listed sets) there i refl, rest)
  first_step {visited = visited} (avoids_spread {set = set} {p = p} there found new rest) sets =
      let m : Visited visited p.value.value.fragment_name = All-contains (IsVisited visited) (selections_of set) (kind.FragmentSpread p) (all_visited sets) there p refl in
      absurd (let no : ⊥ = cc in no)

  listed : {seen : List NameText} {queue : List SelectionSet} {fields : List FieldSelection} → ExpandsFrom fragments seen queue fields →
      (s inner : SelectionSet) → Contains queue s → Avoids seen s inner →
      (x : FieldSelection) → Contains (selections_of inner) (kind.Field x.field) → x.parent ≡ inner.ty → Contains fields x
  unfolding FromListed
  listed expanded s inner in' way x stands parent = absurd (none_stands s in')
  listed (expand_next {visited = visited} {set = set} {queue = queue} {more = more} {fields = fields} found rest) s inner in' way x stands parent =
      let later = λ (new : FromListed more visited inner).
      Contains-append_right (fields_standing set) fields x (listed rest new.0 inner (Contains-append_right queue more new.0 new.1) new.2 x stands parent) in
      elim (suffix found way) [
        | inr new ↦ later new
        | inl on ↦ elim (Contains-append_cases (set ∷ []) queue s in') [
          | inr waits ↦ Contains-append_right (fields_standing set) fields x (listed rest s inner (Contains-append_left queue more s waits) on x stands parent)
          | inl here ↦ elim (first_step (subst (λ t. Avoids visited t inner) (only_one set s here) on) found) [
            | inr new ↦ later new
            | inl same ↦ Contains-append_left (fields_standing set) fields x
                (listed_standing set x (subst (λ (t : SelectionSet). Contains (selections_of t) (kind.Field x.field)) same stands) (parent ∙ ap (λ (t : SelectionSet). t.ty) same))
          ]
        ]
      ]

  pub inside_is_listed : (set : SelectionSet) (fields : List FieldSelection) → Expansion fragments (set ∷ []) fields →
      (x : FieldSelection) → FieldInExpandedSet fragments set x → Contains fields x
  inside_is_listed set fields expands x here =
      listed expands set here.inner (stands_first set []) (avoids_none here.included) x here.stands here.parent_is
