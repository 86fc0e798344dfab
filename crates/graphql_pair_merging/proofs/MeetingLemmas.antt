-- The fields of pairs that are reached meet; and where all pairs that are reached were looked at, all fields that meet agree.
use Rattle.std.proofs.Common.{◌≡◌, ℕ, List, [], Option, None, Some, map, refl, sym, ap, ◌∙◌, subst, Contains, true}
use Rattle.std.specs.Prelude.{◌≢◌, filter_map, slice_get}
use Rattle.std.specs.Option.{option_map}
use Rattle.std.proofs.lemmas.List.Elements.{All-contains}
use mathlib.Core.Logic.{inl, inr}
use Rattle.graphql_nodes.specs.Names.{NameText}
use Rattle.graphql_nodes.specs.declared.nodes.Node.{Node}
use Rattle.graphql_documents.proofs.ListLemmas.{kept_by_map, made_by, made_of, none_stands, stands_mapped}
use Rattle.graphql_documents.specs.Selections.{Fragments, Includes, includes_inline_fragment, includes_itself, includes_spread, selections_of}
use Rattle.graphql_documents.specs.declared.documents.executables.Field.{Field}
use Rattle.graphql_documents.specs.declared.documents.executables.Fragment.{Fragment}
use Rattle.graphql_documents.specs.declared.documents.executables.FragmentSpread.{FragmentSpread}
use Rattle.graphql_documents.specs.declared.documents.executables.InlineFragment.{InlineFragment}
use Rattle.graphql_documents.specs.declared.documents.executables.Selection.TheOpen as Open
use Rattle.graphql_documents.specs.declared.documents.executables.Selection.TheVariants as kind
use Rattle.graphql_documents.specs.declared.documents.executables.Selection.{Selection}
use Rattle.graphql_documents.specs.declared.documents.executables.SelectionSet.{SelectionSet}
use Rattle.graphql_documents.specs.declared.documents.schemas.Schema.{Schema}
use Rattle.graphql_specification.specs.MergedSets.{Agree, ArePutTogether, Meet, as_field, fields_standing, meet_below, meet_here}
use Rattle.graphql_specification.specs.Merging.{FieldInExpandedSet, FieldSelection, Pass, set_of}
use Rattle.graphql_laws.proofs.SizeLemmas.{Kind, is_field, is_inline, is_spread, kind_of}
use Rattle.graphql_pair_merging.specs.NumberedSets.{AreNumbered, Describes, field_of, fragment_set, sets_of}
use Rattle.graphql_pair_merging.specs.Pairs.{HasLooked, IsClosed, IsReached, IsStart, LeadsTo, SetPair, pair_of, reached_first, reached_next}
use Rattle.graphql_pair_merging.specs.declared.numbered_sets.NumberedField.{NumberedField}
use Rattle.graphql_pair_merging.specs.declared.numbered_sets.NumberedSet.{NumberedSet}
use Rattle.graphql_pair_merging.proofs.PlaceLemmas.{mapped_at, one_at, stands_at}

-- a selection as it opens
abbrev Opened : Type 0
Opened = Open.Selection-F Selection Field InlineFragment SelectionSet

abbrev pub opened_field : NameText → Opened → Option FieldSelection
opened_field ty o = elim o [
  | Open.Field f ↦ Some (record { parent = ty; field = f })
  | Open.FragmentSpread p ↦ None
  | Open.InlineFragment i ↦ None
]

abbrev pub opened_fragment : Fragments → Opened → Option SelectionSet
opened_fragment fragments o = elim o [
  | Open.Field f ↦ None
  | Open.FragmentSpread p ↦ option_map (λ d. d.value.value.selection_set) (fragments p.value.value.fragment_name)
  | Open.InlineFragment i ↦ Some i.value.value.selection_set
]

-- the fields that stand in a set
pub standing : (set : SelectionSet) (x : FieldSelection) → Contains (fields_standing set) x →
    Contains (selections_of set) (kind.Field x.field) × (x.parent ≡ set.ty)
standing set x listed =
    let made = made_by (as_field set.ty) (selections_of set) x listed in
    by_kind (kind_of made.0) made.1 made.2 where
      is_made : (f : Node Field) → Contains (selections_of set) (kind.Field f) → record { parent = set.ty; field = f } ≡ x →
          Contains (selections_of set) (kind.Field x.field) × (x.parent ≡ set.ty)
      is_made f stands same =
          (subst (λ (y : FieldSelection). Contains (selections_of set) (kind.Field y.field)) same stands, ap (λ (y : FieldSelection). y.parent) (sym same))

      by_kind : {s : Selection} → Kind s → Contains (selections_of set) s → as_field set.ty s ≡ Some x →
          Contains (selections_of set) (kind.Field x.field) × (x.parent ≡ set.ty)
      by_kind (is_field f) stands is =
          is_made f stands (one_at (opened_field set.ty (Open.Field f)) (record { parent = set.ty; field = f }) x refl (sym (ap (opened_field set.ty) (kind.outs-Field f)) ∙ is))
      by_kind (is_spread p) stands is = absurd (let no = sym (ap (opened_field set.ty) (kind.outs-FragmentSpread p)) ∙ is in let no : ⊥ = cc in no)
      by_kind (is_inline i) stands is = absurd (let no = sym (ap (opened_field set.ty) (kind.outs-InlineFragment i)) ∙ is in let no : ⊥ = cc in no)

pub listed_standing : (set : SelectionSet) (x : FieldSelection) → Contains (selections_of set) (kind.Field x.field) → x.parent ≡ set.ty → Contains (fields_standing set) x
listed_standing set x stands parent =
    kept_by_map (as_field set.ty) (selections_of set) (kind.Field x.field) x stands
    (let own : NameText → Option FieldSelection = λ ty. Some (record { parent = ty; field = x.field }) in
    ap (opened_field set.ty) (kind.outs-Field x.field) ∙ ap own (sym parent))

module _ (fragments : Fragments) where
  -- the sets of the fragments in a set
  abbrev pub fragment_sets : SelectionSet → List SelectionSet
  fragment_sets set = filter_map (fragment_set fragments) (selections_of set)

  inside_itself : (set : SelectionSet) (x : FieldSelection) → Contains (fields_standing set) x → FieldInExpandedSet fragments set x
  inside_itself set x listed =
      let is = standing set x listed in
      record { inner = set; included = includes_itself; stands = is.0; parent_is = is.1 }

  -- what is inside the set of a fragment is inside the set
  through_fragment : (set inner deep : SelectionSet) → Contains (fragment_sets set) inner → Includes fragments inner deep → Includes fragments set deep
  through_fragment set inner deep listed more =
      let made = made_by (fragment_set fragments) (selections_of set) inner listed in
      by_kind (kind_of made.0) made.1 made.2 where
        by_found : (p : Node FragmentSpread) (o : Option (Node Fragment)) → fragments p.value.value.fragment_name ≡ o → Contains (selections_of set) (kind.FragmentSpread p) →
            option_map (λ d. d.value.value.selection_set) o ≡ Some inner → Includes fragments set deep
        by_found p None found stands is = absurd (let no : ⊥ = cc in no)
        by_found p (Some d) found stands is =
            includes_spread {p = p} {d = d} stands found
            (subst (λ t. Includes fragments t deep) (sym (one_at (Some d.value.value.selection_set) d.value.value.selection_set inner refl is)) more)

        by_kind : {s : Selection} → Kind s → Contains (selections_of set) s → fragment_set fragments s ≡ Some inner → Includes fragments set deep
        by_kind (is_field f) stands is = absurd (let no = sym (ap (opened_fragment fragments) (kind.outs-Field f)) ∙ is in let no : ⊥ = cc in no)
        by_kind (is_spread p) stands is =
            by_found p (fragments p.value.value.fragment_name) refl stands (sym (ap (opened_fragment fragments) (kind.outs-FragmentSpread p)) ∙ is)
        by_kind (is_inline i) stands is =
            includes_inline_fragment {i = i} stands
            (subst (λ t. Includes fragments t deep)
            (sym (one_at (Some i.value.value.selection_set) i.value.value.selection_set inner refl (sym (ap (opened_fragment fragments) (kind.outs-InlineFragment i)) ∙ is))) more)

  inside_fragment : (set inner : SelectionSet) (x : FieldSelection) → Contains (fragment_sets set) inner → FieldInExpandedSet fragments inner x → FieldInExpandedSet fragments set x
  inside_fragment set inner x listed inside = record {
    inner = inside.inner;
    included = through_fragment set inner inside.inner listed inside.included;
    stands = inside.stands;
    parent_is = inside.parent_is;
  }

  inline_listed : (set : SelectionSet) (i : Node InlineFragment) → Contains (selections_of set) (kind.InlineFragment i) → Contains (fragment_sets set) i.value.value.selection_set
  inline_listed set i stands =
      kept_by_map (fragment_set fragments) (selections_of set) (kind.InlineFragment i) i.value.value.selection_set stands
      (ap (opened_fragment fragments) (kind.outs-InlineFragment i))

  spread_listed : (set : SelectionSet) (p : Node FragmentSpread) (d : Node Fragment) → Contains (selections_of set) (kind.FragmentSpread p) →
      fragments p.value.value.fragment_name ≡ Some d → Contains (fragment_sets set) d.value.value.selection_set
  spread_listed set p d stands found =
      kept_by_map (fragment_set fragments) (selections_of set) (kind.FragmentSpread p) d.value.value.selection_set stands
      (ap (opened_fragment fragments) (kind.outs-FragmentSpread p) ∙ ap (option_map (λ (d : Node Fragment). d.value.value.selection_set)) found)

  -- there is something in a set inside which there is a field
  not_empty : (set : SelectionSet) (s : Selection) → Contains (selections_of set) s → selections_of set ≢ []
  not_empty set s stands none = none_stands s (subst (λ l. Contains l s) none stands)

  includes_something : {set inner : SelectionSet} {s : Selection} → Includes fragments set inner → Contains (selections_of inner) s → selections_of set ≢ []
  includes_something {set = set} {s = s} includes_itself stands = not_empty set s stands
  includes_something {set = set} (includes_inline_fragment {i = i} there more) stands = not_empty set (kind.InlineFragment i) there
  includes_something {set = set} (includes_spread {p = p} there found more) stands = not_empty set (kind.FragmentSpread p) there

  selects : (set : SelectionSet) (x : FieldSelection) → FieldInExpandedSet fragments set x → selections_of set ≢ []
  selects set x inside = includes_something {s = kind.Field x.field} inside.included inside.stands

  module _ (schema : Schema) (pass : Pass) where
    -- what meets in the set of a fragment meets in the set
    meet_in_first : {s t : SelectionSet} (inner : SelectionSet) {x y : FieldSelection} → Contains (fragment_sets s) inner → Meet schema fragments pass inner t x y → Meet schema fragments pass s t x y
    meet_in_first {s = s} inner listed (meet_here {x = x} in_x in_y put) = meet_here (inside_fragment s inner x listed in_x) in_y put
    meet_in_first {s = s} inner listed (meet_below u v in_u in_v put below) = meet_below u v (inside_fragment s inner u listed in_u) in_v put below

    meet_in_second : {s t : SelectionSet} (inner : SelectionSet) {x y : FieldSelection} → Contains (fragment_sets t) inner → Meet schema fragments pass s inner x y → Meet schema fragments pass s t x y
    meet_in_second {t = t} inner listed (meet_here {y = y} in_x in_y put) = meet_here in_x (inside_fragment t inner y listed in_y) put
    meet_in_second {t = t} inner listed (meet_below u v in_u in_v put below) = meet_below u v in_u (inside_fragment t inner v listed in_v) put below

    meet_selects : {s t : SelectionSet} {x y : FieldSelection} → Meet schema fragments pass s t x y → (selections_of s ≢ []) × (selections_of t ≢ [])
    meet_selects {s = s} {t = t} (meet_here {x = x} {y = y} in_x in_y put) = (selects s x in_x, selects t y in_y)
    meet_selects {s = s} {t = t} (meet_below u v in_u in_v put below) = (selects s u in_u, selects t v in_v)

    module _ (starts : List ℕ) (roots : List SelectionSet) (numbered : List NumberedSet) (are : AreNumbered fragments starts roots numbered) where
      -- a numbered set at its number, and what is in it
      abbrev Own : NumberedSet → Type 0
      Own a = Describes fragments (sets_of numbered) a.set.now.ty (selections_of a.set.now) a

      own : (i : ℕ) (a : NumberedSet) → slice_get numbered i ≡ Some a → Own a
      own i a is = All-contains Own numbered a are.described (stands_at numbered i a is)

      set_at : (i : ℕ) (a : NumberedSet) (s : SelectionSet) → slice_get numbered i ≡ Some a → slice_get (sets_of numbered) i ≡ Some s → a.set.now ≡ s
      set_at i a s is at = one_at (slice_get (sets_of numbered) i) a.set.now s (mapped_at (λ (x : NumberedSet). x.set.now) numbered i a is) at

      field_stands : (a : NumberedSet) (f : NumberedField) → Own a → Contains a.fields.items f → Contains (fields_standing a.set.now) (field_of f)
      field_stands a f is listed = subst (λ l. Contains l (field_of f)) is.fields (stands_mapped field_of a.fields.items f listed)

      field_listed : (a : NumberedSet) (x : FieldSelection) → Own a → Contains (fields_standing a.set.now) x → (f : NumberedField) × Contains a.fields.items f × (field_of f ≡ x)
      field_listed a x is stands = made_of field_of a.fields.items x (subst (λ l. Contains l x) (sym is.fields) stands)

      own_set : (a : NumberedSet) (f : NumberedField) → Own a → Contains a.fields.items f → slice_get (sets_of numbered) f.set ≡ Some (set_of (field_of f))
      own_set a f is listed = All-contains (λ (f : NumberedField). slice_get (sets_of numbered) f.set ≡ Some (set_of (field_of f))) a.fields.items f is.own_sets listed

      fragment_stands : (a : NumberedSet) (n : ℕ) (s : SelectionSet) → Own a → Contains a.fragments.items n → slice_get (sets_of numbered) n ≡ Some s → Contains (fragment_sets a.set.now) s
      fragment_stands a n s is listed at =
          let found : Contains (map (λ t. Some t) (fragment_sets a.set.now)) (slice_get (sets_of numbered) n) =
          subst (λ l. Contains l (slice_get (sets_of numbered) n)) is.fragment_sets (stands_mapped (slice_get (sets_of numbered)) a.fragments.items n listed) in
          let made = made_of (λ (t : SelectionSet). Some t) (fragment_sets a.set.now) (slice_get (sets_of numbered) n) found in
          subst (Contains (fragment_sets a.set.now)) (one_at (slice_get (sets_of numbered) n) made.0 s (sym made.2) at) made.1

      fragment_listed : (a : NumberedSet) (s : SelectionSet) → Own a → Contains (fragment_sets a.set.now) s → (n : ℕ) × Contains a.fragments.items n × (slice_get (sets_of numbered) n ≡ Some s)
      fragment_listed a s is stands =
          made_of (slice_get (sets_of numbered)) a.fragments.items (Some s)
          (subst (λ l. Contains l (Some s)) (sym is.fragment_sets) (stands_mapped (λ (t : SelectionSet). Some t) (fragment_sets a.set.now) s stands))

      -- the two meet in one of the roots
      abbrev pub MeetInAny : FieldSelection → FieldSelection → Type 0
      MeetInAny x y = (set : SelectionSet) × Contains roots set × Meet schema fragments pass set set x y

      -- what meets in a pair that is reached meets in one of the roots
      abbrev Reaches : SetPair → Type 0
      Reaches p = (s t : SelectionSet) → slice_get (sets_of numbered) p.first ≡ Some s → slice_get (sets_of numbered) p.second ≡ Some t →
          (x y : FieldSelection) → Meet schema fragments pass s t x y → MeetInAny x y

      -- there is a root at each of their numbers, and each has a number
      started : (number : ℕ) → Contains starts number → (set : SelectionSet) × Contains roots set × (slice_get (sets_of numbered) number ≡ Some set)
      started number listed =
          let found : Contains (map (λ t. Some t) roots) (slice_get (sets_of numbered) number) =
          subst (λ l. Contains l (slice_get (sets_of numbered) number)) are.are_at (stands_mapped (slice_get (sets_of numbered)) starts number listed) in
          let made = made_of (λ (t : SelectionSet). Some t) roots (slice_get (sets_of numbered) number) found in
          (made.0, made.1, sym made.2)

      start_of : (set : SelectionSet) → Contains roots set → (number : ℕ) × Contains starts number × (slice_get (sets_of numbered) number ≡ Some set)
      start_of set among =
          made_of (slice_get (sets_of numbered)) starts (Some set)
          (subst (λ l. Contains l (Some set)) (sym are.are_at) (stands_mapped (λ (t : SelectionSet). Some t) roots set among))

      reaches_next : (p q : SetPair) (a b : NumberedSet) → slice_get numbered p.first ≡ Some a → slice_get numbered p.second ≡ Some b → LeadsTo schema pass a b p q →
          Reaches p → Reaches q
      reaches_next p q a b first second (inl (inl (n, listed, is))) reaches s t at_s at_t x y meet =
          let s_at = subst (λ (r : SetPair). slice_get (sets_of numbered) r.first ≡ Some s) is at_s in
          let t_at = subst (λ (r : SetPair). slice_get (sets_of numbered) r.second ≡ Some t) is at_t in
          reaches a.set.now t (mapped_at (λ (x : NumberedSet). x.set.now) numbered p.first a first) t_at x y
          (meet_in_first s (fragment_stands a n s (own p.first a first) listed s_at) meet)
      reaches_next p q a b first second (inl (inr (n, listed, is))) reaches s t at_s at_t x y meet =
          let s_at = subst (λ (r : SetPair). slice_get (sets_of numbered) r.first ≡ Some s) is at_s in
          let t_at = subst (λ (r : SetPair). slice_get (sets_of numbered) r.second ≡ Some t) is at_t in
          reaches s b.set.now s_at (mapped_at (λ (x : NumberedSet). x.set.now) numbered p.second b second) x y
          (meet_in_second t (fragment_stands b n t (own p.second b second) listed t_at) meet)
      reaches_next p q a b first second (inr (u, v, in_u, in_v, below)) reaches s t at_s at_t x y meet =
          let s_at = subst (λ (r : SetPair). slice_get (sets_of numbered) r.first ≡ Some s) below.is at_s in
          let t_at = subst (λ (r : SetPair). slice_get (sets_of numbered) r.second ≡ Some t) below.is at_t in
          let s_is = one_at (slice_get (sets_of numbered) u.set) s (set_of (field_of u)) s_at (own_set a u (own p.first a first) in_u) in
          let t_is = one_at (slice_get (sets_of numbered) v.set) t (set_of (field_of v)) t_at (own_set b v (own p.second b second) in_v) in
          reaches a.set.now b.set.now (mapped_at (λ (x : NumberedSet). x.set.now) numbered p.first a first) (mapped_at (λ (x : NumberedSet). x.set.now) numbered p.second b second) x y
          (meet_below (field_of u) (field_of v)
          (inside_itself a.set.now (field_of u) (field_stands a u (own p.first a first) in_u))
          (inside_itself b.set.now (field_of v) (field_stands b v (own p.second b second) in_v)) below.put
          (subst (λ r. Meet schema fragments pass (set_of (field_of u)) r x y) t_is (subst (λ r. Meet schema fragments pass r t x y) s_is meet)))

      reaches_first : (p : SetPair) → IsStart starts p → Reaches p
      reaches_first p (number, listed, is) s t at_s at_t x y meet =
          let start = started number listed in
          let s_at = subst (λ (r : SetPair). slice_get (sets_of numbered) r.first ≡ Some s) is at_s in
          let t_at = subst (λ (r : SetPair). slice_get (sets_of numbered) r.second ≡ Some t) is at_t in (
            start.0,
            start.1,
            subst (λ r. Meet schema fragments pass start.0 r x y) (one_at (slice_get (sets_of numbered) number) t start.0 t_at start.2)
                (subst (λ r. Meet schema fragments pass r t x y) (one_at (slice_get (sets_of numbered) number) s start.0 s_at start.2) meet),
          )

      reaches : {p : SetPair} → IsReached schema pass numbered starts p → Reaches p
      reaches (reached_first {p = p} is) = reaches_first p is
      reaches (reached_next {p = p} {q = q} a b before first second leads) = reaches_next p q a b first second leads (reaches before)

      -- two fields of such a pair that are put together meet in one of the roots
      pub reached_meet : (p : SetPair) (a b : NumberedSet) (x y : NumberedField) → IsReached schema pass numbered starts p →
          slice_get numbered p.first ≡ Some a → slice_get numbered p.second ≡ Some b → Contains a.fields.items x → Contains b.fields.items y →
          ArePutTogether schema pass (field_of x) (field_of y) → MeetInAny (field_of x) (field_of y)
      reached_meet p a b x y reached first second in_x in_y put =
          reaches reached a.set.now b.set.now (mapped_at (λ (x : NumberedSet). x.set.now) numbered p.first a first) (mapped_at (λ (x : NumberedSet). x.set.now) numbered p.second b second)
          (field_of x) (field_of y)
          (meet_here (inside_itself a.set.now (field_of x) (field_stands a x (own p.first a first) in_x))
          (inside_itself b.set.now (field_of y) (field_stands b y (own p.second b second) in_y)) put)

      module _ (looked : HasLooked schema pass numbered starts) where
        -- the pair of the two sets was looked at
        record Looked (s t : SelectionSet) : Type 0 where
          pair : SetPair
          known : looked.looked pair.first pair.second ≡ true
          first : slice_get (sets_of numbered) pair.first ≡ Some s
          second : slice_get (sets_of numbered) pair.second ≡ Some t

        closed : {s t : SelectionSet} (l : Looked s t) → IsClosed schema pass numbered looked.looked l.pair
        closed l = looked.closed l.pair l.known

        into_first : {s t inner : SelectionSet} → Contains (fragment_sets s) inner → Looked s t → Looked inner t
        into_first {s = s} {t = t} {inner = inner} listed l =
            let c = closed l in
            let is = set_at l.pair.first c.first s c.first_is l.first in
            let n = fragment_listed c.first inner (own l.pair.first c.first c.first_is) (subst (λ r. Contains (fragment_sets r) inner) (sym is) listed) in
            record { pair = pair_of n.0 l.pair.second; known = c.all (pair_of n.0 l.pair.second) (inl (inl (n.0, n.1, refl))); first = n.2; second = l.second }

        into_second : {s t inner : SelectionSet} → Contains (fragment_sets t) inner → Looked s t → Looked s inner
        into_second {s = s} {t = t} {inner = inner} listed l =
            let c = closed l in
            let is = set_at l.pair.second c.second t c.second_is l.second in
            let n = fragment_listed c.second inner (own l.pair.second c.second c.second_is) (subst (λ r. Contains (fragment_sets r) inner) (sym is) listed) in
            record { pair = pair_of l.pair.first n.0; known = c.all (pair_of l.pair.first n.0) (inl (inr (n.0, n.1, refl))); first = l.first; second = n.2 }

        into_included : {s t inner : SelectionSet} → Includes fragments s inner → Looked s t → Looked inner t
        into_included includes_itself l = l
        into_included {s = s} (includes_inline_fragment {i = i} there more) l = into_included more (into_first (inline_listed s i there) l)
        into_included {s = s} (includes_spread {p = p} {d = d} there found more) l = into_included more (into_first (spread_listed s p d there found) l)

        and_included : {s t inner : SelectionSet} → Includes fragments t inner → Looked s t → Looked s inner
        and_included includes_itself l = l
        and_included {t = t} (includes_inline_fragment {i = i} there more) l = and_included more (into_second (inline_listed t i there) l)
        and_included {t = t} (includes_spread {p = p} {d = d} there found more) l = and_included more (into_second (spread_listed t p d there found) l)

        -- two fields inside such sets agree, if they are put together, and the pair of their sets was looked at too
        record Settled (x y : FieldSelection) : Type 0 where
          agree : Agree schema pass x y
          below : selections_of (set_of x) ≢ [] → selections_of (set_of y) ≢ [] → Looked (set_of x) (set_of y)

        settled_standing : {s t : SelectionSet} (x y : FieldSelection) → Contains (fields_standing s) x → Contains (fields_standing t) y → ArePutTogether schema pass x y →
            Looked s t → Settled x y
        settled_standing {s = s} {t = t} x y stands_x stands_y put l =
            let c = closed l in
            let own_a = own l.pair.first c.first c.first_is in
            let own_b = own l.pair.second c.second c.second_is in
            let u = field_listed c.first x own_a (subst (λ r. Contains (fields_standing r) x) (sym (set_at l.pair.first c.first s c.first_is l.first)) stands_x) in
            let v = field_listed c.second y own_b (subst (λ r. Contains (fields_standing r) y) (sym (set_at l.pair.second c.second t c.second_is l.second)) stands_y) in
            subst (λ r. Settled x r) v.2 (subst (λ r. Settled r (field_of v.0)) u.2
            (fields_settled l u.0 v.0 u.1 v.1 (subst (λ r. ArePutTogether schema pass r (field_of v.0)) (sym u.2) (subst (λ r. ArePutTogether schema pass x r) (sym v.2) put)))) where
              fields_settled : {s t : SelectionSet} (l : Looked s t) (u v : NumberedField) → Contains (closed l).first.fields.items u → Contains (closed l).second.fields.items v →
                  ArePutTogether schema pass (field_of u) (field_of v) → Settled (field_of u) (field_of v)
              fields_settled l u v in_u in_v put =
                  let c = closed l in
                  record {
                    agree = c.agree u v in_u in_v put;
                    below = λ first second. record {
                      pair = pair_of u.set v.set;
                      known = c.all (pair_of u.set v.set) (inr (u, v, in_u, in_v, record { put = put; first_selects = first; second_selects = second; is = refl }));
                      first = own_set c.first u (own l.pair.first c.first c.first_is) in_u;
                      second = own_set c.second v (own l.pair.second c.second c.second_is) in_v;
                    };
                  }

        settled : {s t : SelectionSet} (x y : FieldSelection) → FieldInExpandedSet fragments s x → FieldInExpandedSet fragments t y → ArePutTogether schema pass x y →
            Looked s t → Settled x y
        settled x y in_x in_y put l =
            settled_standing x y (listed_standing in_x.inner x in_x.stands in_x.parent_is) (listed_standing in_y.inner y in_y.stands in_y.parent_is) put
            (and_included in_y.included (into_included in_x.included l))

        meeting_agree : {s t : SelectionSet} {x y : FieldSelection} → Meet schema fragments pass s t x y → Looked s t → Agree schema pass x y
        meeting_agree (meet_here {x = x} {y = y} in_x in_y put) l = (settled x y in_x in_y put l).agree
        meeting_agree (meet_below u v in_u in_v put below) l =
            let both = meet_selects below in
            meeting_agree below ((settled u v in_u in_v put l).below both.0 both.1)

        -- all fields that meet in one of the roots agree
        pub looked_agree : (set : SelectionSet) → Contains roots set → (x y : FieldSelection) → Meet schema fragments pass set set x y → Agree schema pass x y
        looked_agree set among x y meet =
            let start = start_of set among in
            meeting_agree meet (record { pair = pair_of start.0 start.0; known = looked.begun (pair_of start.0 start.0) (start.0, start.1, refl); first = start.2; second = start.2 })
