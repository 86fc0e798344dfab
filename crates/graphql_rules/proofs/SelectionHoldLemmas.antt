-- When all that is reached from selections holds: of one, of several, and of a fragment, also where a part was
-- checked with more fragments visited.
use Rattle.std.proofs.Common.{◌≡◌, ◌⊎◌, ◌↔◌, inl, inr, List, [], ◌∷◌, ◌++◌, Option, Some, None, IsTrue, IsFalse, refl, sym, ◌∙◌, subst, Contains}
use Rattle.std.proofs.lemmas.Option.{same_Some}
use Rattle.std.proofs.lemmas.List.Elements.{All-nil, All-cons, All-contains, Contains-append_cases, Contains-append_left, Contains-append_right, Contains-push}
use Rattle.graphql_specification.specs.Fields.{FieldHolds}
use Rattle.graphql_specification.specs.Selections.{ReachableSelectionsHold}
use Rattle.graphql_specification.specs.Fragments.{FragmentHolds, InlineFragmentHolds, SpreadHolds}
use Rattle.graphql_nodes.specs.Names.{NameText, SameName, stands_on}
use Rattle.graphql_documents.specs.Selections.{Fragments, Visits, HasVisited, ReachableOn, IsSubselectionParent, reachable_in_field, reachable_in_inline_fragment, reachable_in_spread, selections_of, standing_at, type_under, without}
use Rattle.graphql_documents.specs.declared.documents.definitions.VariableDefinition.{VariableDefinition}
use Rattle.graphql_nodes.specs.declared.nodes.Node.{Node}
use Rattle.graphql_documents.specs.declared.documents.schemas.Schema.{Schema}
use Rattle.graphql_documents.specs.declared.documents.executables.Field.{Field}
use Rattle.graphql_documents.specs.declared.documents.executables.Fragment.{Fragment}
use Rattle.graphql_documents.specs.declared.documents.executables.FragmentSpread.{FragmentSpread}
use Rattle.graphql_documents.specs.declared.documents.executables.InlineFragment.{InlineFragment}
use Rattle.graphql_documents.specs.declared.documents.executables.Selection.{Selection}
use Rattle.graphql_documents.specs.declared.documents.executables.Selection.TheVariants as kind
use Rattle.graphql_nodes.proofs.NameLemmas.{same_name_back}
use Rattle.graphql_variables.proofs.SelectionWalkLemmas.{stands_either}
use Rattle.graphql_documents.proofs.SelectionLemmas.{not_inline, not_spread, same_field, same_inline, same_spread, spread_not_inline}
use Rattle.graphql_rules.specs.SelectionSteps.{SpreadStands}
use Rattle.graphql_rules.proofs.VisitedLemmas.{newly_visited, stands_still, stood_not, without_fewer}
use Rattle.graphql_operations.proofs.MeasureLemmas.{stands_by_text}
use Rattle.graphql_rules.proofs.ReachableLemmas.{ThroughVisited, avoids_or_goes_through, by_truth, found_without, reachable_through, reachable_wider, stays_without, type_of_condition}

-- the one element of a list
pub only_one : {X : Type 0} (x y : X) → Contains (x ∷ []) y → y ≡ x
only_one x y in' = All-contains (λ z. z ≡ x) (x ∷ []) y (All-cons (λ z. z ≡ x) x [] refl (All-nil (λ z. z ≡ x))) in'

pub one_stands : {X : Type 0} (x : X) → Contains (x ∷ []) x
one_stands x = Contains-push [] x

-- what is reached from one selection is that, or is reached from what is below it
module _ {schema : Option Schema} {fragments : Fragments} where
  pub field_reaches : {parent here : Option NameText} {xs : List Selection} {s : Selection} (f : Node Field) →
      ReachableOn schema fragments parent xs s here → xs ≡ kind.Field f ∷ [] →
      ((s ≡ kind.Field f) × (here ≡ parent)) ⊎
      ((below : Option NameText) × IsSubselectionParent schema parent f.value.value.name below × ReachableOn schema fragments below (selections_of f.value.value.selection_set) s here)
  field_reaches f (standing_at {selections = xs} {s = s} in') is = inl (only_one (kind.Field f) s (subst (λ l. Contains l s) is in'), refl)
  field_reaches {parent = parent} {here = here} {xs = xs} {s = s} f (reachable_in_field {below = below} g in' under p) is =
      let same : g ≡ f = same_field f g (only_one (kind.Field f) (kind.Field g) (subst (λ l. Contains l (kind.Field g)) is in')) in
      inr (
        below,
        subst (λ x. IsSubselectionParent schema parent x.value.value.name below) same under,
        subst (λ x. ReachableOn schema fragments below (selections_of x.value.value.selection_set) s here) same p,
      )
  field_reaches {xs = xs} f (reachable_in_inline_fragment i in' p) is =
      absurd (not_inline f i (only_one (kind.Field f) (kind.InlineFragment i) (subst (λ l. Contains l (kind.InlineFragment i)) is in')))
  field_reaches {xs = xs} f (reachable_in_spread {p = p} d in' found rest) is =
      absurd (not_spread f p (only_one (kind.Field f) (kind.FragmentSpread p) (subst (λ l. Contains l (kind.FragmentSpread p)) is in')))

  pub inline_reaches : {parent here : Option NameText} {xs : List Selection} {s : Selection} (i : Node InlineFragment) →
      ReachableOn schema fragments parent xs s here → xs ≡ kind.InlineFragment i ∷ [] →
      ((s ≡ kind.InlineFragment i) × (here ≡ parent)) ⊎
      ReachableOn schema fragments (type_under schema parent i.value.value.type_condition) (selections_of i.value.value.selection_set) s here
  inline_reaches i (standing_at {selections = xs} {s = s} in') is = inl (only_one (kind.InlineFragment i) s (subst (λ l. Contains l s) is in'), refl)
  inline_reaches {xs = xs} i (reachable_in_field g in' under p) is =
      absurd (not_inline g i (sym (only_one (kind.InlineFragment i) (kind.Field g) (subst (λ l. Contains l (kind.Field g)) is in'))))
  inline_reaches {parent = parent} {here = here} {s = s} i (reachable_in_inline_fragment j in' p) is =
      let same : j ≡ i = same_inline j i (only_one (kind.InlineFragment i) (kind.InlineFragment j) (subst (λ l. Contains l (kind.InlineFragment j)) is in')) in
      inr (subst (λ x. ReachableOn schema fragments (type_under schema parent x.value.value.type_condition) (selections_of x.value.value.selection_set) s here) same p)
  inline_reaches i (reachable_in_spread {p = p} d in' found rest) is =
      absurd (spread_not_inline i p (only_one (kind.InlineFragment i) (kind.FragmentSpread p) (subst (λ l. Contains l (kind.FragmentSpread p)) is in')))

  pub spread_reaches : {parent here : Option NameText} {xs : List Selection} {s : Selection} (p : Node FragmentSpread) →
      ReachableOn schema fragments parent xs s here → xs ≡ kind.FragmentSpread p ∷ [] →
      ((s ≡ kind.FragmentSpread p) × (here ≡ parent)) ⊎
      ((d : Node Fragment) × (fragments p.value.value.fragment_name ≡ Some d) ×
      ReachableOn schema fragments (type_under schema None (Some d.value.value.selection_set.ty)) (selections_of d.value.value.selection_set) s here)
  spread_reaches p (standing_at {selections = xs} {s = s} in') is = inl (only_one (kind.FragmentSpread p) s (subst (λ l. Contains l s) is in'), refl)
  spread_reaches p (reachable_in_field g in' under rest) is =
      absurd (not_spread g p (sym (only_one (kind.FragmentSpread p) (kind.Field g) (subst (λ l. Contains l (kind.Field g)) is in'))))
  spread_reaches p (reachable_in_inline_fragment j in' rest) is =
      absurd (spread_not_inline j p (sym (only_one (kind.FragmentSpread p) (kind.InlineFragment j) (subst (λ l. Contains l (kind.InlineFragment j)) is in'))))
  spread_reaches {parent = parent} {here = here} {s = s} p (reachable_in_spread {p = q} d in' found rest) is =
      let same : q ≡ p = same_spread q p (only_one (kind.FragmentSpread p) (kind.FragmentSpread q) (subst (λ l. Contains l (kind.FragmentSpread q)) is in')) in
      inr (
        d,
        subst (λ x. fragments x.value.value.fragment_name ≡ Some d) same found,
        subst (λ t. ReachableOn schema fragments t (selections_of d.value.value.selection_set) s here) (type_of_condition schema parent None d.value.value.selection_set.ty) rest,
      )

-- nothing is reached from no selections
pub nothing_reachable_here : {schema : Option Schema} {fragments : Fragments} {parent here : Option NameText} {xs : List Selection} {s : Selection} → ReachableOn schema fragments parent xs s here → xs ≡ [] → ⊥
nothing_reachable_here (standing_at {s = s} in') is = All-contains (λ x. ⊥) [] s (All-nil (λ x. ⊥)) (subst (λ l. Contains l s) is in')
nothing_reachable_here (reachable_in_field f in' under p) is = All-contains (λ x. ⊥) [] (kind.Field f) (All-nil (λ x. ⊥)) (subst (λ l. Contains l (kind.Field f)) is in')
nothing_reachable_here (reachable_in_inline_fragment i in' p) is = All-contains (λ x. ⊥) [] (kind.InlineFragment i) (All-nil (λ x. ⊥)) (subst (λ l. Contains l (kind.InlineFragment i)) is in')
nothing_reachable_here (reachable_in_spread {p = p} d in' found rest) is = All-contains (λ x. ⊥) [] (kind.FragmentSpread p) (All-nil (λ x. ⊥)) (subst (λ l. Contains l (kind.FragmentSpread p)) is in')

-- a selection holds where it is, its fragment too unless that was visited
pub record HoldsAt (schema : Option Schema) (visited_fragments : List NameText) (fragments : Fragments) (variables : List (Node VariableDefinition)) (s : Selection) (here : Option NameText) : Type 0 where
  pub field : (f : Node Field) → s ≡ kind.Field f → FieldHolds schema variables here f.value.value
  pub inline_fragment : (i : Node InlineFragment) → s ≡ kind.InlineFragment i → InlineFragmentHolds schema variables here i.value.value
  pub spread : (p : Node FragmentSpread) → s ≡ kind.FragmentSpread p → SpreadHolds schema visited_fragments fragments variables here p.value.value

module _ (schema : Option Schema) (fragments : Fragments) (variables : List (Node VariableDefinition)) where
  -- each selection that is reached from these holds
  abbrev pub EachHolds : List NameText → Option NameText → List Selection → Type 0
  EachHolds visited_fragments parent xs =
      (s : Selection) (here : Option NameText) → ReachableOn schema (without visited_fragments fragments) parent xs s here → HoldsAt schema visited_fragments fragments variables s here

  abbrev pub AllHold : List NameText → Option NameText → List Selection → Type 0
  AllHold visited_fragments parent xs = ReachableSelectionsHold schema visited_fragments fragments variables parent xs

  pub each_holds : (visited_fragments : List NameText) (parent : Option NameText) (xs : List Selection) → AllHold visited_fragments parent xs → EachHolds visited_fragments parent xs
  each_holds visited_fragments parent xs h s here reachable_on = record {
    field = λ f is. h.fields f here (subst (λ x. ReachableOn schema (without visited_fragments fragments) parent xs x here) is reachable_on);
    inline_fragment = λ i is. h.inline_fragments i here (subst (λ x. ReachableOn schema (without visited_fragments fragments) parent xs x here) is reachable_on);
    spread = λ p is. h.spreads p here (subst (λ x. ReachableOn schema (without visited_fragments fragments) parent xs x here) is reachable_on);
  }

  pub all_hold : (visited_fragments : List NameText) (parent : Option NameText) (xs : List Selection) → EachHolds visited_fragments parent xs → AllHold visited_fragments parent xs
  all_hold visited_fragments parent xs h = record {
    fields = λ f here reachable_on. (h (kind.Field f) here reachable_on).field f refl;
    inline_fragments = λ i here reachable_on. (h (kind.InlineFragment i) here reachable_on).inline_fragment i refl;
    spreads = λ p here reachable_on. (h (kind.FragmentSpread p) here reachable_on).spread p refl;
  }

  holds_field : (visited_fragments : List NameText) (here : Option NameText) (f : Node Field) → FieldHolds schema variables here f.value.value →
      HoldsAt schema visited_fragments fragments variables (kind.Field f) here
  holds_field visited_fragments here f h = record {
    field = λ g is. subst (λ x. FieldHolds schema variables here x.value.value) (same_field g f is) h;
    inline_fragment = λ i is. absurd (not_inline f i (sym is));
    spread = λ p is. absurd (not_spread f p (sym is));
  }

  holds_inline : (visited_fragments : List NameText) (here : Option NameText) (i : Node InlineFragment) → InlineFragmentHolds schema variables here i.value.value →
      HoldsAt schema visited_fragments fragments variables (kind.InlineFragment i) here
  holds_inline visited_fragments here i h = record {
    field = λ g is. absurd (not_inline g i is);
    inline_fragment = λ j is. subst (λ x. InlineFragmentHolds schema variables here x.value.value) (same_inline i j is) h;
    spread = λ p is. absurd (spread_not_inline i p (sym is));
  }

  holds_spread : (visited_fragments : List NameText) (here : Option NameText) (p : Node FragmentSpread) → SpreadHolds schema visited_fragments fragments variables here p.value.value →
      HoldsAt schema visited_fragments fragments variables (kind.FragmentSpread p) here
  holds_spread visited_fragments here p h = record {
    field = λ g is. absurd (not_spread g p is);
    inline_fragment = λ i is. absurd (spread_not_inline i p is);
    spread = λ q is. subst (λ x. SpreadHolds schema visited_fragments fragments variables here x.value.value) (same_spread p q is) h;
  }

  -- so all of it holds
  pub nothing_reachable : (visited_fragments : List NameText) (parent : Option NameText) (xs : List Selection) → xs ≡ [] → AllHold visited_fragments parent xs
  nothing_reachable visited_fragments parent xs none = all_hold visited_fragments parent xs (λ s here reachable_on. absurd (nothing_reachable_here reachable_on none))

  -- a field holds with all that is below it
  pub field_decides : (visited_fragments : List NameText) (parent : Option NameText) (f : Node Field) →
      (FieldHolds schema variables parent f.value.value ×
      ((below : Option NameText) → IsSubselectionParent schema parent f.value.value.name below → AllHold visited_fragments below (selections_of f.value.value.selection_set))) ↔
      AllHold visited_fragments parent (kind.Field f ∷ [])
  field_decides visited_fragments parent f = (
    λ p. all_hold visited_fragments parent (kind.Field f ∷ []) (λ s here reachable_on. elim (field_reaches f reachable_on refl) [
      | inl itself ↦ subst (λ x. HoldsAt schema visited_fragments fragments variables x here) (sym itself.0)
          (subst (λ t. HoldsAt schema visited_fragments fragments variables (kind.Field f) t) (sym itself.1) (holds_field visited_fragments parent f p.0))
      | inr below ↦ each_holds visited_fragments below.0 (selections_of f.value.value.selection_set) (p.1 below.0 below.1) s here below.2
    ]),
    λ h. (
      (each_holds visited_fragments parent (kind.Field f ∷ []) h (kind.Field f) parent (standing_at (one_stands (kind.Field f)))).field f refl,
      λ below under. all_hold visited_fragments below (selections_of f.value.value.selection_set) (λ s here reachable_on.
          each_holds visited_fragments parent (kind.Field f ∷ []) h s here (reachable_in_field f (one_stands (kind.Field f)) under reachable_on)),
    ),
  )

  -- an inline fragment holds with the selections in it
  pub inline_decides : (visited_fragments : List NameText) (parent : Option NameText) (i : Node InlineFragment) →
      (InlineFragmentHolds schema variables parent i.value.value ×
      AllHold visited_fragments (type_under schema parent i.value.value.type_condition) (selections_of i.value.value.selection_set)) ↔
      AllHold visited_fragments parent (kind.InlineFragment i ∷ [])
  inline_decides visited_fragments parent i = (
    λ p. all_hold visited_fragments parent (kind.InlineFragment i ∷ []) (λ s here reachable_on. elim (inline_reaches i reachable_on refl) [
      | inl itself ↦ subst (λ x. HoldsAt schema visited_fragments fragments variables x here) (sym itself.0)
          (subst (λ t. HoldsAt schema visited_fragments fragments variables (kind.InlineFragment i) t) (sym itself.1) (holds_inline visited_fragments parent i p.0))
      | inr below ↦ each_holds visited_fragments _ (selections_of i.value.value.selection_set) p.1 s here below
    ]),
    λ h. (
      (each_holds visited_fragments parent (kind.InlineFragment i ∷ []) h (kind.InlineFragment i) parent (standing_at (one_stands (kind.InlineFragment i)))).inline_fragment i refl,
      all_hold visited_fragments _ (selections_of i.value.value.selection_set) (λ s here reachable_on.
          each_holds visited_fragments parent (kind.InlineFragment i ∷ []) h s here (reachable_in_inline_fragment i (one_stands (kind.InlineFragment i)) reachable_on)),
    ),
  )

-- from one list behind another it is reached from the one or the other
pub reachable_parts : {schema : Option Schema} {fragments : Fragments} {parent here : Option NameText} {zs : List Selection} {s : Selection} (xs ys : List Selection) →
    ReachableOn schema fragments parent zs s here → zs ≡ xs ++ ys → ReachableOn schema fragments parent xs s here ⊎ ReachableOn schema fragments parent ys s here
reachable_parts xs ys (standing_at {s = s} in') is =
    elim (Contains-append_cases xs ys s (subst (λ l. Contains l s) is in')) [ inl first ↦ inl (standing_at first) | inr second ↦ inr (standing_at second) ]
reachable_parts xs ys (reachable_in_field f in' under p) is =
    elim (Contains-append_cases xs ys (kind.Field f) (subst (λ l. Contains l (kind.Field f)) is in')) [
      | inl first ↦ inl (reachable_in_field f first under p)
      | inr second ↦ inr (reachable_in_field f second under p)
    ]
reachable_parts xs ys (reachable_in_inline_fragment i in' p) is =
    elim (Contains-append_cases xs ys (kind.InlineFragment i) (subst (λ l. Contains l (kind.InlineFragment i)) is in')) [
      | inl first ↦ inl (reachable_in_inline_fragment i first p)
      | inr second ↦ inr (reachable_in_inline_fragment i second p)
    ]
reachable_parts xs ys (reachable_in_spread {p = p} d in' found rest) is =
    elim (Contains-append_cases xs ys (kind.FragmentSpread p) (subst (λ l. Contains l (kind.FragmentSpread p)) is in')) [
      | inl first ↦ inl (reachable_in_spread d first found rest)
      | inr second ↦ inr (reachable_in_spread d second found rest)
    ]

-- where names of one text find one fragment
module _ (schema : Option Schema) (fragments : Fragments) (variables : List (Node VariableDefinition))
    (one : (a b : NameText) → SameName a b → fragments a ≡ fragments b) where
  -- with more fragments visited, less is asked
  more_visited : (old mid more : List NameText) → mid ≡ old ++ more → (s : Selection) (here : Option NameText) →
      HoldsAt schema old fragments variables s here → HoldsAt schema mid fragments variables s here
  more_visited old mid more grown s here h = record {
    field = h.field;
    inline_fragment = h.inline_fragment;
    spread = λ p is. let spread = h.spread p is in record {
      directives = spread.directives;
      definition = spread.definition;
      defined = spread.defined;
      possible = spread.possible;
      holds = λ none. spread.holds (stood_not old mid more grown p.value.value.fragment_name none);
    };
  }

  -- the fragments that were visited meanwhile hold by themselves
  abbrev pub VisitedHold : List NameText → List NameText → Type 0
  VisitedHold old mid = (name : NameText) (d : Node Fragment) → IsTrue (stands_on mid name) → IsFalse (stands_on old name) → fragments name ≡ Some d →
      FragmentHolds schema fragments variables d

  fewer_visited : (old mid : List NameText) → VisitedHold old mid → (s : Selection) (here : Option NameText) →
      HoldsAt schema mid fragments variables s here → HoldsAt schema old fragments variables s here
  fewer_visited old mid visited_fragments s here h = record {
    field = h.field;
    inline_fragment = h.inline_fragment;
    spread = λ p is. let spread = h.spread p is in record {
      directives = spread.directives;
      definition = spread.definition;
      defined = spread.defined;
      possible = spread.possible;
      holds = λ fresh. elim (by_truth (stands_on mid p.value.value.fragment_name)) [
        | inl there ↦ visited_fragments p.value.value.fragment_name spread.definition there fresh spread.defined
        | inr none ↦ spread.holds none
      ];
    };
  }

  module _ (parent : Option NameText) (xs : List Selection) (old mid : List NameText) (goes : Visits schema fragments parent xs old mid) where
    -- the fragment of a name that was visited meanwhile is reached
    reachable_meanwhile : (name : NameText) (d : Node Fragment) → IsTrue (stands_on mid name) → IsFalse (stands_on old name) → fragments name ≡ Some d →
        (p : Node FragmentSpread) × (here : Option NameText) × ReachableOn schema (without old fragments) parent xs (kind.FragmentSpread p) here ×
        (without old fragments p.value.value.fragment_name ≡ Some d) × IsFalse (stands_on old p.value.value.fragment_name)
    reachable_meanwhile name d there fresh found =
        let spread = newly_visited fragments goes name there fresh in
        let own = spread.p.value.value.fragment_name in
        let fresh_too : IsFalse (stands_on old own) = stands_by_text old own name spread.named ∙ fresh in
        (spread.p, spread.here, spread.reachable_on, stays_without old fragments own d fresh_too (one own name spread.named ∙ found), fresh_too)

    -- so it holds by itself where all that is reached does
    visited_hold : EachHolds schema fragments variables old parent xs → VisitedHold old mid
    visited_hold each name d there fresh found =
        let r = reachable_meanwhile name d there fresh found in
        let spread = (each (kind.FragmentSpread r.0) r.1 r.2).spread r.0 refl in
        let own = r.0.value.value.fragment_name in
        subst (FragmentHolds schema fragments variables)
        (same_Some spread.definition d (sym spread.defined ∙ (found_without old fragments own d r.3).1))
        (spread.holds r.4)

    -- and what is reached through it holds
    through_holds : EachHolds schema fragments variables old parent xs → (s : Selection) (here : Option NameText) →
        ThroughVisited schema fragments old mid s here → HoldsAt schema old fragments variables s here
    through_holds each s here t =
        let r = reachable_meanwhile t.name t.d t.visited_fragments t.fresh t.found in
        each s here (reachable_through t.d r.2 refl r.3 (without_fewer fragments old mid goes.further goes.grown t.reachable_on))

    -- all that is reached from both lists holds where that from the first does, and from the second what is
    -- reached without the fragments that the first has reached
    pub all_then : (ys : List Selection) →
        (AllHold schema fragments variables old parent xs × AllHold schema fragments variables mid parent ys) ↔ AllHold schema fragments variables old parent (xs ++ ys)
    all_then ys = (
      λ p.
          let first = each_holds schema fragments variables old parent xs p.0 in
          let second = each_holds schema fragments variables mid parent ys p.1 in
          all_hold schema fragments variables old parent (xs ++ ys) (λ s here reachable_on. elim (reachable_parts xs ys reachable_on refl) [
            | inl in_first ↦ first s here in_first
            | inr in_second ↦ elim (avoids_or_goes_through old mid in_second) [
              | inl avoids ↦ fewer_visited old mid (visited_hold first) s here (second s here avoids)
              | inr through ↦ through_holds first s here through
            ]
          ]),
      λ h.
          let each = each_holds schema fragments variables old parent (xs ++ ys) h in (
            all_hold schema fragments variables old parent xs (λ s here reachable_on. each s here (reachable_wider (λ x in'. Contains-append_left xs ys x in') reachable_on)),
            all_hold schema fragments variables mid parent ys (λ s here reachable_on.
                more_visited old mid goes.further goes.grown s here
                (each s here (reachable_wider (λ x in'. Contains-append_right xs ys x in') (without_fewer fragments old mid goes.further goes.grown reachable_on)))),
          ),
    )

    -- where each part has visited all fragments that it reaches, both have
    pub gone_then : (ys : List Selection) (new : List NameText) → Visits schema fragments parent ys mid new →
        HasVisited schema fragments parent xs old mid → HasVisited schema fragments parent ys mid new → HasVisited schema fragments parent (xs ++ ys) old new
    gone_then ys new further first second name spread =
        elim (reachable_parts xs ys spread.reachable_on refl) [
          | inl in_first ↦ stands_still mid new further.further further.grown name
              (first name (record { p = spread.p; here = spread.here; reachable_on = in_first; named = spread.named }))
          | inr in_second ↦ elim (avoids_or_goes_through old mid in_second) [
            | inl avoids ↦ second name (record { p = spread.p; here = spread.here; reachable_on = avoids; named = spread.named })
            | inr t ↦
                let r = reachable_meanwhile t.name t.d t.visited_fragments t.fresh t.found in
                stands_still mid new further.further further.grown name (first name (record {
                  p = spread.p;
                  here = spread.here;
                  reachable_on = reachable_through t.d r.2 refl r.3 (without_fewer fragments old mid goes.further goes.grown t.reachable_on);
                  named = spread.named;
                }))
          ]
        ]

  -- a spread holds with its fragment, or where that was visited before by itself
  module _ (visited_fragments : List NameText) (parent : Option NameText) (p : Node FragmentSpread) where
    spread_at : AllHold schema fragments variables visited_fragments parent (kind.FragmentSpread p ∷ []) → SpreadHolds schema visited_fragments fragments variables parent p.value.value
    spread_at h = (each_holds schema fragments variables visited_fragments parent (kind.FragmentSpread p ∷ []) h (kind.FragmentSpread p) parent (standing_at (one_stands (kind.FragmentSpread p)))).spread p refl

    stands_there : SpreadHolds schema visited_fragments fragments variables parent p.value.value → SpreadStands schema fragments variables parent p.value.value
    stands_there h = record { directives = h.directives; definition = h.definition; defined = h.defined; possible = h.possible }

    pub spread_stands : AllHold schema fragments variables visited_fragments parent (kind.FragmentSpread p ∷ []) → SpreadStands schema fragments variables parent p.value.value
    spread_stands h = stands_there (spread_at h)

    at_itself : SpreadHolds schema visited_fragments fragments variables parent p.value.value → (s : Selection) (here : Option NameText) →
        s ≡ kind.FragmentSpread p → here ≡ parent → HoldsAt schema visited_fragments fragments variables s here
    at_itself h s here is at =
        subst (λ x. HoldsAt schema visited_fragments fragments variables x here) (sym is)
        (subst (λ t. HoldsAt schema visited_fragments fragments variables (kind.FragmentSpread p) t) (sym at) (holds_spread schema fragments variables visited_fragments parent p h))

    pub spread_before : IsTrue (stands_on visited_fragments p.value.value.fragment_name) →
        SpreadStands schema fragments variables parent p.value.value ↔ AllHold schema fragments variables visited_fragments parent (kind.FragmentSpread p ∷ [])
    spread_before there = (
      λ h. all_hold schema fragments variables visited_fragments parent (kind.FragmentSpread p ∷ []) (λ s here reachable_on. elim (spread_reaches p reachable_on refl) [
        | inl itself ↦ at_itself (record {
          directives = h.directives;
          definition = h.definition;
          defined = h.defined;
          possible = h.possible;
          holds = λ fresh. absurd (let no : ⊥ = cc in no);
        }) s here itself.0 itself.1
        | inr r ↦ let fresh = (found_without visited_fragments fragments p.value.value.fragment_name r.0 r.1).0 in absurd (let no : ⊥ = cc in no)
      ]),
      spread_stands,
    )

    -- what was visited last has this name, and finds this fragment
    module _ (d : Node Fragment) (found : fragments p.value.value.fragment_name ≡ Some d) (fresh : IsFalse (stands_on visited_fragments p.value.value.fragment_name))
        (mid : List NameText) (grown : mid ≡ visited_fragments ++ p.value.value.fragment_name ∷ []) where
      pub it_was_visited : (name : NameText) → IsTrue (stands_on mid name) → IsFalse (stands_on visited_fragments name) → SameName p.value.value.fragment_name name
      it_was_visited name there before =
          elim (stands_either visited_fragments p.value.value.fragment_name name (subst (λ l. IsTrue (stands_on l name)) grown there)) [
            | inl earlier ↦ absurd (let no : ⊥ = cc in no)
            | inr same ↦ same_name_back name p.value.value.fragment_name same
          ]

      pub it_is_found : (name : NameText) (other : Node Fragment) → IsTrue (stands_on mid name) → IsFalse (stands_on visited_fragments name) → fragments name ≡ Some other → d ≡ other
      it_is_found name other there before is =
          same_Some d other (sym found ∙ one p.value.value.fragment_name name (it_was_visited name there before) ∙ is)

      abbrev pub TypeOf : Option NameText
      TypeOf = type_under schema None (Some d.value.value.selection_set.ty)

      pub spread_fresh :
          (SpreadStands schema fragments variables parent p.value.value ×
          (FragmentHolds schema fragments variables d × AllHold schema fragments variables mid TypeOf (selections_of d.value.value.selection_set))) ↔
          AllHold schema fragments variables visited_fragments parent (kind.FragmentSpread p ∷ [])
      spread_fresh = (there, back) where
        there : SpreadStands schema fragments variables parent p.value.value ×
            (FragmentHolds schema fragments variables d × AllHold schema fragments variables mid TypeOf (selections_of d.value.value.selection_set)) →
            AllHold schema fragments variables visited_fragments parent (kind.FragmentSpread p ∷ [])
        there h =
            let hold : VisitedHold visited_fragments mid = λ name other stands before is. subst (FragmentHolds schema fragments variables) (it_is_found name other stands before is) h.1.0 in
            let each = each_holds schema fragments variables mid TypeOf (selections_of d.value.value.selection_set) h.1.1 in
            all_hold schema fragments variables visited_fragments parent (kind.FragmentSpread p ∷ []) (λ s here reachable_on. elim (spread_reaches p reachable_on refl) [
              | inl itself ↦ at_itself (record {
                directives = h.0.directives;
                definition = h.0.definition;
                defined = h.0.defined;
                possible = h.0.possible;
                holds = λ _. subst (FragmentHolds schema fragments variables) (same_Some d h.0.definition (sym found ∙ h.0.defined)) h.1.0;
              }) s here itself.0 itself.1
              | inr r ↦
                  let same : r.0 ≡ d = same_Some r.0 d (sym (found_without visited_fragments fragments p.value.value.fragment_name r.0 r.1).1 ∙ found) in
                  let from_d : ReachableOn schema (without visited_fragments fragments) TypeOf (selections_of d.value.value.selection_set) s here =
                  subst (λ x. ReachableOn schema (without visited_fragments fragments) (type_under schema None (Some x.value.value.selection_set.ty)) (selections_of x.value.value.selection_set) s here) same r.2 in
                  elim (avoids_or_goes_through visited_fragments mid from_d) [
                    | inl avoids ↦ fewer_visited visited_fragments mid hold s here (each s here avoids)
                    | inr t ↦ fewer_visited visited_fragments mid hold s here (each s here
                        (subst (λ x. ReachableOn schema (without mid fragments) (type_under schema None (Some x.value.value.selection_set.ty)) (selections_of x.value.value.selection_set) s here)
                        (sym (it_is_found t.name t.d t.visited_fragments t.fresh t.found)) t.reachable_on))
                  ]
            ])

        back : AllHold schema fragments variables visited_fragments parent (kind.FragmentSpread p ∷ []) →
            SpreadStands schema fragments variables parent p.value.value ×
            (FragmentHolds schema fragments variables d × AllHold schema fragments variables mid TypeOf (selections_of d.value.value.selection_set))
        back h =
            let spread = spread_at h in
            let each = each_holds schema fragments variables visited_fragments parent (kind.FragmentSpread p ∷ []) h in (
              stands_there spread,
              (
                subst (FragmentHolds schema fragments variables) (same_Some spread.definition d (sym spread.defined ∙ found)) (spread.holds fresh),
                all_hold schema fragments variables mid TypeOf (selections_of d.value.value.selection_set) (λ s here reachable_on.
                    more_visited visited_fragments mid (p.value.value.fragment_name ∷ []) grown s here
                    (each s here (reachable_in_spread d (one_stands (kind.FragmentSpread p)) (stays_without visited_fragments fragments p.value.value.fragment_name d fresh found)
                    (subst (λ t. ReachableOn schema (without visited_fragments fragments) t (selections_of d.value.value.selection_set) s here)
                    (type_of_condition schema None parent d.value.value.selection_set.ty)
                    (without_fewer fragments visited_fragments mid (p.value.value.fragment_name ∷ []) grown reachable_on))))),
              ),
            )
