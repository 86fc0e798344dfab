-- What a whole walk has listed: the selections to which its steps lead, which are those inside a set, or
-- reached from it, or visited there whatever the conditions.
use Rattle.std.proofs.Common.{◌≡◌, ◌↔◌, Bool, true, false, not, List, [], Some, IsTrue, IsFalse, refl, sym, ◌∙◌, subst, Contains, arith}
use Rattle.std.proofs.lemmas.List.Elements.{All-contains}
use Rattle.graphql_specification.specs.Defer.{Open, open_here, open_in_field, open_in_inline_fragment, open_in_spread}
use Rattle.graphql_documents.specs.Selections.{can_be_excluded, Fragments, fragments_of, selections_of, Includes, includes_itself, includes_inline_fragment, includes_spread, InExpandedSet, Reachable, reachable_inside, reachable_below}
use Rattle.graphql_nodes.specs.Names.{NameText, SameName, stands_on}
use Rattle.graphql_documents.proofs.ListLemmas.{each_standing, none_stands}
use Rattle.graphql_documents.specs.Walks.{HasListed, PassesDepth, Walk, full_walk, open_walk, root_walk}
use Rattle.graphql_documents.specs.declared.documents.executables.Field.{Field}
use Rattle.graphql_documents.specs.declared.documents.executables.Fragment.{Fragment}
use Rattle.graphql_documents.specs.declared.documents.executables.FragmentSpread.{FragmentSpread}
use Rattle.graphql_documents.specs.declared.documents.executables.InlineFragment.{InlineFragment}
use Rattle.graphql_documents.specs.declared.documents.executables.Selection.TheVariants as kind
use Rattle.graphql_documents.specs.declared.documents.executables.Selection.{Selection}
use Rattle.graphql_documents.specs.declared.documents.executables.SelectionSet.{SelectionSet}
use Rattle.graphql_nodes.specs.declared.nodes.Node.{Node}
use Rattle.graphql_nodes.proofs.NameLemmas.{same_name_itself}
use Rattle.graphql_variables.proofs.SearchLemmas.{all_seen, leads_then, only_found}
use Rattle.graphql_variables.specs.Searches.{Leads, leads_to_itself, leads_by}
use Rattle.graphql_variables.specs.WalkSteps.{Stop, at_selection, at_name, IsInSet, IsName, Step, into_field, into_inline_fragment, to_name, into_fragment, BeginsIn, VisitedFrom, StepOf, walk_of, visited_fragment_names, listed_of, IsVisited, PassesFrom, HasWalked}
use Rattle.graphql_variables.specs.declared.walks.Visited.{Visited}
use Rattle.graphql_variables.specs.declared.walks.SelectionWalk.{SelectionWalk}

-- the same list in other words
pub listed_words : {P Q : Selection → Type 0} {Passes : Type 0} {listed : List Selection} {complete : Bool} →
    ((s : Selection) → P s ↔ Q s) → HasListed P Passes listed complete → HasListed Q Passes listed complete
listed_words {P = P} {Q = Q} {listed = listed} same h = record {
  each = each_standing Q listed (λ s in'. (same s).0 (All-contains P listed s h.each in'));
  all = λ done s visited. h.all done s ((same s).1 visited);
  bound = h.bound;
}

-- what a walk from nothing has listed
pub walk_has_listed : {walk : SelectionWalk} (set : SelectionSet) {Passes : Type 0} {old new : Visited} {complete : Bool} →
    visited_fragment_names old ≡ [] → listed_of old ≡ [] → HasWalked walk (BeginsIn walk set) Passes old new complete →
    HasListed (VisitedFrom (fragments_of walk.document.now) (walk_of walk.extent) set) Passes (listed_of new) complete
walk_has_listed {walk = walk} set {old = old} {new = new} names listed w = record {
  each = each_standing (VisitedFrom (fragments_of walk.document.now) (walk_of walk.extent) set) (listed_of new) (λ s in'. from_start s in');
  all = λ done s visited. all_seen nothing (w.searched done) (at_selection visited.0) (at_selection s) visited.1 visited.2;
  bound = w.bound;
} where
  nothing : (x : Stop) → ¬ IsVisited old x
  nothing (at_selection s) h = none_stands s (subst (λ l. Contains l s) listed h)
  nothing (at_name name) h = let none : false ≡ true = subst (λ l. IsTrue (stands_on l name)) names h in let no : ⊥ = cc in no

  start_is : (s : Selection) (start : Stop) → BeginsIn walk set start → Leads (StepOf walk) start (at_selection s) →
      VisitedFrom (fragments_of walk.document.now) (walk_of walk.extent) set s
  start_is s (at_selection first) stands way = (first, stands, way)
  start_is s (at_name name) stands way = absurd stands

  from_start : (s : Selection) → Contains (listed_of new) s → VisitedFrom (fragments_of walk.document.now) (walk_of walk.extent) set s
  from_start s in' =
      let found = only_found nothing w.finds (at_selection s) in' in
      start_is s found.0 found.1 found.2

-- a descent that passes the limit of a walk from nothing
pub passes_bound : {walk : SelectionWalk} {visited : Visited} {set : SelectionSet} → PassesFrom walk visited 500 0 set →
    PassesDepth (fragments_of walk.document.now) (walk_of walk.extent) set
passes_bound p = record {
  depth = p.steps;
  visited_fragments = p.names;
  descent = p.descent;
  once = p.once;
  passes = omega (arith, p.passes);
}

module _ (fragments : Fragments) where
  -- what is below an inline fragment, a spread or a field of a set
  inside_inline_fragment : (set : SelectionSet) (i : Node InlineFragment) (s : Selection) → Contains (selections_of set) (kind.InlineFragment i) →
      InExpandedSet fragments i.value.value.selection_set s → InExpandedSet fragments set s
  inside_inline_fragment set i s stands inside = (inside.0, includes_inline_fragment stands inside.1, inside.2)

  inside_spread : (set : SelectionSet) (p : Node FragmentSpread) (d : Node Fragment) (s : Selection) → Contains (selections_of set) (kind.FragmentSpread p) →
      fragments p.value.value.fragment_name ≡ Some d → InExpandedSet fragments d.value.value.selection_set s → InExpandedSet fragments set s
  inside_spread set p d s stands found inside = (inside.0, includes_spread stands found inside.1, inside.2)

  reachable_inline_fragment : (set : SelectionSet) (i : Node InlineFragment) (s : Selection) → Contains (selections_of set) (kind.InlineFragment i) →
      Reachable fragments i.value.value.selection_set s → Reachable fragments set s
  reachable_inline_fragment set i s stands (reachable_inside inside) = reachable_inside (inside_inline_fragment set i s stands inside)
  reachable_inline_fragment set i s stands (reachable_below {f = f} inside more) = reachable_below (inside_inline_fragment set i (kind.Field f) stands inside) more

  reachable_spread : (set : SelectionSet) (p : Node FragmentSpread) (d : Node Fragment) (s : Selection) → Contains (selections_of set) (kind.FragmentSpread p) →
      fragments p.value.value.fragment_name ≡ Some d → Reachable fragments d.value.value.selection_set s → Reachable fragments set s
  reachable_spread set p d s stands found (reachable_inside inside) = reachable_inside (inside_spread set p d s stands found inside)
  reachable_spread set p d s stands found (reachable_below {f = f} inside more) = reachable_below (inside_spread set p d (kind.Field f) stands found inside) more

  -- what is visited in a set by some rule is visited from each stop of a walk that leads there
  VisitedBy : Walk → (SelectionSet → Selection → Type 0) → Stop → Selection → Type 0
  VisitedBy walk Visited (at_selection first) s = (set : SelectionSet) → IsInSet walk set (at_selection first) → Visited set s
  VisitedBy walk Visited (at_name name) s = (d : Node Fragment) × (fragments name ≡ Some d) × Visited d.value.value.selection_set s

  visited_in : (walk : Walk) (Visited : SelectionSet → Selection → Type 0) (set : SelectionSet) (x : Stop) (s : Selection) → IsInSet walk set x → VisitedBy walk Visited x s → Visited set s
  unfolding VisitedBy
  visited_in walk Visited set (at_selection first) s stands h = h set stands
  visited_in walk Visited set (at_name name) s stands h = absurd stands

  visited_by_name : (walk : Walk) (Visited : SelectionSet → Selection → Type 0) → ((a b : NameText) → SameName a b → fragments a ≡ fragments b) →
      (name : NameText) (x : Stop) (s : Selection) → IsName name x → VisitedBy walk Visited x s →
      (d : Node Fragment) × (fragments name ≡ Some d) × Visited d.value.value.selection_set s
  unfolding VisitedBy
  visited_by_name walk Visited one name (at_selection first) s named h = absurd named
  visited_by_name walk Visited one name (at_name other) s named h = (h.0, one name other named ∙ h.1, h.2)

  -- a rule that goes by the steps of a walk: it meets what is in a set, and what is visited in the set of a field, of an inline fragment or of a
  -- spread fragment in it
  record Follows (walk : Walk) (Visited : SelectionSet → Selection → Type 0) : Type 0 where
    here : (set : SelectionSet) (s : Selection) → IsInSet walk set (at_selection s) → Visited set s
    field : (set : SelectionSet) (f : Node Field) (s : Selection) → IsTrue walk.into_fields → IsInSet walk set (at_selection (kind.Field f)) →
        Visited f.value.value.selection_set s → Visited set s
    inline_fragment : (set : SelectionSet) (i : Node InlineFragment) (s : Selection) → IsInSet walk set (at_selection (kind.InlineFragment i)) →
        Visited i.value.value.selection_set s → Visited set s
    spread : (set : SelectionSet) (p : Node FragmentSpread) (d : Node Fragment) (s : Selection) → IsInSet walk set (at_selection (kind.FragmentSpread p)) →
        fragments p.value.value.fragment_name ≡ Some d → Visited d.value.value.selection_set s → Visited set s

  module _ (walk : Walk) (Visited : SelectionSet → Selection → Type 0) (rule : Follows walk Visited) (one : (a b : NameText) → SameName a b → fragments a ≡ fragments b) where
    visited_step : {a b : Stop} → Step fragments walk a b → (s : Selection) → VisitedBy walk Visited b s → VisitedBy walk Visited a s
    unfolding VisitedBy
    visited_step (into_field f {x = x} into stands) s h = λ set there.
        rule.field set f s into there (visited_in walk Visited f.value.value.selection_set x s stands h)
    visited_step (into_inline_fragment i {x = x} stands) s h = λ set there.
        rule.inline_fragment set i s there (visited_in walk Visited i.value.value.selection_set x s stands h)
    visited_step (to_name p {x = x} named) s h = λ set there.
        let below = visited_by_name walk Visited one p.value.value.fragment_name x s named h in
        rule.spread set p below.0 s there below.1 below.2
    visited_step (into_fragment {d = d} {x = x} found stands) s h = (d, found, visited_in walk Visited d.value.value.selection_set x s stands h)

    visited_led : {a b : Stop} → Leads (Step fragments walk) a b → (s : Selection) → b ≡ at_selection s → VisitedBy walk Visited a s
    unfolding VisitedBy
    visited_led leads_to_itself s e = subst (λ x. VisitedBy walk Visited x s) (sym e) (λ set stands. rule.here set s stands)
    visited_led (leads_by step more) s e = visited_step step s (visited_led more s e)

    -- the steps lead to no more than it meets
    visited_by_rule : (set : SelectionSet) (s : Selection) → VisitedFrom fragments walk set s → Visited set s
    unfolding VisitedBy
    visited_by_rule set s visited = visited_led visited.2 s refl set visited.1

  inside_follows : Follows root_walk (InExpandedSet fragments)
  inside_follows = record {
    here = λ set s stands. (set, includes_itself, stands.0);
    field = λ set f s into. absurd (let no : ⊥ = cc in no);
    inline_fragment = λ set i s there. inside_inline_fragment set i s there.0;
    spread = λ set p d s there. inside_spread set p d s there.0;
  }

  reachable_follows : Follows full_walk (Reachable fragments)
  reachable_follows = record {
    here = λ set s stands. reachable_inside (set, includes_itself, stands.0);
    field = λ set f s into there. reachable_below (set, includes_itself, there.0);
    inline_fragment = λ set i s there. reachable_inline_fragment set i s there.0;
    spread = λ set p d s there. reachable_spread set p d s there.0;
  }

  -- one that cannot be excluded is gone through
  cannot : (b : Bool) → IsTrue (not b) → IsFalse b
  cannot true h = sym h
  cannot false h = refl

  goes : (b : Bool) → IsFalse b → IsTrue (not b)
  goes true h = sym h
  goes false h = refl

  open_follows : Follows open_walk (Open fragments)
  open_follows = record {
    here = λ set s stands. open_here stands.0 (cannot (can_be_excluded s) stands.1);
    field = λ set f s into there. open_in_field there.0 (cannot (can_be_excluded (kind.Field f)) there.1);
    inline_fragment = λ set i s there. open_in_inline_fragment there.0 (cannot (can_be_excluded (kind.InlineFragment i)) there.1);
    spread = λ set p d s there. open_in_spread there.0 (cannot (can_be_excluded (kind.FragmentSpread p)) there.1);
  }

  -- and the other way round: what is visited below a set in another is visited in that
  module _ (walk : Walk) (s : Selection) (set : SelectionSet) where
    led_field : (f : Node Field) → IsTrue walk.into_fields → IsInSet walk set (at_selection (kind.Field f)) →
        VisitedFrom fragments walk f.value.value.selection_set s → VisitedFrom fragments walk set s
    led_field f into there below = (kind.Field f, there, leads_by (into_field f {x = at_selection below.0} into below.1) below.2)

    led_inline_fragment : (i : Node InlineFragment) → IsInSet walk set (at_selection (kind.InlineFragment i)) →
        VisitedFrom fragments walk i.value.value.selection_set s → VisitedFrom fragments walk set s
    led_inline_fragment i there below = (kind.InlineFragment i, there, leads_by (into_inline_fragment i {x = at_selection below.0} below.1) below.2)

    led_spread : (p : Node FragmentSpread) (d : Node Fragment) → IsInSet walk set (at_selection (kind.FragmentSpread p)) →
        fragments p.value.value.fragment_name ≡ Some d → VisitedFrom fragments walk d.value.value.selection_set s → VisitedFrom fragments walk set s
    led_spread p d there found below =
        let name : NameText = p.value.value.fragment_name in (
          kind.FragmentSpread p,
          there,
          leads_by (to_name p {x = at_name name} (same_name_itself name)) (leads_by (into_fragment {d = d} {x = at_selection below.0} found below.1) below.2),
        )

  led_inside : (walk : Walk) → ((s : Selection) → IsTrue (walk.goes_through s)) → {set inner : SelectionSet} (s : Selection) → Includes fragments set inner →
      Contains (selections_of inner) s → VisitedFrom fragments walk set s
  led_inside walk through s includes_itself stands = (s, (stands, through s), leads_to_itself)
  led_inside walk through {set = set} s (includes_inline_fragment {i = i} there more) stands =
      led_inline_fragment walk s set i (there, through (kind.InlineFragment i)) (led_inside walk through s more stands)
  led_inside walk through {set = set} s (includes_spread {p = p} {d = d} there found more) stands =
      led_spread walk s set p d (there, through (kind.FragmentSpread p)) found (led_inside walk through s more stands)

  led_reachable : {set : SelectionSet} {s : Selection} → Reachable fragments set s → VisitedFrom fragments full_walk set s
  led_reachable {s = s} (reachable_inside inside) = led_inside full_walk (λ t. refl) s inside.1 inside.2
  led_reachable (reachable_below {f = f} inside more) =
      let to_field = led_inside full_walk (λ t. refl) (kind.Field f) inside.1 inside.2 in
      let below = led_reachable more in
      (to_field.0, to_field.1, leads_then to_field.2 (leads_by (into_field f {x = at_selection below.0} refl below.1) below.2))

  led_open : {set : SelectionSet} {s : Selection} → Open fragments set s → VisitedFrom fragments open_walk set s
  led_open {s = s} (open_here stands stays) = (s, (stands, goes (can_be_excluded s) stays), leads_to_itself)
  led_open {set = set} {s = s} (open_in_field {f = f} there stays more) =
      led_field open_walk s set f refl (there, goes (can_be_excluded (kind.Field f)) stays) (led_open more)
  led_open {set = set} {s = s} (open_in_inline_fragment {i = i} there stays more) =
      led_inline_fragment open_walk s set i (there, goes (can_be_excluded (kind.InlineFragment i)) stays) (led_open more)
  led_open {set = set} {s = s} (open_in_spread {p = p} {d = d} there stays found more) =
      led_spread open_walk s set p d (there, goes (can_be_excluded (kind.FragmentSpread p)) stays) found (led_open more)

  -- the steps of each walk lead to what it is to meet
  module _ (one : (a b : NameText) → SameName a b → fragments a ≡ fragments b) (set : SelectionSet) (s : Selection) where
    pub visited_inside : VisitedFrom fragments root_walk set s ↔ InExpandedSet fragments set s
    visited_inside = (visited_by_rule root_walk (InExpandedSet fragments) inside_follows one set s, λ inside. led_inside root_walk (λ t. refl) s inside.1 inside.2)

    pub visited_reachable : VisitedFrom fragments full_walk set s ↔ Reachable fragments set s
    visited_reachable = (visited_by_rule full_walk (Reachable fragments) reachable_follows one set s, led_reachable)

    pub visited_open : VisitedFrom fragments open_walk set s ↔ Open fragments set s
    visited_open = (visited_by_rule open_walk (Open fragments) open_follows one set s, led_open)
