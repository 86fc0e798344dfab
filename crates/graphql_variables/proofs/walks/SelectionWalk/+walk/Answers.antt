-- Each exit of the walk over selections.
use Rattle.std.proofs.lemmas.Result.{IfOk-weaker}
use Rattle.graphql_variables.proofs.SelectionWalkLemmas.{walked_field, stood_there, was_visited, PassesBelow, walked_inline_fragment, walked_to_limit, walked_fragment, walked_visited, walked_undefined, walked_part, searched_next, searched_past, walked_whole, VisitedFragment, Listed}
use Rattle.std.proofs.Common.{rules, ◌≡◌, subst, IsTrue, Some, None, refl, sym, ap, ◌∙◌, ◌+◌, map, ℕ, Bool, true, false, [], IsFalse}
use Rattle.graphql_guards.specs.Guards.{depth_limit, depth_of}
use Rattle.graphql_nodes.specs.Names.{stands_on}
use Rattle.std.proofs.lemmas.List.{map-append}
use Rattle.graphql_variables.specs.declared.walks.Visited.{Visited}
use Rattle.graphql_documents.specs.declared.documents.executables.Selection.TheVariants as kind
use Rattle.graphql_documents.specs.Selections.{fragments_of, selections_of}
use Rattle.graphql_variables.proofs.WalkOrderLemmas.{ordered_visited, ordered_field, ordered_fragment, ordered_inline_fragment, ordered_next, ordered_none, ordered_undefined, ordered_whole}
use Rattle.graphql_variables.specs.WalkSteps.{HasWalked, ListsInOrder, OrderBelow, StepOf, WalksOver, at_selection, visited_fragment_names, walk_of}
use Rattle.graphql_documents.specs.declared.documents.executables.Selection.{Selection}
use Rattle.graphql_variables.specs.declared.walks.Extent.TheVariants as extent
use Rattle.graphql_variables.specs.declared.walks.Extent.{Extent}
use Rattle.graphql_variables.proofs.walks.SelectionWalk.+walk.Goals as goal

-- a walk over what is inside a set goes through each selection
goes_on : (e : Extent) (s : Selection) → IsFalse ((walk_of e).goes_through s) → e ≡ extent.InExpandedSet → ⊥
goes_on e s past is = let no : true ≡ false = subst (λ x. IsFalse ((walk_of x).goes_through s)) is past in let none : ⊥ = cc in none

pub walk_below-returns-in-Field-clause-walks : goal.walk_below-returns-in-Field-clause-walks
walk_below-returns-in-Field-clause-walks t c =
    IfOk-weaker _ _ _ (λ complete w. walked_field c.in-Field.field c.in-Field.is (sym c.goes_into_fields.ensures ∙ c.if-goes_into_fields.true)
    (subst (λ f. WalksOver c.args.self.now c.args.depth.now (depth_of c.args.depth.now + 1) f.selection_set c.args.visited.now c.walk_deeper.new.visited complete) c.deref.ensures w))
    c.walk_deeper.ensures.walks

pub walk_below-returns-in-InlineFragment-clause-walks :
    goal.walk_below-returns-in-InlineFragment-clause-walks
walk_below-returns-in-InlineFragment-clause-walks t c =
    IfOk-weaker _ _ _ (λ complete w. walked_inline_fragment c.in-InlineFragment.fragment c.in-InlineFragment.is
    (subst (λ f. WalksOver c.args.self.now c.args.depth.now (depth_of c.args.depth.now + 1) f.selection_set c.args.visited.now c.walk_deeper-in-InlineFragment.new.visited complete) c.deref-in-InlineFragment.ensures w))
    c.walk_deeper-in-InlineFragment.ensures.walks

pub walk_deeper-returns-in-Err-clause-walks : goal.walk_deeper-returns-in-Err-clause-walks
walk_deeper-returns-in-Err-clause-walks t c =
    walked_to_limit c.args.set.now (depth_limit c.args.depth.now) (depth_of c.args.depth.now) c.args.visited.now c.in-Err.ensures.bound

pub walk_fragment-returns-then-not-branch-clause-walks :
    goal.walk_fragment-returns-then-not-branch-clause-walks
walk_fragment-returns-then-not-branch-clause-walks t c =
    let there = stood_there c.deref.result.now.fragment_name c.args.visited.now c.enter.new.self c.in_ok-enter.field-0
    c.in_ok-enter.ensures.is_new c.in_ok-enter.ensures.names c.if-not-branch.true in
    walked_visited c.args.spread.now c.args.visited.now c.enter.new.self there.1 c.in_ok-enter.ensures.selections
    (subst (λ p. IsTrue (stands_on (visited_fragment_names c.args.visited.now) p.fragment_name)) c.deref.ensures there.0)

pub walk_fragment-returns-in-Some-clause-walks : goal.walk_fragment-returns-in-Some-clause-walks
walk_fragment-returns-in-Some-clause-walks t c =
    let visited_fragments = was_visited c.deref.result.now.fragment_name c.args.visited.now c.enter.new.self c.in_ok-enter.field-0
    c.in_ok-enter.ensures.is_new c.in_ok-enter.ensures.names c.in_ok-enter.ensures.selections c.if-not-branch.false in
    IfOk-weaker _ _ _ (λ complete w. walked_fragment c.args.spread.now c.in-Some.fragment.now
    (subst (λ p. VisitedFragment p.fragment_name c.args.visited.now c.enter.new.self) c.deref.ensures visited_fragments)
    (subst (λ p. fragments_of c.args.self.now.document.now p.fragment_name ≡ Some c.in-Some.fragment.now) c.deref.ensures (sym c.in-Some.ensures.value))
    (subst (λ f. WalksOver c.args.self.now c.args.depth.now (depth_of c.args.depth.now + 1) f.selection_set c.enter.new.self c.walk_deeper.new.visited complete) c.deref-in-Some.ensures w))
    c.walk_deeper.ensures.walks

pub walk_fragment-returns-in-None-clause-walks : goal.walk_fragment-returns-in-None-clause-walks
walk_fragment-returns-in-None-clause-walks t c =
    let visited_fragments = was_visited c.deref.result.now.fragment_name c.args.visited.now c.enter.new.self c.in_ok-enter.field-0
    c.in_ok-enter.ensures.is_new c.in_ok-enter.ensures.names c.in_ok-enter.ensures.selections c.if-not-branch.false in
    walked_undefined c.args.spread.now
    (subst (λ p. VisitedFragment p.fragment_name c.args.visited.now c.enter.new.self) c.deref.ensures visited_fragments)
    (subst (λ p. fragments_of c.args.self.now.document.now p.fragment_name ≡ None) c.deref.ensures (sym c.in-None.ensures.value))

pub walk_set-returns-then-not-branch-clause-walks :
    goal.walk_set-returns-then-not-branch-clause-walks
walk_set-returns-then-not-branch-clause-walks t c =
    let pushed : Visited = record { visited_fragments = c.loop-selection.visited.visited_fragments; selections = c.push.new.self } in
    let Bounded = λ (limit depth : ℕ) (complete : Bool). HasWalked c.args.self.now (StepOf c.args.self.now (at_selection c.selection-item.result))
    (PassesBelow c.args.self.now pushed limit depth c.selection-item.result) pushed c.walk_below.new.visited complete in
    let listed : Listed c.selection-item.result c.loop-selection.visited pushed =
    record { names = refl; listed = ap (map (λ s. s.now)) c.in_ok-push.ensures.items ∙ map-append (λ s. s.now) _ _ } in
    walked_part c.args.self.now c.deref-selection-items.result.now c.loop-selection.selection-index c.selection-item.result c.args.visited.now c.walk_below.new.visited
    c.loop-selection-test.true c.selection-item.is (sym c.goes_through.ensures ∙ c.if-not-goes_through.false) listed
    c.deref-selection-items.ensures.value c.loop-selection.invariant.searched
    (subst (λ limit. Bounded limit (depth_of c.args.depth.now) false) c.loop-selection.invariant.limit
    (subst (λ depth. Bounded (depth_limit c.loop-selection.depth) depth false) c.loop-selection.invariant.depth
    (subst (Bounded (depth_limit c.loop-selection.depth) (depth_of c.loop-selection.depth)) c.if-not-branch.true c.in_ok-walk_below.ensures.walks)))

pub walk_set-loop-selection-preserved-then-not-goes_through :
    goal.walk_set-loop-selection-preserved-then-not-goes_through
walk_set-loop-selection-preserved-then-not-goes_through t c =
    let past = sym c.goes_through.ensures ∙ c.if-not-goes_through.true in
    record {
      depth = c.loop-selection.invariant.depth;
      limit = c.loop-selection.invariant.limit;
      searched = searched_past c.args.self.now c.deref-selection-items.result.now c.loop-selection.selection-index c.selection-item.result
          c.loop-selection-test.true c.selection-item.is c.args.visited.now c.loop-selection.visited past c.loop-selection.invariant.searched;
      ordered = λ kept. absurd (goes_on c.args.self.now.extent c.selection-item.result past kept);
    }

pub walk_set-loop-selection-preserved : goal.walk_set-loop-selection-preserved
walk_set-loop-selection-preserved t c =
    let xs = c.deref-selection-items.result.now in
    let i = c.loop-selection.selection-index in
    let s = c.selection-item.result in
    let pushed : Visited = record { visited_fragments = c.loop-selection.visited.visited_fragments; selections = c.push.new.self } in
    let listed : Listed s c.loop-selection.visited pushed =
    record { names = refl; listed = ap (map (λ s. s.now)) c.in_ok-push.ensures.items ∙ map-append (λ s. s.now) _ _ } in
    record {
      depth = search rules;
      limit = search rules;
      searched = searched_next c.args.self.now xs i s c.args.visited.now c.walk_below.new.visited c.loop-selection-test.true c.selection-item.is
          (sym c.goes_through.ensures ∙ c.if-not-goes_through.false) listed c.loop-selection.invariant.searched
          (c.in_ok-walk_below.ensures.walks.searched c.if-not-branch.false);
      ordered = λ kept. ordered_next xs i s c.loop-selection-test.true c.selection-item.is listed (c.loop-selection.invariant.ordered kept)
          (c.in_ok-walk_below.ensures.order c.if-not-branch.false kept);
    }

pub walk_below-returns-in-Field-2-clause-order : goal.walk_below-returns-in-Field-2-clause-order
walk_below-returns-in-Field-2-clause-order t c = λ done kept.
    ordered_field c.in-Field-2.field-0 c.in-Field-2.is

pub walk_set-loop-selection-init : goal.walk_set-loop-selection-init
walk_set-loop-selection-init t c = record {
  depth = refl;
  limit = refl;
  searched = search rules;
  ordered = λ kept. ordered_none;
}

pub walk_below-returns-in-InlineFragment-clause-order : goal.walk_below-returns-in-InlineFragment-clause-order
walk_below-returns-in-InlineFragment-clause-order t c =
    let fragments = fragments_of c.args.self.now.document.now in
    let new = c.walk_deeper-in-InlineFragment.new.visited in
    IfOk-weaker _ _ (OrderBelow c.args.self.now c.args.selection.now c.args.visited.now new)
    (λ complete o done kept. ordered_inline_fragment c.in-InlineFragment.fragment c.in-InlineFragment.is
    (subst (λ i. ListsInOrder fragments (selections_of i.selection_set) [] c.args.visited.now new) c.deref-in-InlineFragment.ensures (o done kept)))
    c.walk_deeper-in-InlineFragment.ensures.order

pub walk_fragment-returns-then-not-branch-clause-order : goal.walk_fragment-returns-then-not-branch-clause-order
walk_fragment-returns-then-not-branch-clause-order t c = λ done kept.
    let there = stood_there c.deref.result.now.fragment_name c.args.visited.now c.enter.new.self c.in_ok-enter.field-0
    c.in_ok-enter.ensures.is_new c.in_ok-enter.ensures.names c.if-not-branch.true in
    ordered_visited c.args.spread.now c.args.visited.now c.enter.new.self there.1 c.in_ok-enter.ensures.selections
    (subst (λ p. IsTrue (stands_on (visited_fragment_names c.args.visited.now) p.fragment_name)) c.deref.ensures there.0)

pub walk_fragment-returns-in-Some-clause-order : goal.walk_fragment-returns-in-Some-clause-order
walk_fragment-returns-in-Some-clause-order t c =
    let fragments = fragments_of c.args.self.now.document.now in
    let mid = c.enter.new.self in
    let new = c.walk_deeper.new.visited in
    let visited_fragments = was_visited c.deref.result.now.fragment_name c.args.visited.now mid c.in_ok-enter.field-0
    c.in_ok-enter.ensures.is_new c.in_ok-enter.ensures.names c.in_ok-enter.ensures.selections c.if-not-branch.false in
    IfOk-weaker _ _ (OrderBelow c.args.self.now (kind.FragmentSpread c.args.spread.now) c.args.visited.now new)
    (λ complete o done kept. ordered_fragment c.args.spread.now c.in-Some.fragment.now
    (subst (λ p. VisitedFragment p.fragment_name c.args.visited.now mid) c.deref.ensures visited_fragments)
    (subst (λ p. fragments p.fragment_name ≡ Some c.in-Some.fragment.now) c.deref.ensures (sym c.in-Some.ensures.value))
    (subst (λ f. ListsInOrder fragments (selections_of f.selection_set) [] mid new) c.deref-in-Some.ensures (o done kept)))
    c.walk_deeper.ensures.order

pub walk_fragment-returns-in-None-clause-order : goal.walk_fragment-returns-in-None-clause-order
walk_fragment-returns-in-None-clause-order t c = λ done kept.
    let fragments = fragments_of c.args.self.now.document.now in
    let visited_fragments = was_visited c.deref.result.now.fragment_name c.args.visited.now c.enter.new.self c.in_ok-enter.field-0
    c.in_ok-enter.ensures.is_new c.in_ok-enter.ensures.names c.in_ok-enter.ensures.selections c.if-not-branch.false in
    ordered_undefined c.args.spread.now
    (subst (λ p. VisitedFragment p.fragment_name c.args.visited.now c.enter.new.self) c.deref.ensures visited_fragments)
    (subst (λ p. fragments p.fragment_name ≡ None) c.deref.ensures (sym c.in-None.ensures.value))

pub walk_set-returns-clause-order : goal.walk_set-returns-clause-order
walk_set-returns-clause-order t c = λ done kept.
    ordered_whole c.loop-selection.selection-index c.loop-selection-test.false c.deref-selection-items.ensures.value (c.loop-selection.invariant.ordered kept)

pub walk_set-returns-clause-walks : goal.walk_set-returns-clause-walks
walk_set-returns-clause-walks t c =
    walked_whole c.args.self.now c.loop-selection.selection-index c.args.visited.now c.loop-selection.visited
    c.loop-selection-test.false c.deref-selection-items.ensures.value c.loop-selection.invariant.searched
