-- Each exit of the walk over what is written.
use Rattle.std.proofs.Common.{◌+◌, ◌∷◌, [], Bor, List, map, rules, refl, subst}
use Rattle.std.proofs.lemmas.Result.{IfOk-weaker}
use Rattle.graphql_documents.specs.Selections.{selections_of}
use Rattle.graphql_documents.specs.declared.documents.directives.Directive.{Directive}
use Rattle.graphql_documents.specs.declared.documents.executables.Field.{Field}
use Rattle.graphql_documents.specs.declared.documents.executables.InlineFragment.{InlineFragment}
use Rattle.graphql_nodes.specs.declared.nodes.Node.{Node}
use Rattle.graphql_guards.specs.Guards.{depth_limit, depth_of}
use Rattle.graphql_operations.specs.DeferLabels.{MeetsDefers}
use Rattle.graphql_operations.proofs.WrittenDeferLemmas.{meets_all, meets_at, meets_cut, meets_visited, meets_field, meets_inline_fragment, meets_limit, meets_next, meets_none, meets_spread}
use Rattle.graphql_operations.proofs.defer.written.+written.Goals as goal

pub walk_deeper-returns-in-Ok-clause-walks : goal.walk_deeper-returns-in-Ok-clause-walks
walk_deeper-returns-in-Ok-clause-walks t c =
    let limit = depth_limit c.args.depth.now in
    let depth = depth_of c.args.depth.now in
    let below = c.in-Ok.guard.counter.now in
    let refs = λ (l : List (Bor (Node Directive))). map (λ d. d.now) l in
    let old = refs c.args.visited.now.items in
    let new = refs c.walk_set.new.visited.items in
    IfOk-weaker c.walk_set.result (λ complete. MeetsDefers (depth_limit below) (depth_of below) 1 (selections_of c.args.set.now) old new complete)
    (λ complete. MeetsDefers limit (depth + 1) 0 (selections_of c.args.set.now) old new complete)
    (λ complete m. meets_visited limit depth c.in-Ok.ensures.bound
    (meets_at limit (depth + 1) (depth_limit below) (depth_of below) c.in-Ok.ensures.limit c.in-Ok.ensures.depth m))
    c.walk_set.ensures.walks

pub walk_deeper-returns-in-Err-clause-walks : goal.walk_deeper-returns-in-Err-clause-walks
walk_deeper-returns-in-Err-clause-walks t c =
    meets_limit (depth_limit c.args.depth.now) (depth_of c.args.depth.now) c.args.set.now _ c.in-Err.ensures.bound

pub walk_selection-returns-in-Field-clause-walks : goal.walk_selection-returns-in-Field-clause-walks
walk_selection-returns-in-Field-clause-walks t c =
    let limit = depth_limit c.args.depth.now in
    let depth = depth_of c.args.depth.now in
    let refs = λ (l : List (Bor (Node Directive))). map (λ d. d.now) l in
    let new = refs c.walk_deeper.new.visited.items in
    let mid = refs c.add_defers.new.visited.items in
    IfOk-weaker _ (λ complete. MeetsDefers limit (depth + 1) 0 (selections_of c.deref.result.now.selection_set) mid new complete)
    (λ complete. MeetsDefers limit depth 1 (c.args.selection.now ∷ []) (refs c.args.visited.now.items) new complete)
    (λ complete m. meets_field limit depth c.in-Field.field c.in-Field.is c.directives_of.result.now c.directives_of.ensures c.in_ok-add_defers.ensures
    (subst (λ (f : Field). MeetsDefers limit (depth + 1) 0 (selections_of f.selection_set) mid new complete) c.deref.ensures m))
    c.walk_deeper.ensures.walks

pub walk_selection-returns-in-InlineFragment-clause-walks : goal.walk_selection-returns-in-InlineFragment-clause-walks
walk_selection-returns-in-InlineFragment-clause-walks t c =
    let limit = depth_limit c.args.depth.now in
    let depth = depth_of c.args.depth.now in
    let refs = λ (l : List (Bor (Node Directive))). map (λ d. d.now) l in
    let new = refs c.walk_deeper-in-InlineFragment.new.visited.items in
    let mid = refs c.add_defers.new.visited.items in
    IfOk-weaker _ (λ complete. MeetsDefers limit (depth + 1) 0 (selections_of c.deref-in-InlineFragment.result.now.selection_set) mid new complete)
    (λ complete. MeetsDefers limit depth 1 (c.args.selection.now ∷ []) (refs c.args.visited.now.items) new complete)
    (λ complete m. meets_inline_fragment limit depth c.in-InlineFragment.fragment c.in-InlineFragment.is c.directives_of.result.now c.directives_of.ensures c.in_ok-add_defers.ensures
    (subst (λ (i : InlineFragment). MeetsDefers limit (depth + 1) 0 (selections_of i.selection_set) mid new complete) c.deref-in-InlineFragment.ensures m))
    c.walk_deeper-in-InlineFragment.ensures.walks

pub walk_selection-returns-in-FragmentSpread-clause-walks : goal.walk_selection-returns-in-FragmentSpread-clause-walks
walk_selection-returns-in-FragmentSpread-clause-walks t c =
    meets_spread (depth_limit c.args.depth.now) (depth_of c.args.depth.now) c.in-FragmentSpread.field-0 c.in-FragmentSpread.is
    c.directives_of.result.now c.directives_of.ensures c.in_ok-add_defers.ensures

pub walk_set-loop-selection-init : goal.walk_set-loop-selection-init
walk_set-loop-selection-init t c = record { depth = refl; limit = refl; meets = meets_none _ _ }

pub walk_set-returns-then-not-branch-clause-walks : goal.walk_set-returns-then-not-branch-clause-walks
walk_set-returns-then-not-branch-clause-walks t c =
    let limit = depth_limit c.args.depth.now in
    let depth = depth_of c.args.depth.now in
    let refs = λ (l : List (Bor (Node Directive))). map (λ d. d.now) l in
    let s = c.selection-item.result in
    let below = meets_at limit depth (depth_limit c.loop-selection.depth) (depth_of c.loop-selection.depth) c.loop-selection.invariant.limit c.loop-selection.invariant.depth
    c.in_ok-walk_selection.ensures.walks in
    meets_cut limit depth c.deref-selection-items.result.now c.loop-selection.selection-index s c.loop-selection-test.true c.selection-item.is
    c.loop-selection.invariant.meets c.deref-selection-items.ensures.value
    (subst (λ complete. MeetsDefers limit depth 1 (s ∷ []) (refs c.loop-selection.visited.items) (refs c.walk_selection.new.visited.items) complete) c.if-not-branch.true below)

pub walk_set-loop-selection-preserved : goal.walk_set-loop-selection-preserved
walk_set-loop-selection-preserved t c =
    let limit = depth_limit c.args.depth.now in
    let depth = depth_of c.args.depth.now in
    let refs = λ (l : List (Bor (Node Directive))). map (λ d. d.now) l in
    let s = c.selection-item.result in
    let below = meets_at limit depth (depth_limit c.loop-selection.depth) (depth_of c.loop-selection.depth) c.loop-selection.invariant.limit c.loop-selection.invariant.depth
    c.in_ok-walk_selection.ensures.walks in
    record {
      depth = search rules;
      limit = search rules;
      meets = meets_next limit depth c.deref-selection-items.result.now c.loop-selection.selection-index s c.loop-selection-test.true c.selection-item.is
          c.loop-selection.invariant.meets
          (subst (λ complete. MeetsDefers limit depth 1 (s ∷ []) (refs c.loop-selection.visited.items) (refs c.walk_selection.new.visited.items) complete) c.if-not-branch.false below);
    }

pub walk_set-returns-clause-walks : goal.walk_set-returns-clause-walks
walk_set-returns-clause-walks t c =
    meets_all (depth_limit c.args.depth.now) (depth_of c.args.depth.now) c.loop-selection.selection-index c.loop-selection-test.false
    c.deref-selection-items.ensures.value c.loop-selection.invariant.meets
