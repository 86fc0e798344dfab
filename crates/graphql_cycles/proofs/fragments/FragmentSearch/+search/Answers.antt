-- Each exit of the search.
use Rattle.std.proofs.Common.{rules, ◌≡◌, ℕ, List, Some, None, refl, sym, ◌∙◌, ap, subst}
use Rattle.std.proofs.lemmas.Result.{err_from_is_err_and}
use Rattle.graphql_specification.specs.Fragments.{SpreadsBy, fragment_of}
use Rattle.graphql_nodes.specs.Names.{DifferentNames, NameText, SameName}
use Rattle.graphql_documents.specs.Selections.{fragments_of}
use Rattle.graphql_documents.specs.declared.documents.executables.Fragment.{Fragment}
use Rattle.graphql_documents.specs.declared.documents.executables.FragmentSpread.{FragmentSpread}
use Rattle.graphql_documents.specs.declared.documents.executables.Selection.TheVariants as kind
use Rattle.graphql_nodes.specs.declared.nodes.Node.{Node}
use Rattle.graphql_guards.specs.Guards.{path_limit, path_of}
use Rattle.graphql_cycles.proofs.CycleLemmas.{closes_at, closes_into, searches_words, stops_at_refusal, stops_at_root, stops_before}
use Rattle.graphql_cycles.proofs.FragmentRoomLemmas.{room_falls}
use Rattle.graphql_cycles.proofs.FragmentSearchLemmas.{ClosesOver, StopsOver, at_field, at_inline_fragment, at_spread, closes_next, closes_whole, found_of, longer_of, marked_of, name_of, no_target, one_target, stops_among}
use Rattle.graphql_cycles.proofs.SeenNameLemmas.{stands_deeper, stands_still}
use Rattle.graphql_cycles.specs.FragmentSearches.{SearchesFor, SpreadAt, SpreadIn, spread_itself, spread_in_field, spread_in_inline_fragment}
use Rattle.graphql_cycles.proofs.fragments.FragmentSearch.+search.Goals as goal

pub search_selection-returns-in-Field-clause-searches : goal.search_selection-returns-in-Field-clause-searches
search_selection-returns-in-Field-clause-searches t c =
    let self = c.args.self.now in
    let path = c.args.path.now in
    let old = c.args.seen.now.keys in
    let new = c.search_set.new.seen.keys in
    let f = c.in-Field.field in
    searches_words SpreadsBy (fragment_of (fragments_of self.document.now)) name_of self.root.now
    (SpreadIn f.value.value.selection_set) (SpreadAt c.args.selection.now) (path_of path) (path_limit path) old new c.search_set.result
    (λ p written. spread_in_field f c.in-Field.is written) (λ p at. at_field f c.in-Field.is at)
    (subst (λ f. SearchesFor self (SpreadIn f.selection_set) path old new c.search_set.result) c.deref.ensures c.search_set.ensures.searches)

pub search_selection-returns-in-InlineFragment-clause-searches : goal.search_selection-returns-in-InlineFragment-clause-searches
search_selection-returns-in-InlineFragment-clause-searches t c =
    let self = c.args.self.now in
    let path = c.args.path.now in
    let old = c.args.seen.now.keys in
    let new = c.search_set-in-InlineFragment.new.seen.keys in
    let result = c.search_set-in-InlineFragment.result in
    let i = c.in-InlineFragment.inline in
    searches_words SpreadsBy (fragment_of (fragments_of self.document.now)) name_of self.root.now
    (SpreadIn i.value.value.selection_set) (SpreadAt c.args.selection.now) (path_of path) (path_limit path) old new result
    (λ p written. spread_in_inline_fragment i c.in-InlineFragment.is written) (λ p at. at_inline_fragment i c.in-InlineFragment.is at)
    (subst (λ f. SearchesFor self (SpreadIn f.selection_set) path old new result) c.deref-in-InlineFragment.ensures c.search_set-in-InlineFragment.ensures.searches)

pub search_selection-returns-in-FragmentSpread-clause-searches : goal.search_selection-returns-in-FragmentSpread-clause-searches
search_selection-returns-in-FragmentSpread-clause-searches t c =
    let self = c.args.self.now in
    let path = c.args.path.now in
    let p = c.in-FragmentSpread.spread in
    searches_words SpreadsBy (fragment_of (fragments_of self.document.now)) name_of self.root.now
    (λ q. q ≡ p) (SpreadAt c.args.selection.now) (path_of path) (path_limit path) c.args.seen.now.keys c.search_spread.new.seen.keys c.search_spread.result
    (λ q same. spread_itself (c.in-FragmentSpread.is ∙ ap kind.FragmentSpread (sym same))) (λ q at. at_spread p c.in-FragmentSpread.is at)
    c.search_spread.ensures.searches

pub search_set-returns-in_err-search_selection-clause-searches : goal.search_set-returns-in_err-search_selection-clause-searches
search_set-returns-in_err-search_selection-clause-searches t c =
    let self = c.args.self.now in
    let p = err_from_is_err_and c.from_residual.result c.from_residual.ensures.1 in
    let e = c.in_err-search_selection.field-0.0 in
    let same : p.0 ≡ e = p.2 in
    rw p.1 (subst (StopsOver self.document.now self.root.now (SpreadIn c.args.set.now) (path_of c.args.path.now) (path_limit c.args.path.now)) (sym same)
    (stops_among self.document.now self.root.now {xs = c.deref-selection-items.result.now} c.args.set.now c.loop-selection.selection-index c.selection-item.result e
    c.loop-selection-test.true c.selection-item.is c.deref-selection-items.ensures.value c.loop-selection.invariant.path c.loop-selection.invariant.limit
    c.in_err-search_selection.ensures.searches))

pub search_set-loop-selection-preserved : goal.search_set-loop-selection-preserved
search_set-loop-selection-preserved t c = record {
  path = search rules;
  limit = search rules;
  closes = closes_next c.args.self.now.document.now c.args.self.now.root.now
      c.deref-selection-items.result.now c.loop-selection.selection-index c.selection-item.result
      c.args.seen.now.keys c.loop-selection.seen.keys c.search_selection.new.seen.keys
      c.loop-selection-test.true c.selection-item.is c.loop-selection.invariant.closes c.in_ok-search_selection.ensures.searches;
}

pub search_set-returns-clause-searches : goal.search_set-returns-clause-searches
search_set-returns-clause-searches t c =
    closes_whole c.args.self.now.document.now c.args.self.now.root.now {xs = c.deref-selection-items.result.now} c.args.set.now
    c.loop-selection.selection-index c.args.seen.now.keys c.loop-selection.seen.keys
    c.loop-selection-test.false c.deref-selection-items.ensures.value c.loop-selection.invariant.closes

pub search_spread-returns-then-leads_back-clause-searches : goal.search_spread-returns-then-leads_back-clause-searches
search_spread-returns-then-leads_back-clause-searches t c =
    let self = c.args.self.now in
    let p = c.args.spread.now in
    let back : SameName (name_of p) self.root.now = search rules in
    stops_at_root SpreadsBy (fragment_of (fragments_of self.document.now)) name_of self.root.now
    (λ q. q ≡ p) (path_of c.args.path.now) (path_limit c.args.path.now) p c.new.result c.trace_step.result refl back c.new.ensures.items c.trace_step.ensures

pub search_spread-returns-in_default-clause-searches : goal.search_spread-returns-in_default-clause-searches
search_spread-returns-in_default-clause-searches t c =
    let self = c.args.self.now in
    let p = c.args.spread.now in
    let old = c.args.seen.now.keys in
    let new = c.mark.new.seen.keys in
    let m = marked_of p c.deref.result.now c.deref.ensures old new c.in_ok-mark.field-0 c.in_ok-mark.ensures.is_new c.in_ok-mark.ensures.names c.if-not-branch.false in
    let other : DifferentNames (name_of p) self.root.now = search rules in
    closes_at SpreadsBy (fragment_of (fragments_of self.document.now)) name_of self.root.now p m other
    (no_target self.document.now p (found_of p c.deref.result.now c.deref.ensures self.document.now None c.in_default.ensures.value))

pub search_spread-returns-in_err-enter-clause-searches : goal.search_spread-returns-in_err-enter-clause-searches
search_spread-returns-in_err-enter-clause-searches t c =
    let self = c.args.self.now in
    let p = c.args.spread.now in
    let old = c.args.seen.now.keys in
    let new = c.mark.new.seen.keys in
    let m = marked_of p c.deref.result.now c.deref.ensures old new c.in_ok-mark.field-0 c.in_ok-mark.ensures.is_new c.in_ok-mark.ensures.names c.if-not-branch.false in
    let other : DifferentNames (name_of p) self.root.now = search rules in
    let r = err_from_is_err_and c.from_residual-in_err-enter.result c.from_residual-in_err-enter.ensures.1 in
    let e = c.in_err-enter.field-0.0 in
    let same : r.0 ≡ e = r.2 in
    rw r.1 (subst (StopsOver self.document.now self.root.now (λ q. q ≡ p) (path_of c.args.path.now) (path_limit c.args.path.now)) (sym same)
    (stops_at_refusal SpreadsBy (fragment_of (fragments_of self.document.now)) name_of self.root.now c.args.path.now old p e
    c.requires m.unseen other c.in_err-enter.ensures.bound))

pub search_spread-search_set-requires : goal.search_spread-search_set-requires
search_spread-search_set-requires t c =
    let self = c.args.self.now in
    let p = c.args.spread.now in
    let old = c.args.seen.now.keys in
    let new = c.mark.new.seen.keys in
    let m = marked_of p c.deref.result.now c.deref.ensures old new c.in_ok-mark.field-0 c.in_ok-mark.ensures.is_new c.in_ok-mark.ensures.names c.if-not-branch.false in
    let other : DifferentNames (name_of p) self.root.now = search rules in
    let longer = longer_of p c.deref.result.now c.deref.ensures (path_of c.args.path.now) (path_of c.enter.new.self) c.in_ok-enter.ensures.visited_fragments in
    let found = found_of p c.deref.result.now c.deref.ensures self.document.now (Some c.in-Some.fragment.now) c.in-Some.ensures.value in (
      room_falls self.document.now (name_of p) c.in-Some.fragment.now c.deref-2.result.now c.args.path.now c.enter.new.self t
          c.deref-2.ensures found c.in_ok-enter.ensures.bound c.in_ok-enter.ensures.limit longer c.decreases,
      stands_still longer c.in_ok-enter.ensures.limit (λ k h. h) (stands_deeper c.requires (name_of p) m.unseen other m c.in_ok-enter.ensures.bound),
    )

pub search_spread-returns-in-Ok-clause-searches : goal.search_spread-returns-in-Ok-clause-searches
search_spread-returns-in-Ok-clause-searches t c =
    let self = c.args.self.now in
    let p = c.args.spread.now in
    let old = c.args.seen.now.keys in
    let mid = c.mark.new.seen.keys in
    let new = c.search_set.new.seen.keys in
    let m = marked_of p c.deref.result.now c.deref.ensures old mid c.in_ok-mark.field-0 c.in_ok-mark.ensures.is_new c.in_ok-mark.ensures.names c.if-not-branch.false in
    let other : DifferentNames (name_of p) self.root.now = search rules in
    let found = found_of p c.deref.result.now c.deref.ensures self.document.now (Some c.in-Some.fragment.now) c.in-Some.ensures.value in
    closes_into SpreadsBy (fragment_of (fragments_of self.document.now)) name_of self.root.now p m other c.in-Some.fragment.now new
    (one_target self.document.now p c.in-Some.fragment.now found)
    (subst (λ (d : Fragment). ClosesOver self.document.now self.root.now (SpreadIn d.selection_set) mid new) c.deref-2.ensures c.in-Ok.ensures.searches)

pub search_spread-returns-in-Err-clause-searches : goal.search_spread-returns-in-Err-clause-searches
search_spread-returns-in-Err-clause-searches t c =
    let self = c.args.self.now in
    let p = c.args.spread.now in
    let d = c.in-Some.fragment.now in
    let e = c.in-Err.error in
    let Stops = λ (begins : Node FragmentSpread → Type 0) (path : List NameText) (limit : ℕ). StopsOver self.document.now self.root.now begins path limit e in
    let longer = longer_of p c.deref.result.now c.deref.ensures (path_of c.args.path.now) (path_of c.enter.new.self) c.in_ok-enter.ensures.visited_fragments in
    let found = found_of p c.deref.result.now c.deref.ensures self.document.now (Some c.in-Some.fragment.now) c.in-Some.ensures.value in
    stops_before SpreadsBy (fragment_of (fragments_of self.document.now)) name_of self.root.now (λ q. q ≡ p) (path_of c.args.path.now) (path_limit c.args.path.now) p d
    e c.trace_step-in-Err.result refl found c.trace_step-in-Err.ensures
    (subst (λ (path : List NameText). Stops (SpreadsBy d) path (path_limit c.args.path.now)) longer
    (subst (Stops (SpreadsBy d) (path_of c.enter.new.self)) c.in_ok-enter.ensures.limit
    (subst (λ (f : Fragment). Stops (SpreadIn f.selection_set) (path_of c.enter.new.self) (path_limit c.enter.new.self)) c.deref-2.ensures c.in-Err.ensures.searches)))
