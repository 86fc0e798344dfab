use Rattle.std.proofs.Common.{◌∙◌, ap, subst, sym, [], ◌∷◌}
use Rattle.std.proofs.lemmas.Result.{on_ok_weaker}
use Rattle.graphql_documents.specs.declared.documents.executables.FragmentSpread.{FragmentSpread}
use Rattle.graphql_deprecations.specs.InOrder.{Adds, DirectivesUse, FieldUses, InlineFragmentUses, SelectionsUse, no_selections}
use Rattle.graphql_deprecations.proofs.AddLemmas.{adds_both, adds_none, adds_words}
use Rattle.graphql_deprecations.proofs.SelectionLemmas.{adds_selection, one_field, one_inline_fragment, one_spread, selections_all}
use Rattle.graphql_deprecations.proofs.selections.+selection.Goals as goal

-- a field
pub add_in_field-returns : goal.add_in_field-returns
add_in_field-returns t c =
    let s = c.args.schema.now in
    let mid = c.add_field_itself.new.found.items in
    let applied = subst (λ l. Adds (DirectivesUse s l) mid c.add_in_directives.new.found.items) c.deref.ensures.value c.in_ok-add_in_directives.ensures in
    on_ok_weaker c.add_in_selection_set.result (λ below. adds_both c.in_ok-add_field_itself.ensures (adds_both applied below)) c.add_in_selection_set.ensures

-- an inline fragment
pub add_in_inline_fragment-returns : goal.add_in_inline_fragment-returns
add_in_inline_fragment-returns t c =
    let s = c.args.schema.now in
    let old = c.args.found.now.items in
    let applied = subst (λ l. Adds (DirectivesUse s l) old c.add_in_directives.new.found.items) c.deref.ensures.value c.in_ok-add_in_directives.ensures in
    on_ok_weaker c.add_in_selection_set.result (λ below. adds_both applied below) c.add_in_selection_set.ensures

-- a set
pub add_in_selection_set-loop-selection-init : goal.add_in_selection_set-loop-selection-init
add_in_selection_set-loop-selection-init t c = adds_none no_selections

pub add_in_selection_set-loop-selection-preserved : goal.add_in_selection_set-loop-selection-preserved
add_in_selection_set-loop-selection-preserved t c =
    adds_selection c.args.schema.now c.deref-selection-items.result.now c.loop-selection.selection-index c.selection-item.result
    c.loop-selection-test.true c.selection-item.is c.loop-selection.invariant c.in_ok-add_in_selection.ensures

pub add_in_selection_set-returns : goal.add_in_selection_set-returns
add_in_selection_set-returns t c =
    let s = c.args.schema.now in
    let set = c.args.set.now in
    subst (λ l. Adds (SelectionsUse s set.ty l) c.args.found.now.items c.loop-selection.found.items) c.deref-selection-items.ensures.value
    (selections_all s c.deref-selection-items.result.now c.loop-selection.selection-index c.loop-selection-test.false c.loop-selection.invariant)

-- a selection
pub add_in_selection-returns-in-Field : goal.add_in_selection-returns-in-Field
add_in_selection-returns-in-Field t c =
    let s = c.args.schema.now in
    let parent = c.args.parent.now in
    let f = c.in-Field.field in
    on_ok_weaker c.add_in_field.result
    (adds_words (λ a h. subst (λ x. SelectionsUse s parent (x ∷ []) a) (sym c.in-Field.is) (one_field s parent f a (subst (λ d. FieldUses s parent d a) c.deref.ensures h))))
    c.add_in_field.ensures

pub add_in_selection-returns-in-FragmentSpread : goal.add_in_selection-returns-in-FragmentSpread
add_in_selection-returns-in-FragmentSpread t c =
    let s = c.args.schema.now in
    let parent = c.args.parent.now in
    let p = c.in-FragmentSpread.spread in
    on_ok_weaker c.add_in_directives.result
    (adds_words
    (λ a h. subst (λ x. SelectionsUse s parent (x ∷ []) a) (sym c.in-FragmentSpread.is)
    (one_spread s parent p a
    (subst (λ l. DirectivesUse s l a) (c.deref-in-FragmentSpread-2.ensures.value ∙ ap (λ (p : FragmentSpread). p.directives.items) c.deref-in-FragmentSpread.ensures) h))))
    c.add_in_directives.ensures

pub add_in_selection-returns-in-InlineFragment : goal.add_in_selection-returns-in-InlineFragment
add_in_selection-returns-in-InlineFragment t c =
    let s = c.args.schema.now in
    let parent = c.args.parent.now in
    let i = c.in-InlineFragment.fragment in
    on_ok_weaker c.add_in_inline_fragment.result
    (adds_words
    (λ a h. subst (λ x. SelectionsUse s parent (x ∷ []) a) (sym c.in-InlineFragment.is)
    (one_inline_fragment s parent i a (subst (λ d. InlineFragmentUses s d a) c.deref-in-InlineFragment.ensures h))))
    c.add_in_inline_fragment.ensures
