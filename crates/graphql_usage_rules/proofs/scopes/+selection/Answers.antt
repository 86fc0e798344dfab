use Rattle.std.proofs.Common.{◌∙◌, ap, subst, sym}
use Rattle.std.specs.Prelude.{◌⊎◌, Any, OnOk}
use Rattle.graphql_documents.specs.Selections.{selections_of}
use Rattle.graphql_documents.specs.declared.documents.executables.Field.{Field}
use Rattle.graphql_documents.specs.declared.documents.executables.FragmentSpread.{FragmentSpread}
use Rattle.graphql_documents.specs.declared.documents.executables.InlineFragment.{InlineFragment}
use Rattle.graphql_documents.specs.declared.documents.executables.Selection.TheVariants as kind
use Rattle.graphql_reach.proofs.SelectionLemmas.{set_words}
use Rattle.graphql_usage_rules.specs.Scopes.{Adds, SelectionHasVariable, SetHasVariable, values_at}
use Rattle.graphql_usage_rules.specs.UndefinedVariables.{VariableAtSelection, VariableInArguments, VariableInDirectives}
use Rattle.graphql_usage_rules.proofs.AddLemmas.{adds_all, adds_more, adds_none_yet, adds_words, then_on_ok, words_on_ok}
use Rattle.graphql_usage_rules.proofs.VariableLemmas.{field_words, inline_words, spread_words}
use Rattle.graphql_usage_rules.proofs.scopes.+selection.Goals as goal

-- a selection
pub add_in_selection-returns-in_ok-add_in_directives-in-Field : goal.add_in_selection-returns-in_ok-add_in_directives-in-Field
add_in_selection-returns-in_ok-add_in_directives-in-Field t c =
    let f = c.in-Field.field in
    let r = c.add_in_selection_set.result in
    let old = values_at c.args.variables.now.items in
    let first = values_at c.add_in_arguments.new.variables.items in
    let second = values_at c.add_in_directives.new.variables.items in
    let new = values_at c.add_in_selection_set.new.variables.items in
    let Arguments = VariableInArguments f.value.value.arguments.items in
    let Directives = VariableInDirectives f.value.value.directives.items in
    let Below = SetHasVariable f.value.value.selection_set in
    subst (λ s. OnOk r (Adds (SelectionHasVariable s) old new)) (sym c.in-Field.is)
    (then_on_ok r Arguments (λ v. Directives v ⊎ Below v) (SelectionHasVariable (kind.Field f)) old first new (field_words f)
    (subst (λ l. Adds (VariableInArguments l) old first) (c.deref-in-Field.ensures.value ∙ ap (λ (f : Field). f.arguments.items) c.deref.ensures) c.in_ok-add_in_arguments-in-Field.ensures)
    (then_on_ok r Directives Below (λ v. Directives v ⊎ Below v) first second new (λ v. (λ w. w, λ w. w))
    (subst (λ l. Adds (VariableInDirectives l) first second) (c.deref-in-Field-3.ensures.value ∙ ap (λ (f : Field). f.directives.items) c.deref-in-Field-2.ensures) c.in_ok-add_in_directives-in-Field.ensures)
    (subst (λ (f : Field). OnOk r (Adds (SetHasVariable f.selection_set) second new)) c.deref-in-Field-4.ensures c.add_in_selection_set.ensures)))

pub add_in_selection-returns-in-FragmentSpread : goal.add_in_selection-returns-in-FragmentSpread
add_in_selection-returns-in-FragmentSpread t c =
    let p = c.in-FragmentSpread.spread in
    let r = c.add_in_directives-in-FragmentSpread.result in
    let old = values_at c.args.variables.now.items in
    let new = values_at c.add_in_directives-in-FragmentSpread.new.variables.items in
    subst (λ s. OnOk r (Adds (SelectionHasVariable s) old new)) (sym c.in-FragmentSpread.is)
    (words_on_ok r (VariableInDirectives p.value.value.directives.items) (SelectionHasVariable (kind.FragmentSpread p)) old new (spread_words p)
    (subst (λ l. OnOk r (Adds (VariableInDirectives l) old new))
    (c.deref-in-FragmentSpread-2.ensures.value ∙ ap (λ (p : FragmentSpread). p.directives.items) c.deref-in-FragmentSpread.ensures) c.add_in_directives-in-FragmentSpread.ensures))

pub add_in_selection-returns-in_ok-add_in_directives-in-InlineFragment : goal.add_in_selection-returns-in_ok-add_in_directives-in-InlineFragment
add_in_selection-returns-in_ok-add_in_directives-in-InlineFragment t c =
    let i = c.in-InlineFragment.fragment in
    let r = c.add_in_selection_set-in-InlineFragment.result in
    let old = values_at c.args.variables.now.items in
    let mid = values_at c.add_in_directives-in-InlineFragment.new.variables.items in
    let new = values_at c.add_in_selection_set-in-InlineFragment.new.variables.items in
    subst (λ s. OnOk r (Adds (SelectionHasVariable s) old new)) (sym c.in-InlineFragment.is)
    (then_on_ok r (VariableInDirectives i.value.value.directives.items) (SetHasVariable i.value.value.selection_set) (SelectionHasVariable (kind.InlineFragment i)) old mid new (inline_words i)
    (subst (λ l. Adds (VariableInDirectives l) old mid) (c.deref-in-InlineFragment-2.ensures.value ∙ ap (λ (i : InlineFragment). i.directives.items) c.deref-in-InlineFragment.ensures)
    c.in_ok-add_in_directives-in-InlineFragment.ensures)
    (subst (λ (i : InlineFragment). OnOk r (Adds (SetHasVariable i.selection_set) mid new)) c.deref-in-InlineFragment-3.ensures c.add_in_selection_set-in-InlineFragment.ensures))

-- a set
pub add_in_selection_set-loop-selection-init : goal.add_in_selection_set-loop-selection-init
add_in_selection_set-loop-selection-init t c = adds_none_yet SelectionHasVariable c.deref-selection-items.result.now (values_at c.args.variables.now.items)

pub add_in_selection_set-loop-selection-preserved : goal.add_in_selection_set-loop-selection-preserved
add_in_selection_set-loop-selection-preserved t c =
    adds_more SelectionHasVariable c.deref-selection-items.result.now c.loop-selection.selection-index c.selection-item.result (values_at c.args.variables.now.items)
    (values_at c.loop-selection.variables.items) (values_at c.add_in_selection.new.variables.items) c.loop-selection-test.true c.selection-item.is c.loop-selection.invariant
    c.in_ok-add_in_selection.ensures

pub add_in_selection_set-returns : goal.add_in_selection_set-returns
add_in_selection_set-returns t c =
    let set = c.args.set.now in
    let old = values_at c.args.variables.now.items in
    let new = values_at c.loop-selection.variables.items in
    adds_words (λ v. Any (λ s. SelectionHasVariable s v) (selections_of set)) (SetHasVariable set) old new (set_words VariableAtSelection set)
    (subst (λ l. Adds (λ v. Any (λ s. SelectionHasVariable s v) l) old new) c.deref-selection-items.ensures.value
    (adds_all SelectionHasVariable c.deref-selection-items.result.now c.loop-selection.selection-index old new c.loop-selection-test.false c.loop-selection.invariant))
