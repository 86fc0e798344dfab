use Rattle.std.proofs.Common.{◌∙◌, ap, subst, sym}
use Rattle.std.specs.Prelude.{◌⊎◌}
use mathlib.Core.Logic.{inl}
use Rattle.graphql_diagnostics.proofs.ReportLemmas.{kept_wider}
use Rattle.graphql_documents.specs.declared.documents.definitions.FieldDefinition.{FieldDefinition}
use Rattle.graphql_documents.specs.declared.documents.executables.FragmentSpread.{FragmentSpread}
use Rattle.graphql_documents.specs.declared.documents.executables.Selection.TheVariants as kind
use Rattle.graphql_usage_rules.specs.Parts.{FieldUses, InlineFragmentUses, SelectionUses, SetUses}
use Rattle.graphql_usage_rules.specs.Usages.{UsedAtSelection, UsedInArguments, UsedInDirectives}
use Rattle.graphql_usage_rules.proofs.PlaceLemmas.{Among, Checked, Kept, Reported, first_refused, in_places, moved, place_refused, places_all, places_more, reported_in, second_refused, then_checked}
use Rattle.graphql_reach.proofs.SelectionLemmas.{set_words}
use Rattle.graphql_usage_rules.proofs.SelectionLemmas.{field_words, inline_words, spread_words}
use Rattle.graphql_usage_rules.proofs.selections.+selection.Goals as goal

-- a field
pub check_field-returns-in_err-check_arguments : goal.check_field-returns-in_err-check_arguments
check_field-returns-in_err-check_arguments t c =
    let v = c.args.variables.now in
    let f = c.args.field.now in
    let old = c.args.reports.now.kept.items in
    let new = c.check_arguments.new.reports.kept.items in
    let definitions = c.deref-2.ensures.value ∙ ap (λ (d : FieldDefinition). d.arguments.items) c.deref.ensures in
    first_refused v c.from_residual.result (UsedInArguments c.args.schema.now f.definition.value.value.arguments.items f.arguments.items)
    (λ u. UsedInDirectives c.args.schema.now f.directives.items u ⊎ SetUses c.args.schema.now f.selection_set u) old new c.from_residual.ensures.0
    (subst (λ l. Kept v (UsedInArguments c.args.schema.now l f.arguments.items) old new) definitions
    (subst (λ l. Kept v (UsedInArguments c.args.schema.now c.deref-2.result.now l) old new) c.deref-3.ensures.value c.in_err-check_arguments.ensures))

pub check_field-returns-in_err-check_directives : goal.check_field-returns-in_err-check_directives
check_field-returns-in_err-check_directives t c =
    let v = c.args.variables.now in
    let f = c.args.field.now in
    let old = c.args.reports.now.kept.items in
    let mid = c.check_arguments.new.reports.kept.items in
    let new = c.check_directives.new.reports.kept.items in
    let definitions = c.deref-2.ensures.value ∙ ap (λ (d : FieldDefinition). d.arguments.items) c.deref.ensures in
    second_refused v c.from_residual-in_err-check_directives.result (UsedInArguments c.args.schema.now f.definition.value.value.arguments.items f.arguments.items)
    (λ u. UsedInDirectives c.args.schema.now f.directives.items u ⊎ SetUses c.args.schema.now f.selection_set u) old mid new
    c.from_residual-in_err-check_directives.ensures.0
    (subst (λ l. Reported v (UsedInArguments c.args.schema.now l f.arguments.items) old mid) definitions
    (subst (λ l. Reported v (UsedInArguments c.args.schema.now c.deref-2.result.now l) old mid) c.deref-3.ensures.value c.in_ok-check_arguments.ensures))
    (kept_wider (moved v (λ u p. inl p))
    (subst (λ l. Kept v (UsedInDirectives c.args.schema.now l) mid new) c.deref-4.ensures.value c.in_err-check_directives.ensures))

pub check_field-returns : goal.check_field-returns
check_field-returns t c =
    let v = c.args.variables.now in
    let f = c.args.field.now in
    let r = c.check_selection_set.result in
    let old = c.args.reports.now.kept.items in
    let first = c.check_arguments.new.reports.kept.items in
    let second = c.check_directives.new.reports.kept.items in
    let new = c.check_selection_set.new.reports.kept.items in
    let definitions = c.deref-2.ensures.value ∙ ap (λ (d : FieldDefinition). d.arguments.items) c.deref.ensures in
    then_checked v r (UsedInArguments c.args.schema.now f.definition.value.value.arguments.items f.arguments.items)
    (λ u. UsedInDirectives c.args.schema.now f.directives.items u ⊎ SetUses c.args.schema.now f.selection_set u) old first new
    (subst (λ l. Reported v (UsedInArguments c.args.schema.now l f.arguments.items) old first) definitions
    (subst (λ l. Reported v (UsedInArguments c.args.schema.now c.deref-2.result.now l) old first) c.deref-3.ensures.value c.in_ok-check_arguments.ensures))
    (then_checked v r (UsedInDirectives c.args.schema.now f.directives.items) (SetUses c.args.schema.now f.selection_set) first second new
    (subst (λ l. Reported v (UsedInDirectives c.args.schema.now l) first second) c.deref-4.ensures.value c.in_ok-check_directives.ensures) c.check_selection_set.ensures)

-- an inline fragment
pub check_inline_fragment-returns-in_err-check_directives :
    goal.check_inline_fragment-returns-in_err-check_directives
check_inline_fragment-returns-in_err-check_directives t c =
    let v = c.args.variables.now in
    let f = c.args.fragment.now in
    let old = c.args.reports.now.kept.items in
    let new = c.check_directives.new.reports.kept.items in
    first_refused v c.from_residual.result (UsedInDirectives c.args.schema.now f.directives.items) (SetUses c.args.schema.now f.selection_set) old new
    c.from_residual.ensures.0 (subst (λ l. Kept v (UsedInDirectives c.args.schema.now l) old new) c.deref.ensures.value c.in_err-check_directives.ensures)

pub check_inline_fragment-returns : goal.check_inline_fragment-returns
check_inline_fragment-returns t c =
    let v = c.args.variables.now in
    let f = c.args.fragment.now in
    let old = c.args.reports.now.kept.items in
    let mid = c.check_directives.new.reports.kept.items in
    then_checked v c.check_selection_set.result (UsedInDirectives c.args.schema.now f.directives.items) (SetUses c.args.schema.now f.selection_set) old mid
    c.check_selection_set.new.reports.kept.items
    (subst (λ l. Reported v (UsedInDirectives c.args.schema.now l) old mid) c.deref.ensures.value c.in_ok-check_directives.ensures) c.check_selection_set.ensures

-- a set
pub check_selection_set-returns-in_err-check_selection : goal.check_selection_set-returns-in_err-check_selection
check_selection_set-returns-in_err-check_selection t c =
    let v = c.args.variables.now in
    let Uses = SelectionUses c.args.schema.now in
    let set = c.args.set.now in
    let xs = c.deref-selection-items.result.now in
    let r = c.from_residual.result in
    let old = c.args.reports.now.kept.items in
    let mid = c.loop-selection.reports.kept.items in
    let new = c.check_selection.new.reports.kept.items in
    in_places v r (Among v Uses set.selections.items) (SetUses c.args.schema.now set) old new (set_words (UsedAtSelection c.args.schema.now) set)
    (subst (λ l. Checked v r (Among v Uses l) old new) c.deref-selection-items.ensures.value
    (place_refused v Uses xs r c.loop-selection.selection-index c.selection-item.result old mid new c.from_residual.ensures.0
    c.loop-selection-test.true c.selection-item.is c.loop-selection.invariant c.in_err-check_selection.ensures))

pub check_selection_set-loop-selection-preserved : goal.check_selection_set-loop-selection-preserved
check_selection_set-loop-selection-preserved t c =
    places_more c.args.variables.now (SelectionUses c.args.schema.now) c.deref-selection-items.result.now c.loop-selection.selection-index c.selection-item.result
    c.args.reports.now.kept.items c.loop-selection.reports.kept.items c.check_selection.new.reports.kept.items c.loop-selection-test.true c.selection-item.is
    c.loop-selection.invariant c.in_ok-check_selection.ensures

pub check_selection_set-returns : goal.check_selection_set-returns
check_selection_set-returns t c =
    let v = c.args.variables.now in
    let Uses = SelectionUses c.args.schema.now in
    let set = c.args.set.now in
    let xs = c.deref-selection-items.result.now in
    let old = c.args.reports.now.kept.items in
    let new = c.loop-selection.reports.kept.items in
    reported_in v (Among v Uses set.selections.items) (SetUses c.args.schema.now set) old new (set_words (UsedAtSelection c.args.schema.now) set)
    (subst (λ l. Reported v (Among v Uses l) old new) c.deref-selection-items.ensures.value
    (places_all v Uses xs c.loop-selection.selection-index old new c.loop-selection-test.false c.loop-selection.invariant))

-- a selection
pub check_selection-returns-in-Field : goal.check_selection-returns-in-Field
check_selection-returns-in-Field t c =
    let v = c.args.variables.now in
    let f = c.in-Field.field in
    let r = c.check_field.result in
    let old = c.args.reports.now.kept.items in
    let new = c.check_field.new.reports.kept.items in
    subst (λ s. Checked v r (SelectionUses c.args.schema.now s) old new) (sym c.in-Field.is)
    (in_places v r (FieldUses c.args.schema.now f.value.value) (SelectionUses c.args.schema.now (kind.Field f)) old new (field_words c.args.schema.now f)
    (subst (λ d. Checked v r (FieldUses c.args.schema.now d) old new) c.deref.ensures c.check_field.ensures))

pub check_selection-returns-in-FragmentSpread : goal.check_selection-returns-in-FragmentSpread
check_selection-returns-in-FragmentSpread t c =
    let v = c.args.variables.now in
    let p = c.in-FragmentSpread.spread in
    let r = c.check_directives.result in
    let old = c.args.reports.now.kept.items in
    let new = c.check_directives.new.reports.kept.items in
    subst (λ s. Checked v r (SelectionUses c.args.schema.now s) old new) (sym c.in-FragmentSpread.is)
    (in_places v r (UsedInDirectives c.args.schema.now p.value.value.directives.items) (SelectionUses c.args.schema.now (kind.FragmentSpread p)) old new
    (spread_words c.args.schema.now p)
    (subst (λ l. Checked v r (UsedInDirectives c.args.schema.now l) old new)
    (c.deref-in-FragmentSpread-2.ensures.value ∙ ap (λ (p : FragmentSpread). p.directives.items) c.deref-in-FragmentSpread.ensures) c.check_directives.ensures))

pub check_selection-returns-in-InlineFragment : goal.check_selection-returns-in-InlineFragment
check_selection-returns-in-InlineFragment t c =
    let v = c.args.variables.now in
    let i = c.in-InlineFragment.fragment in
    let r = c.check_inline_fragment.result in
    let old = c.args.reports.now.kept.items in
    let new = c.check_inline_fragment.new.reports.kept.items in
    subst (λ s. Checked v r (SelectionUses c.args.schema.now s) old new) (sym c.in-InlineFragment.is)
    (in_places v r (InlineFragmentUses c.args.schema.now i.value.value) (SelectionUses c.args.schema.now (kind.InlineFragment i)) old new
    (inline_words c.args.schema.now i)
    (subst (λ d. Checked v r (InlineFragmentUses c.args.schema.now d) old new) c.deref-in-InlineFragment.ensures c.check_inline_fragment.ensures))
