use Rattle.std.proofs.Common.{◌∙◌, ap, subst, sym}
use Rattle.std.specs.Prelude.{◌⊎◌}
use mathlib.Core.Logic.{inl}
use Rattle.graphql_diagnostics.specs.Reports.{KeepsReports}
use Rattle.graphql_diagnostics.proofs.ReportLemmas.{kept_wider}
use Rattle.graphql_documents.specs.declared.documents.executables.FragmentSpread.{FragmentSpread}
use Rattle.graphql_documents.specs.declared.documents.executables.Selection.TheVariants as kind
use Rattle.graphql_documents.specs.declared.documents.values.Value.TheVariants as literal
use Rattle.graphql_variables.proofs.FirstPlaceLemmas.{next_at, next_stands}
use Rattle.graphql_input_rules.specs.InputFields.{FieldReport}
use Rattle.graphql_input_rules.specs.Selections.{FieldWrites, InlineFragmentWrites, SelectionWrites}
use Rattle.graphql_input_rules.specs.ValuesWritten.{InArguments, InDirectives, SetWrites}
use Rattle.graphql_input_rules.proofs.PlaceLemmas.{Among, Checked, Reported, first_refused, in_places, moved, place_refused, places_all, places_more, second_refused, then_checked}
use Rattle.graphql_input_rules.proofs.SelectionLemmas.{field_words, inline_words, set_checked, set_reported, spread_words}
use Rattle.graphql_input_rules.proofs.input_fields.+selection.Goals as goal

pub check_field-returns-in_err-check_arguments : goal.check_field-returns-in_err-check_arguments
check_field-returns-in_err-check_arguments t c =
    let f = c.args.field.now in
    let old = c.args.reports.now.kept.items in
    let new = c.check_arguments.new.reports.kept.items in
    first_refused c.from_residual.result (InArguments f.arguments.items) (λ v. InDirectives f.directives.items v ⊎ SetWrites f.selection_set v) old new
    c.from_residual.ensures.0 (subst (λ l. KeepsReports (FieldReport (InArguments l)) old new) c.deref.ensures.value c.in_err-check_arguments.ensures)

pub check_field-returns-in_err-check_directives : goal.check_field-returns-in_err-check_directives
check_field-returns-in_err-check_directives t c =
    let f = c.args.field.now in
    let old = c.args.reports.now.kept.items in
    let mid = c.check_arguments.new.reports.kept.items in
    let new = c.check_directives.new.reports.kept.items in
    second_refused c.from_residual-in_err-check_directives.result (InArguments f.arguments.items)
    (λ v. InDirectives f.directives.items v ⊎ SetWrites f.selection_set v) old mid new c.from_residual-in_err-check_directives.ensures.0
    (subst (λ l. Reported (InArguments l) old mid) c.deref.ensures.value c.in_ok-check_arguments.ensures)
    (kept_wider (moved (λ v p. inl p))
    (subst (λ l. KeepsReports (FieldReport (InDirectives l)) mid new) c.deref-2.ensures.value c.in_err-check_directives.ensures))

pub check_field-returns : goal.check_field-returns
check_field-returns t c =
    let f = c.args.field.now in
    let r = c.check_selection_set.result in
    let old = c.args.reports.now.kept.items in
    let first = c.check_arguments.new.reports.kept.items in
    let second = c.check_directives.new.reports.kept.items in
    let new = c.check_selection_set.new.reports.kept.items in
    then_checked r (InArguments f.arguments.items) (λ v. InDirectives f.directives.items v ⊎ SetWrites f.selection_set v) old first new
    (subst (λ l. Reported (InArguments l) old first) c.deref.ensures.value c.in_ok-check_arguments.ensures)
    (then_checked r (InDirectives f.directives.items) (SetWrites f.selection_set) first second new
    (subst (λ l. Reported (InDirectives l) first second) c.deref-2.ensures.value c.in_ok-check_directives.ensures) c.check_selection_set.ensures)

pub check_inline_fragment-returns-in_err-check_directives :
    goal.check_inline_fragment-returns-in_err-check_directives
check_inline_fragment-returns-in_err-check_directives t c =
    let f = c.args.fragment.now in
    let old = c.args.reports.now.kept.items in
    let new = c.check_directives.new.reports.kept.items in
    first_refused c.from_residual.result (InDirectives f.directives.items) (SetWrites f.selection_set) old new
    c.from_residual.ensures.0 (subst (λ l. KeepsReports (FieldReport (InDirectives l)) old new) c.deref.ensures.value c.in_err-check_directives.ensures)

pub check_inline_fragment-returns : goal.check_inline_fragment-returns
check_inline_fragment-returns t c =
    let f = c.args.fragment.now in
    let old = c.args.reports.now.kept.items in
    let mid = c.check_directives.new.reports.kept.items in
    then_checked c.check_selection_set.result (InDirectives f.directives.items) (SetWrites f.selection_set) old mid c.check_selection_set.new.reports.kept.items
    (subst (λ l. Reported (InDirectives l) old mid) c.deref.ensures.value c.in_ok-check_directives.ensures) c.check_selection_set.ensures

pub check_selection_set-returns-in_err-check_selection : goal.check_selection_set-returns-in_err-check_selection
check_selection_set-returns-in_err-check_selection t c =
    let set = c.args.set.now in
    let xs = c.deref-selection-items.result.now in
    let i = c.loop-selection.selection-index in
    let x = c.selection-item.result in
    let r = c.from_residual.result in
    let old = c.args.reports.now.kept.items in
    let mid = c.loop-selection.reports.kept.items in
    let new = c.check_selection.new.reports.kept.items in
    set_checked r set old new
    (subst (λ l. Checked r (Among SelectionWrites l) old new) c.deref-selection-items.ensures.value
    (place_refused SelectionWrites xs r _ x old mid new c.from_residual.ensures.0
    (next_stands (next_at xs i x c.loop-selection-test.true c.selection-item.is)) c.loop-selection.invariant c.in_err-check_selection.ensures))

pub check_selection_set-loop-selection-preserved : goal.check_selection_set-loop-selection-preserved
check_selection_set-loop-selection-preserved t c =
    let xs = c.deref-selection-items.result.now in
    places_more SelectionWrites xs c.loop-selection.selection-index c.selection-item.result c.args.reports.now.kept.items c.loop-selection.reports.kept.items
    c.check_selection.new.reports.kept.items c.loop-selection-test.true c.selection-item.is c.loop-selection.invariant c.in_ok-check_selection.ensures

pub check_selection_set-returns : goal.check_selection_set-returns
check_selection_set-returns t c =
    let xs = c.deref-selection-items.result.now in
    let old = c.args.reports.now.kept.items in
    let new = c.loop-selection.reports.kept.items in
    set_reported c.args.set.now old new
    (subst (λ l. Reported (Among SelectionWrites l) old new) c.deref-selection-items.ensures.value
    (places_all SelectionWrites xs c.loop-selection.selection-index old new c.loop-selection-test.false c.loop-selection.invariant))

pub check_selection-returns-in-Field : goal.check_selection-returns-in-Field
check_selection-returns-in-Field t c =
    let f = c.in-Field.field in
    let r = c.check_field.result in
    let old = c.args.reports.now.kept.items in
    let new = c.check_field.new.reports.kept.items in
    subst (λ s. Checked r (SelectionWrites s) old new) (sym c.in-Field.is)
    (in_places r (FieldWrites f.value.value) (SelectionWrites (kind.Field f)) old new (λ v w. (field_words f v).0 w) (λ e w. (field_words f (literal.Object e)).1 w)
    (subst (λ d. Checked r (FieldWrites d) old new) c.deref.ensures c.check_field.ensures))

pub check_selection-returns-in-FragmentSpread : goal.check_selection-returns-in-FragmentSpread
check_selection-returns-in-FragmentSpread t c =
    let p = c.in-FragmentSpread.spread in
    let r = c.check_directives.result in
    let old = c.args.reports.now.kept.items in
    let new = c.check_directives.new.reports.kept.items in
    subst (λ s. Checked r (SelectionWrites s) old new) (sym c.in-FragmentSpread.is)
    (in_places r (InDirectives p.value.value.directives.items) (SelectionWrites (kind.FragmentSpread p)) old new
    (λ v w. (spread_words p v).0 w) (λ e w. (spread_words p (literal.Object e)).1 w)
    (subst (λ l. Checked r (InDirectives l) old new)
    (c.deref-in-FragmentSpread-2.ensures.value ∙ ap (λ (p : FragmentSpread). p.directives.items) c.deref-in-FragmentSpread.ensures) c.check_directives.ensures))

pub check_selection-returns-in-InlineFragment : goal.check_selection-returns-in-InlineFragment
check_selection-returns-in-InlineFragment t c =
    let i = c.in-InlineFragment.fragment in
    let r = c.check_inline_fragment.result in
    let old = c.args.reports.now.kept.items in
    let new = c.check_inline_fragment.new.reports.kept.items in
    subst (λ s. Checked r (SelectionWrites s) old new) (sym c.in-InlineFragment.is)
    (in_places r (InlineFragmentWrites i.value.value) (SelectionWrites (kind.InlineFragment i)) old new
    (λ v w. (inline_words i v).0 w) (λ e w. (inline_words i (literal.Object e)).1 w)
    (subst (λ d. Checked r (InlineFragmentWrites d) old new) c.deref-in-InlineFragment.ensures c.check_inline_fragment.ensures))
