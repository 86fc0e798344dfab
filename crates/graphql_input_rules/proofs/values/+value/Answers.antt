use Rattle.std.proofs.Common.{sym, subst}
use Rattle.graphql_nodes.specs.Names.{AreDistinct}
use Rattle.graphql_diagnostics.specs.Reports.{Reports}
use Rattle.graphql_diagnostics.proofs.ReportLemmas.{checks-err, holds, kept_wider}
use Rattle.graphql_input_rules.specs.InputFields.{FieldReport, RepetitionReport, entry_names}
use Rattle.graphql_input_rules.specs.ValuesWritten.{ValueWritten}
use Rattle.graphql_nodes.specs.Names.{NameText}
use Rattle.graphql_nodes.specs.declared.nodes.Node.{Node}
use Rattle.graphql_documents.specs.declared.documents.values.Value.{Value}
use Rattle.graphql_diagnostics.specs.Reports.{KeepsReports}
use Rattle.graphql_variables.proofs.FirstPlaceLemmas.{next_at, next_stands}
use Rattle.graphql_input_rules.proofs.PlaceLemmas.{Checked, Reported, place_refused, places_all, places_more}
use Rattle.graphql_input_rules.proofs.ValueLemmas.{InEntries, InItems, list_checked, no_object_value, object_checked, own_report}
use Rattle.graphql_input_rules.proofs.values.+value.Goals as goal

pub check_value-returns-in_err-check_names-in-Object :
    goal.check_value-returns-in_err-check_names-in-Object
check_value-returns-in_err-check_names-in-Object t c =
    let entries = c.in-Object.entries in
    checks-err c.from_residual.result _ _ c.args.reports.now.kept.items c.check_names.new.reports.kept.items c.from_residual.ensures.0
    (kept_wider (λ x q.
    subst (λ v. FieldReport (ValueWritten v) x) (sym c.in-Object.is)
    (own_report entries x (subst (λ l. RepetitionReport (entry_names l) x) c.deref-in-Object.ensures.value q)))
    c.in_err-check_names-in-Object.ensures)

pub check_value-returns-in-List : goal.check_value-returns-in-List
check_value-returns-in-List t c =
    let old = c.args.reports.now.kept.items in
    let new = c.check_items.new.reports.kept.items in
    subst (λ v. Checked c.check_items.result (ValueWritten v) old new) (sym c.in-List.is)
    (list_checked c.check_items.result c.in-List.items old new
    (subst (λ l. Checked c.check_items.result (InItems l) old new) c.deref.ensures.value c.check_items.ensures))

pub check_value-returns-in_ok-check_names-in-Object :
    goal.check_value-returns-in_ok-check_names-in-Object
check_value-returns-in_ok-check_names-in-Object t c =
    let old = c.args.reports.now.kept.items in
    let mid = c.check_names.new.reports.kept.items in
    let new = c.check_entries.new.reports.kept.items in
    subst (λ v. Checked c.check_entries.result (ValueWritten v) old new) (sym c.in-Object.is)
    (object_checked c.check_entries.result c.in-Object.entries old mid new
    (subst (λ l. Reports (AreDistinct (entry_names l)) (RepetitionReport (entry_names l)) old mid) c.deref-in-Object.ensures.value c.in_ok-check_names-in-Object.ensures)
    (subst (λ l. Checked c.check_entries.result (InEntries l) mid new) c.deref-in-Object-2.ensures.value c.check_entries.ensures))

pub check_value-returns-in_default : goal.check_value-returns-in_default
check_value-returns-in_default t c =
    holds _ _ _ (no_object_value c.args.value.now c.in_default.not-List c.in_default.not-Object)

-- in an entry, and in an item
abbrev InEntry : NameText × Node Value → Value → Type 0
InEntry e v = ValueWritten e.1.value.value v

abbrev InItem : Node Value → Value → Type 0
InItem i v = ValueWritten i.value.value v

pub check_entries-returns-in_err-check_value : goal.check_entries-returns-in_err-check_value
check_entries-returns-in_err-check_value t c =
    let xs = c.args.entries.now in
    let i = c.loop-entry.entry-index in
    let x = c.loop-entry-item.result in
    let mid = c.loop-entry.reports.kept.items in
    let new = c.check_value.new.reports.kept.items in
    place_refused InEntry xs c.from_residual.result _ x c.args.reports.now.kept.items mid new c.from_residual.ensures.0
    (next_stands (next_at xs i x c.loop-entry-test.true c.loop-entry-item.is)) c.loop-entry.invariant
    (subst (λ v. KeepsReports (FieldReport (ValueWritten v)) mid new) c.deref.ensures c.in_err-check_value.ensures)

pub check_entries-loop-entry-preserved : goal.check_entries-loop-entry-preserved
check_entries-loop-entry-preserved t c =
    let mid = c.loop-entry.reports.kept.items in
    let new = c.check_value.new.reports.kept.items in
    places_more InEntry c.args.entries.now c.loop-entry.entry-index c.loop-entry-item.result c.args.reports.now.kept.items mid new c.loop-entry-test.true c.loop-entry-item.is
    c.loop-entry.invariant (subst (λ v. Reported (ValueWritten v) mid new) c.deref.ensures c.in_ok-check_value.ensures)

pub check_entries-returns : goal.check_entries-returns
check_entries-returns t c =
    places_all InEntry c.args.entries.now c.loop-entry.entry-index c.args.reports.now.kept.items c.loop-entry.reports.kept.items c.loop-entry-test.false c.loop-entry.invariant

pub check_items-returns-in_err-check_value : goal.check_items-returns-in_err-check_value
check_items-returns-in_err-check_value t c =
    let xs = c.args.items.now in
    let i = c.loop-item.item-index in
    let x = c.item-item.result in
    let mid = c.loop-item.reports.kept.items in
    let new = c.check_value.new.reports.kept.items in
    place_refused InItem xs c.from_residual.result _ x c.args.reports.now.kept.items mid new c.from_residual.ensures.0
    (next_stands (next_at xs i x c.loop-item-test.true c.item-item.is)) c.loop-item.invariant
    (subst (λ v. KeepsReports (FieldReport (ValueWritten v)) mid new) c.deref.ensures c.in_err-check_value.ensures)

pub check_items-loop-item-preserved : goal.check_items-loop-item-preserved
check_items-loop-item-preserved t c =
    let mid = c.loop-item.reports.kept.items in
    let new = c.check_value.new.reports.kept.items in
    places_more InItem c.args.items.now c.loop-item.item-index c.item-item.result c.args.reports.now.kept.items mid new c.loop-item-test.true c.item-item.is
    c.loop-item.invariant (subst (λ v. Reported (ValueWritten v) mid new) c.deref.ensures c.in_ok-check_value.ensures)

pub check_items-returns : goal.check_items-returns
check_items-returns t c =
    places_all InItem c.args.items.now c.loop-item.item-index c.args.reports.now.kept.items c.loop-item.reports.kept.items c.loop-item-test.false c.loop-item.invariant
