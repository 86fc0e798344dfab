use Rattle.std.proofs.Common.{rules, ◌≡◌, Contains, subst, sym}
use Rattle.graphql_diagnostics.proofs.ReportLemmas.{kept_then, kept_wider}
use Rattle.graphql_diagnostics.specs.declared.lists.DiagnosticEntry.{DiagnosticEntry}
use Rattle.graphql_kept_reports.proofs.certain.add_certain.Goals as goal

pub loop-entry-preserved : goal.loop-entry-preserved
loop-entry-preserved c =
    let stands : Contains c.args.reports.now c.entry-item.result = search rules in
    let among : (e : DiagnosticEntry) → e ≡ c.entry-item.result → Contains c.args.reports.now e = λ e is. subst (Contains c.args.reports.now) (sym is) stands in
    kept_then c.loop-entry.invariant (kept_wider among c.in_ok-add_entry.ensures)
