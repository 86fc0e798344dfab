use Rattle.std.proofs.Common.{subst}
use Rattle.graphql_diagnostics.proofs.ReportLemmas.{holds}
use Rattle.graphql_input_rules.specs.ValuesWritten.{ValueWritten}
use Rattle.graphql_input_rules.proofs.DocumentLemmas.{default_checked, no_default}
use Rattle.graphql_input_rules.proofs.PlaceLemmas.{Checked}
use Rattle.graphql_input_rules.proofs.values.check_default_value.Goals as goal

pub returns-in-Some : goal.returns-in-Some
returns-in-Some c =
    let r = c.check_value.result in
    let old = c.args.reports.now.kept.items in
    let new = c.check_value.new.reports.kept.items in
    default_checked r c.args.default_value.now c.in-Some.value old new c.in-Some.is
    (subst (λ v. Checked r (ValueWritten v) old new) c.deref.ensures c.check_value.ensures)

pub returns-in-None : goal.returns-in-None
returns-in-None c = holds _ _ _ (no_default c.args.default_value.now c.in-None.is)
