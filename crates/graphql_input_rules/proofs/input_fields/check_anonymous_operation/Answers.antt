use Rattle.std.proofs.Common.{subst}
use Rattle.graphql_diagnostics.proofs.ReportLemmas.{holds}
use Rattle.graphql_input_rules.specs.ValuesWritten.{OperationWrites}
use Rattle.graphql_input_rules.proofs.DocumentLemmas.{no_operation, one_operation}
use Rattle.graphql_input_rules.proofs.PlaceLemmas.{Checked}
use Rattle.graphql_input_rules.proofs.input_fields.check_anonymous_operation.Goals as goal

pub returns-in-Some : goal.returns-in-Some
returns-in-Some c =
    let r = c.check_operation.result in
    let old = c.args.reports.now.kept.items in
    let new = c.check_operation.new.reports.kept.items in
    one_operation r c.args.operation.now c.in-Some.operation old new c.in-Some.is
    (subst (λ o. Checked r (OperationWrites o) old new) c.deref.ensures c.check_operation.ensures)

pub returns-in-None : goal.returns-in-None
returns-in-None c = holds _ _ _ (no_operation c.args.operation.now c.in-None.is)
