use Rattle.std.proofs.Common.{sym}
use Rattle.graphql_diagnostics.proofs.ReportLemmas.{checks-push, holds}
use Rattle.graphql_operations.proofs.SubscriptionLemmas.{conditional, unconditional}
use Rattle.graphql_document_rules.proofs.RootLemmas.{says_condition}
use Rattle.graphql_document_rules.proofs.subscriptions.check_condition.Goals as goal

pub returns-in_default : goal.returns-in_default
returns-in_default c = λ schema fragments is_one inside. holds _ _ _ (unconditional c.args.selection.now (sym c.in_default.ensures))

pub returns : goal.returns
returns c = λ schema fragments is_one inside.
    checks-push _ _ _ _ _ _ c.push.ensures.ok c.push.ensures.err (conditional c.args.selection.now c.in-Some.condition.now (sym c.in-Some.ensures))
    (says_condition schema fragments c.args.operation.now c.args.selection.now is_one inside c.in-Some.condition.now c.in_ok-name.name (sym c.in-Some.ensures) c.in_ok-name.ensures)
