use Rattle.graphql_diagnostics.specs.Diagnostics.{IsLimitEntry}
use Rattle.graphql_documents.specs.Selections.{fragments_of}
use Rattle.graphql_diagnostics.proofs.ReportWithinLemmas.{checks_words_within}
use Rattle.graphql_operations.proofs.OperationDeferLemmas.{answered, condition_rule_where, condition_said}
use Rattle.graphql_operations.proofs.defer.conditions.check_conditions.Goals as goal

pub returns-in-Subscription : goal.returns-in-Subscription
returns-in-Subscription c =
    let fragments = fragments_of c.args.document.now in
    let o = c.args.operation.now in
    checks_words_within IsLimitEntry c.check.result _ _ _ _ _ _
    (answered c.check.result (condition_rule_where fragments o.selection_set o.operation_type c.in-Subscription.is))
    (λ e. condition_said fragments o e c.in-Subscription.is) c.check.ensures
