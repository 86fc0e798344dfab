use Rattle.graphql_diagnostics.specs.Diagnostics.{IsLimitEntry}
use Rattle.graphql_documents.specs.Selections.{fragments_of}
use Rattle.graphql_diagnostics.proofs.ReportWithinLemmas.{checks_words_within}
use Rattle.graphql_operations.proofs.OperationDeferLemmas.{answered, no_query, root_rule_where, root_said}
use Rattle.graphql_operations.proofs.defer.roots.check_root.Goals as goal

pub returns-in-Mutation : goal.returns-in-Mutation
returns-in-Mutation c =
    let fragments = fragments_of c.args.document.now in
    let o = c.args.operation.now in
    let other = no_query o.operation_type c.in-Mutation.is in
    checks_words_within IsLimitEntry c.check.result _ _ _ _ _ _
    (answered c.check.result (root_rule_where fragments o.selection_set o.operation_type other))
    (λ e. root_said fragments o e other) c.check.ensures
