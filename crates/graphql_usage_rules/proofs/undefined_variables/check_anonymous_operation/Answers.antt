use Rattle.std.proofs.Common.{subst}
use Rattle.graphql_documents.specs.Selections.{fragments_of}
use Rattle.graphql_usage_rules.specs.UndefinedVariables.{OperationUndefinedReport, UsedVariablesAreDefined}
use Rattle.graphql_usage_rules.proofs.DocumentLemmas.{CheckedOne, no_operation, one_operation}
use Rattle.graphql_usage_rules.proofs.undefined_variables.check_anonymous_operation.Goals as goal

pub returns-in-Some : goal.returns-in-Some
returns-in-Some c =
    let d = c.args.document.now in
    let r = c.check_operation.result in
    let old = c.args.reports.now.kept.items in
    let new = c.check_operation.new.reports.kept.items in
    one_operation (UsedVariablesAreDefined (fragments_of d)) (OperationUndefinedReport (fragments_of d)) r d.operations.anonymous c.in-Some.operation old new c.in-Some.is
    (subst (λ o. CheckedOne (UsedVariablesAreDefined (fragments_of d)) (OperationUndefinedReport (fragments_of d)) r o old new) c.deref.ensures c.check_operation.ensures)

pub returns-in-None : goal.returns-in-None
returns-in-None c =
    let d = c.args.document.now in
    no_operation (UsedVariablesAreDefined (fragments_of d)) (OperationUndefinedReport (fragments_of d)) c.args.document.now.operations.anonymous c.args.reports.now.kept.items c.in-None.is
