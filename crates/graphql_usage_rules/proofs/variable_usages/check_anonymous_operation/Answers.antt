use Rattle.std.proofs.Common.{subst}
use Rattle.graphql_usage_rules.specs.VariableMisuses.{OperationMisuseReport, OperationUsagesAreAllowed}
use Rattle.graphql_usage_rules.proofs.DocumentLemmas.{CheckedOne, no_operation, one_operation}
use Rattle.graphql_usage_rules.proofs.variable_usages.check_anonymous_operation.Goals as goal

pub returns-in-Some : goal.returns-in-Some
returns-in-Some c =
    let s = c.args.schema.now in
    let d = c.args.document.now in
    let r = c.check_operation.result in
    let old = c.args.reports.now.kept.items in
    let new = c.check_operation.new.reports.kept.items in
    one_operation (OperationUsagesAreAllowed s d) (OperationMisuseReport s d) r d.operations.anonymous c.in-Some.operation old new c.in-Some.is
    (subst (λ o. CheckedOne (OperationUsagesAreAllowed s d) (OperationMisuseReport s d) r o old new) c.deref.ensures c.check_operation.ensures)

pub returns-in-None : goal.returns-in-None
returns-in-None c =
    let s = c.args.schema.now in
    let d = c.args.document.now in
    no_operation (OperationUsagesAreAllowed s d) (OperationMisuseReport s d) c.args.document.now.operations.anonymous c.args.reports.now.kept.items c.in-None.is
