use Rattle.std.specs.Prelude.{option_to_list}
use Rattle.indexmap.specs.IndexMap.{values}
use Rattle.graphql_usage_rules.specs.VariableMisuses.{OperationMisuseReport, OperationUsagesAreAllowed}
use Rattle.graphql_usage_rules.proofs.DocumentLemmas.{both_checked, first_refused}
use Rattle.graphql_usage_rules.proofs.variable_usages.check_variable_usages.Goals as goal

pub returns-in_err-check_anonymous_operation : goal.returns-in_err-check_anonymous_operation
returns-in_err-check_anonymous_operation c =
    let d = c.args.document.now in
    first_refused (OperationUsagesAreAllowed c.args.schema.now d) (OperationMisuseReport c.args.schema.now d) c.from_residual.result (option_to_list d.operations.anonymous) (values d.operations.named) c.args.reports.now.kept.items
    c.check_anonymous_operation.new.reports.kept.items c.from_residual.ensures.0 c.in_err-check_anonymous_operation.ensures

pub returns : goal.returns
returns c =
    let d = c.args.document.now in
    both_checked (OperationUsagesAreAllowed c.args.schema.now d) (OperationMisuseReport c.args.schema.now d) c.check_named_operations.result (option_to_list d.operations.anonymous) (values d.operations.named) c.args.reports.now.kept.items
    c.check_anonymous_operation.new.reports.kept.items c.check_named_operations.new.reports.kept.items c.in_ok-check_anonymous_operation.ensures c.check_named_operations.ensures
