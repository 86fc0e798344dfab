use Rattle.std.specs.Prelude.{option_to_list}
use Rattle.indexmap.specs.IndexMap.{values}
use Rattle.graphql_nodes.specs.declared.nodes.Node.{Node}
use Rattle.graphql_documents.specs.declared.documents.executables.Operation.{Operation}
use Rattle.graphql_documents.specs.declared.documents.values.Value.{Value}
use Rattle.graphql_input_rules.specs.ValuesWritten.{OperationWrites}
use Rattle.graphql_input_rules.proofs.PlaceLemmas.{Among, first_refused, then_checked}
use Rattle.graphql_input_rules.proofs.input_fields.check_operations.Goals as goal

abbrev In : Node Operation → Value → Type 0
In x v = OperationWrites x.value.value v

pub returns-in_err-check_anonymous_operation : goal.returns-in_err-check_anonymous_operation
returns-in_err-check_anonymous_operation c =
    let o = c.args.operations.now in
    first_refused c.from_residual.result (Among In (option_to_list o.anonymous)) (Among In (values o.named)) c.args.reports.now.kept.items
    c.check_anonymous_operation.new.reports.kept.items c.from_residual.ensures.0 c.in_err-check_anonymous_operation.ensures

pub returns : goal.returns
returns c =
    let o = c.args.operations.now in
    then_checked c.check_named_operations.result (Among In (option_to_list o.anonymous)) (Among In (values o.named)) c.args.reports.now.kept.items
    c.check_anonymous_operation.new.reports.kept.items c.check_named_operations.new.reports.kept.items c.in_ok-check_anonymous_operation.ensures c.check_named_operations.ensures
