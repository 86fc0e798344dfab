use Rattle.graphql_operation_laws.proofs.OperationRuleLemmas.{rules_hold_alike}
use Rattle.graphql_operation_laws.proofs.operations.operation_holds_by_reached.Goals as goal

pub returns : goal.returns
returns c = rules_hold_alike
