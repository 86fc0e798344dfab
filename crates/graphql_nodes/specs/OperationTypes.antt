-- The kinds of operations. Specification: 2.3 Operations.
use Rattle.std.specs.Prelude.{ℕ, List, codes}
use Rattle.graphql_nodes.specs.declared.operation_types.OperationType.{OperationType}
use Rattle.graphql_nodes.specs.declared.operation_types.OperationType.TheVariants.{Query, Mutation, Subscription}

-- the keyword of an operation
abbrev pub operation_type_text : OperationType → List ℕ
operation_type_text Query = codes "query"
operation_type_text Mutation = codes "mutation"
operation_type_text Subscription = codes "subscription"
