-- The root types that an iterator still gives. Specification: 3.3.1 Root Operation Types.
use Rattle.std.specs.Prelude.{List, ◌++◌}
use Rattle.std.specs.Option.{option_copied}
use Rattle.graphql_documents.specs.Schemas.{rooted}
use Rattle.graphql_documents.specs.declared.documents.components.ComponentName.{ComponentName}
use Rattle.graphql_nodes.specs.declared.operation_types.OperationType.{OperationType}
use Rattle.graphql_nodes.specs.declared.operation_types.OperationType.TheVariants.{Query, Mutation, Subscription}
use Rattle.graphql_documents.specs.declared.documents.root_operations.RootOperations.{RootOperations}

-- those that were not given yet, in order
abbrev pub roots_left : RootOperations → List (OperationType × ComponentName)
roots_left left =
    rooted Query (option_copied left.query) ++ (rooted Mutation (option_copied left.mutation) ++ rooted Subscription (option_copied left.subscription))
