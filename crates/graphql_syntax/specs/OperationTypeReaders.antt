-- The reader of the kind of an operation. That it answers by the grammar is proved.
use Rattle.graphql_nodes.specs.declared.operation_types.OperationType.{OperationType}
use Rattle.graphql_nodes.specs.declared.operation_types.OperationType.TheVariants as tree
use Rattle.graphql_syntax.specs.declared.keywords.Keyword.{Keyword}
use Rattle.graphql_syntax.specs.declared.keywords.Keyword.TheVariants as keyword
use Rattle.graphql_syntax.specs.declared.refusals.Expected.TheVariants as expected
use Rattle.graphql_syntax.specs.Inputs.{is_keyword}
use Rattle.graphql_syntax.specs.Reading.{Reader, ◌>>=◌, answer, refuse, choose, expect_keyword}

-- one keyword, which stands for a kind of operation
abbrev pub operation_type_as : Keyword → OperationType → Reader OperationType
operation_type_as word operation_type = expect_keyword word >>= λ found. answer operation_type

unfoldable pub operation_type_at : Reader OperationType
operation_type_at =
    choose (is_keyword keyword.Query) (operation_type_as keyword.Query tree.Query)
    (choose (is_keyword keyword.Mutation) (operation_type_as keyword.Mutation tree.Mutation)
    (choose (is_keyword keyword.Subscription) (operation_type_as keyword.Subscription tree.Subscription) (refuse expected.OperationType)))
