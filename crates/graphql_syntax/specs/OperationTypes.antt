-- The kinds of operation. Specification: 2.3 Operations, and Appendix B.3 Document Syntax.
use Rattle.std.specs.Prelude.{◌||◌}
use Rattle.graphql_nodes.specs.declared.operation_types.OperationType.{OperationType}
use Rattle.graphql_nodes.specs.declared.operation_types.OperationType.TheVariants as tree
use Rattle.graphql_syntax.specs.declared.keywords.Keyword.TheVariants as keyword
use Rattle.graphql_syntax.specs.Inputs.{Input, TokenTest, is_keyword, TakesKeyword}

-- OperationType : one of `query` `mutation` `subscription`
pub data IsOperationType : Input → OperationType → Input → Type 0 where
  query : (i j : Input) → TakesKeyword keyword.Query i j → IsOperationType i tree.Query j
  mutation : (i j : Input) → TakesKeyword keyword.Mutation i j → IsOperationType i tree.Mutation j
  subscription : (i j : Input) → TakesKeyword keyword.Subscription i j → IsOperationType i tree.Subscription j

-- a token that is one of the three
abbrev pub is_operation_type : TokenTest
is_operation_type source t =
    is_keyword keyword.Query source t || (is_keyword keyword.Mutation source t || is_keyword keyword.Subscription source t)
