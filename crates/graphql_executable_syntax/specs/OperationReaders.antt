-- Readers of operations. That they answer by the grammar is proved.
use Rattle.std.specs.Prelude.{ℕ, true, false, List, [], Option, None, Some}
use Rattle.graphql_nodes.specs.Names.{NameText}
use Rattle.graphql_tokens.specs.declared.token.TokenKind.TheVariants.{Name, Colon, LeftBrace, LeftParenthesis, RightParenthesis}
use Rattle.graphql_trees.specs.declared.executable.OperationDefinition.{OperationDefinition}
use Rattle.graphql_nodes.specs.declared.operation_types.OperationType.TheVariants as tree
use Rattle.graphql_trees.specs.declared.executable.VariableDefinition.{VariableDefinition}
use Rattle.graphql_syntax.specs.declared.production.More.TheVariants.{Until}
use Rattle.graphql_syntax.specs.Inputs.{is_kind}
use Rattle.graphql_syntax.specs.Reading.{Reader, ◌>>=◌, answer, choose, starting, place, expect, name_at, more_test, some_of}
use Rattle.graphql_syntax.specs.DefaultValueReaders.{default_value_at}
use Rattle.graphql_syntax.specs.DirectiveReaders.{directives_at}
use Rattle.graphql_syntax.specs.OperationTypeReaders.{operation_type_at}
use Rattle.graphql_syntax.specs.TypeReaders.{type_at}
use Rattle.graphql_syntax.specs.ValueReaders.{variable_at}
use Rattle.graphql_executable_syntax.specs.SelectionReaders.{selection_set_at}

-- its values and directives are constant
unfoldable pub variable_definition_at : ℕ → Reader VariableDefinition
variable_definition_at depth = starting (λ start. do
  variable ← variable_at
  colon ← expect Colon
  type_reference ← type_at depth
  default_value ← default_value_at depth
  directives ← directives_at true depth
  span ← place start
  answer (record {
    variable = variable;
    type_reference = type_reference;
    default_value = default_value;
    directives = directives;
    span = span;
  }))

unfoldable pub variable_definitions_in : ℕ → Reader (List VariableDefinition)
variable_definitions_in depth = do
  opening ← expect LeftParenthesis
  found ← some_of (more_test (Until RightParenthesis)) (variable_definition_at depth)
  closing ← expect RightParenthesis
  answer found

-- none where no parenthesis opens
unfoldable pub variable_definitions_at : ℕ → Reader (List VariableDefinition)
variable_definitions_at depth = choose (is_kind LeftParenthesis) (variable_definitions_in depth) (answer [])

-- a name where one comes
unfoldable pub operation_name_at : Reader (Option NameText)
operation_name_at = choose (is_kind Name) (name_at >>= λ name. answer (Some name)) (answer None)

unfoldable pub shorthand_at : ℕ → Reader OperationDefinition
shorthand_at depth = starting (λ start. do
  selection_set ← selection_set_at depth
  span ← place start
  answer (record {
    operation_type = tree.Query;
    name = None;
    variables = [];
    directives = [];
    selection_set = selection_set;
    span = span;
  }))

unfoldable pub full_operation_at : ℕ → Reader OperationDefinition
full_operation_at depth = starting (λ start. do
  operation_type ← operation_type_at
  name ← operation_name_at
  variables ← variable_definitions_at depth
  directives ← directives_at false depth
  selection_set ← selection_set_at depth
  span ← place start
  answer (record {
    operation_type = operation_type;
    name = name;
    variables = variables;
    directives = directives;
    selection_set = selection_set;
    span = span;
  }))

unfoldable pub operation_definition_at : ℕ → Reader OperationDefinition
operation_definition_at depth = choose (is_kind LeftBrace) (shorthand_at depth) (full_operation_at depth)
