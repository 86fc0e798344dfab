-- Readers of descriptions, and of definitions of arguments and of fields of input objects. That they answer by the
-- grammar is proved.
use Rattle.std.specs.Prelude.{ℕ, true, List, [], Option, None, Some}
use Rattle.graphql_tokens.specs.declared.token.TokenKind.TheVariants.{Colon, LeftParenthesis, RightParenthesis, StringValue}
use Rattle.graphql_trees.specs.declared.type_system.InputValueDefinition.{InputValueDefinition}
use Rattle.graphql_trees.specs.declared.type_system.Description.{Description}
use Rattle.graphql_syntax.specs.declared.production.More.TheVariants.{Until}
use Rattle.graphql_syntax.specs.declared.refusals.Expected.TheVariants as expected
use Rattle.graphql_syntax.specs.DefaultValueReaders.{default_value_at}
use Rattle.graphql_syntax.specs.DirectiveReaders.{directives_at}
use Rattle.graphql_syntax.specs.Inputs.{is_kind, is_string}
use Rattle.graphql_syntax.specs.Reading.{Reader, ◌>>=◌, answer, choose, starting, place, take_one, expect, name_at, more_test, some_of}
use Rattle.graphql_syntax.specs.TypeReaders.{type_at}

-- the place of a string
unfoldable pub described_at : Reader (Option Description)
described_at = starting (λ start. do
  string ← take_one is_string (expected.Token StringValue)
  span ← place start
  answer (Some (record { span = span })))

-- none where no string comes
unfoldable pub description_at : Reader (Option Description)
description_at = choose is_string described_at (answer None)

unfoldable pub input_value_definition_at : ℕ → Reader InputValueDefinition
input_value_definition_at depth = starting (λ start. do
  description ← description_at
  name ← name_at
  colon ← expect Colon
  type_reference ← type_at depth
  default_value ← default_value_at depth
  directives ← directives_at true depth
  span ← place start
  answer (record {
    description = description;
    name = name;
    type_reference = type_reference;
    default_value = default_value;
    directives = directives;
    span = span;
  }))

unfoldable pub argument_definitions_in : ℕ → Reader (List InputValueDefinition)
argument_definitions_in depth = do
  opening ← expect LeftParenthesis
  found ← some_of (more_test (Until RightParenthesis)) (input_value_definition_at depth)
  closing ← expect RightParenthesis
  answer found

-- none where no parenthesis opens
unfoldable pub argument_definitions_at : ℕ → Reader (List InputValueDefinition)
argument_definitions_at depth = choose (is_kind LeftParenthesis) (argument_definitions_in depth) (answer [])
