-- Readers of fields of objects and interfaces, and of the interfaces that they implement. That they answer by the
-- grammar is proved.
use Rattle.std.specs.Prelude.{ℕ, true, List, []}
use Rattle.graphql_nodes.specs.Names.{NameText}
use Rattle.graphql_tokens.specs.declared.token.TokenKind.TheVariants.{Ampersand, Colon}
use Rattle.graphql_trees.specs.declared.type_system.FieldDefinition.{FieldDefinition}
use Rattle.graphql_syntax.specs.declared.keywords.Keyword.TheVariants as keyword
use Rattle.graphql_syntax.specs.DirectiveReaders.{directives_at}
use Rattle.graphql_syntax.specs.Inputs.{is_keyword}
use Rattle.graphql_syntax.specs.Reading.{Reader, ◌>>=◌, answer, choose, starting, place, expect, expect_keyword, name_at}
use Rattle.graphql_syntax.specs.TypeReaders.{type_at}
use Rattle.graphql_type_system_syntax.specs.BodyReaders.{separated_at}
use Rattle.graphql_type_system_syntax.specs.InputValueReaders.{description_at, argument_definitions_at}

unfoldable pub field_definition_at : ℕ → Reader FieldDefinition
field_definition_at depth = starting (λ start. do
  description ← description_at
  name ← name_at
  arguments ← argument_definitions_at depth
  colon ← expect Colon
  type_reference ← type_at depth
  directives ← directives_at true depth
  span ← place start
  answer (record {
    description = description;
    name = name;
    arguments = arguments;
    type_reference = type_reference;
    directives = directives;
    span = span;
  }))

unfoldable pub interfaces_in : Reader (List NameText)
interfaces_in = do
  word ← expect_keyword keyword.Implements
  separated_at Ampersand name_at

-- none where `implements` does not come
unfoldable pub interfaces_at : Reader (List NameText)
interfaces_at = choose (is_keyword keyword.Implements) interfaces_in (answer [])
