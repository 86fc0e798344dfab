-- Readers of the definition of a schema, and of its extensions. That they answer by the grammar is proved.
use Rattle.std.specs.Prelude.{ℕ, true, ◌||◌, Option, None}
use Rattle.graphql_tokens.specs.declared.token.TokenKind.TheVariants.{Colon}
use Rattle.graphql_trees.specs.declared.type_system.RootOperationTypeDefinition.{RootOperationTypeDefinition}
use Rattle.graphql_trees.specs.declared.type_system.SchemaDefinition.{SchemaDefinition}
use Rattle.graphql_trees.specs.declared.type_system.Description.{Description}
use Rattle.graphql_syntax.specs.declared.keywords.Keyword.TheVariants as keyword
use Rattle.graphql_syntax.specs.DirectiveReaders.{directives_at}
use Rattle.graphql_syntax.specs.OperationTypeReaders.{operation_type_at}
use Rattle.graphql_syntax.specs.Reading.{Reader, ◌>>=◌, answer, starting, place, expect, expect_keyword, name_at}
use Rattle.graphql_type_system_syntax.specs.BodyReaders.{in_braces_at, perhaps_in_braces_at, is_filled, with_part}

unfoldable pub root_operation_at : ℕ → Reader RootOperationTypeDefinition
root_operation_at depth = starting (λ start. do
  operation_type ← operation_type_at
  colon ← expect Colon
  name ← name_at
  span ← place start
  answer (record { operation_type = operation_type; name = name; span = span }))

-- behind the description
unfoldable pub schema_behind : ℕ → ℕ → Option Description → Reader SchemaDefinition
schema_behind depth start description = do
  word ← expect_keyword keyword.Schema
  directives ← directives_at true depth
  root_operations ← in_braces_at root_operation_at depth
  span ← place start
  answer (record { description = description; directives = directives; root_operations = root_operations; span = span })

-- behind `extend`
unfoldable pub schema_added : ℕ → ℕ → Reader SchemaDefinition
schema_added depth start = do
  word ← expect_keyword keyword.Schema
  directives ← directives_at true depth
  root_operations ← perhaps_in_braces_at root_operation_at depth
  span ← place start
  with_part (is_filled directives || is_filled root_operations)
      (record { description = None; directives = directives; root_operations = root_operations; span = span })
