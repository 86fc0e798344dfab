-- Readers of definitions and extensions of the type system. That they answer by the grammar is proved.
use Rattle.std.specs.Prelude.{ℕ, ◌||◌, Option}
use Rattle.graphql_trees.specs.declared.documents.Definition.{Definition}
use Rattle.graphql_trees.specs.declared.documents.Definition.TheVariants as tree
use Rattle.graphql_trees.specs.declared.type_system.Description.{Description}
use Rattle.graphql_syntax.specs.declared.keywords.Keyword.TheVariants as keyword
use Rattle.graphql_syntax.specs.Inputs.{TokenTest, is_keyword, is_string}
use Rattle.graphql_syntax.specs.Reading.{Reader, ◌>>=◌, answer, choose, starting, expect_keyword}
use Rattle.graphql_type_system_syntax.specs.DirectiveDefinitionReaders.{directive_behind}
use Rattle.graphql_type_system_syntax.specs.InputValueReaders.{description_at}
use Rattle.graphql_type_system_syntax.specs.SchemaReaders.{schema_added, schema_behind}
use Rattle.graphql_type_system_syntax.specs.TypeDefinitionReaders.{type_definition_behind}
use Rattle.graphql_type_system_syntax.specs.TypeExtensionReaders.{type_extension_behind}

-- a keyword with which the definition of a type begins
abbrev pub begins_type_definition : TokenTest
begins_type_definition source t =
    (is_keyword keyword.Scalar source t || (is_keyword keyword.«Type» source t || is_keyword keyword.Interface source t))
    || (is_keyword keyword.Union source t || (is_keyword keyword.Enum source t || is_keyword keyword.Input source t))

-- a token with which a definition of the type system begins: a string, or one of eight keywords
abbrev pub begins_type_system_definition : TokenTest
begins_type_system_definition source t =
    is_string source t
    || ((is_keyword keyword.Schema source t || is_keyword keyword.Directive source t) || begins_type_definition source t)

-- behind the description, by the keyword
unfoldable pub definition_behind : ℕ → ℕ → Option Description → Reader Definition
definition_behind depth start description =
    choose (is_keyword keyword.Schema) (schema_behind depth start description >>= λ x. answer (tree.Schema x))
    (choose (is_keyword keyword.Directive) (directive_behind depth start description >>= λ x. answer (tree.Directive x))
    (type_definition_behind depth start description >>= λ x. answer (tree.«Type» x)))

unfoldable pub type_system_definition_at : ℕ → Reader Definition
type_system_definition_at depth = starting (λ start. do
  description ← description_at
  definition_behind depth start description)

-- behind `extend`, by the keyword
unfoldable pub extension_behind : ℕ → ℕ → Reader Definition
extension_behind depth start =
    choose (is_keyword keyword.Schema) (schema_added depth start >>= λ x. answer (tree.SchemaExtension x))
    (type_extension_behind depth start >>= λ x. answer (tree.TypeExtension x))

unfoldable pub extension_at : ℕ → Reader Definition
extension_at depth = starting (λ start. do
  extend ← expect_keyword keyword.Extend
  extension_behind depth start)
