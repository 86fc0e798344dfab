-- Readers of definitions of types, behind their descriptions. That they answer by the grammar is proved.
use Rattle.std.specs.Prelude.{ℕ, true, List, [], Option}
use Rattle.graphql_nodes.specs.Names.{NameText}
use Rattle.graphql_tokens.specs.declared.token.TokenKind.TheVariants.{Equals, VerticalBar}
use Rattle.graphql_trees.specs.declared.type_system.EnumTypeDefinition.{EnumTypeDefinition}
use Rattle.graphql_trees.specs.declared.type_system.EnumValueDefinition.{EnumValueDefinition}
use Rattle.graphql_trees.specs.declared.type_system.InputObjectTypeDefinition.{InputObjectTypeDefinition}
use Rattle.graphql_trees.specs.declared.type_system.InterfaceTypeDefinition.{InterfaceTypeDefinition}
use Rattle.graphql_trees.specs.declared.type_system.ObjectTypeDefinition.{ObjectTypeDefinition}
use Rattle.graphql_trees.specs.declared.type_system.ScalarTypeDefinition.{ScalarTypeDefinition}
use Rattle.graphql_trees.specs.declared.type_system.TypeDefinition.{TypeDefinition}
use Rattle.graphql_trees.specs.declared.type_system.TypeDefinition.TheVariants as tree
use Rattle.graphql_trees.specs.declared.type_system.UnionTypeDefinition.{UnionTypeDefinition}
use Rattle.graphql_trees.specs.declared.type_system.Description.{Description}
use Rattle.graphql_syntax.specs.declared.keywords.Keyword.TheVariants as keyword
use Rattle.graphql_syntax.specs.declared.refusals.Expected.TheVariants as expected
use Rattle.graphql_syntax.specs.DirectiveReaders.{directives_at}
use Rattle.graphql_syntax.specs.Inputs.{is_kind, is_keyword}
use Rattle.graphql_syntax.specs.Reading.{Reader, ◌>>=◌, answer, refuse, choose, starting, place, expect, expect_keyword, name_at}
use Rattle.graphql_type_system_syntax.specs.BodyReaders.{perhaps_in_braces_at, separated_at}
use Rattle.graphql_type_system_syntax.specs.FieldReaders.{field_definition_at, interfaces_at}
use Rattle.graphql_type_system_syntax.specs.InputValueReaders.{description_at, input_value_definition_at}

unfoldable pub members_in : Reader (List NameText)
members_in = do
  equals ← expect Equals
  separated_at VerticalBar name_at

-- none where no `=` comes
unfoldable pub members_at : Reader (List NameText)
members_at = choose (is_kind Equals) members_in (answer [])

-- a name, but not `true`, `false` or `null`
unfoldable pub enum_value_name_at : Reader NameText
enum_value_name_at =
    choose (is_keyword keyword.True) (refuse expected.EnumValue)
    (choose (is_keyword keyword.False) (refuse expected.EnumValue)
    (choose (is_keyword keyword.Null) (refuse expected.EnumValue) name_at))

unfoldable pub enum_value_definition_at : ℕ → Reader EnumValueDefinition
enum_value_definition_at depth = starting (λ start. do
  description ← description_at
  name ← enum_value_name_at
  directives ← directives_at true depth
  span ← place start
  answer (record { description = description; name = name; directives = directives; span = span }))

unfoldable pub scalar_behind : ℕ → ℕ → Option Description → Reader ScalarTypeDefinition
scalar_behind depth start description = do
  word ← expect_keyword keyword.Scalar
  name ← name_at
  directives ← directives_at true depth
  span ← place start
  answer (record { description = description; name = name; directives = directives; span = span })

unfoldable pub object_behind : ℕ → ℕ → Option Description → Reader ObjectTypeDefinition
object_behind depth start description = do
  word ← expect_keyword keyword.«Type»
  name ← name_at
  interfaces ← interfaces_at
  directives ← directives_at true depth
  fields ← perhaps_in_braces_at field_definition_at depth
  span ← place start
  answer (record {
    description = description;
    name = name;
    interfaces = interfaces;
    directives = directives;
    fields = fields;
    span = span;
  })

unfoldable pub interface_behind : ℕ → ℕ → Option Description → Reader InterfaceTypeDefinition
interface_behind depth start description = do
  word ← expect_keyword keyword.Interface
  name ← name_at
  interfaces ← interfaces_at
  directives ← directives_at true depth
  fields ← perhaps_in_braces_at field_definition_at depth
  span ← place start
  answer (record {
    description = description;
    name = name;
    interfaces = interfaces;
    directives = directives;
    fields = fields;
    span = span;
  })

unfoldable pub union_behind : ℕ → ℕ → Option Description → Reader UnionTypeDefinition
union_behind depth start description = do
  word ← expect_keyword keyword.Union
  name ← name_at
  directives ← directives_at true depth
  members ← members_at
  span ← place start
  answer (record { description = description; name = name; directives = directives; members = members; span = span })

unfoldable pub enum_behind : ℕ → ℕ → Option Description → Reader EnumTypeDefinition
enum_behind depth start description = do
  word ← expect_keyword keyword.Enum
  name ← name_at
  directives ← directives_at true depth
  values ← perhaps_in_braces_at enum_value_definition_at depth
  span ← place start
  answer (record { description = description; name = name; directives = directives; values = values; span = span })

unfoldable pub input_object_behind : ℕ → ℕ → Option Description → Reader InputObjectTypeDefinition
input_object_behind depth start description = do
  word ← expect_keyword keyword.Input
  name ← name_at
  directives ← directives_at true depth
  fields ← perhaps_in_braces_at input_value_definition_at depth
  span ← place start
  answer (record { description = description; name = name; directives = directives; fields = fields; span = span })

-- by its keyword
unfoldable pub type_definition_behind : ℕ → ℕ → Option Description → Reader TypeDefinition
type_definition_behind depth start description =
    choose (is_keyword keyword.Scalar) (scalar_behind depth start description >>= λ x. answer (tree.Scalar x))
    (choose (is_keyword keyword.«Type») (object_behind depth start description >>= λ x. answer (tree.Object x))
    (choose (is_keyword keyword.Interface) (interface_behind depth start description >>= λ x. answer (tree.Interface x))
    (choose (is_keyword keyword.Union) (union_behind depth start description >>= λ x. answer (tree.Union x))
    (choose (is_keyword keyword.Enum) (enum_behind depth start description >>= λ x. answer (tree.Enum x))
    (choose (is_keyword keyword.Input) (input_object_behind depth start description >>= λ x. answer (tree.InputObject x))
    (refuse expected.TypeSystemDefinition))))))
