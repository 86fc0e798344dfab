-- Definitions of types. Specification: 3.4 Types to 3.10 Input Objects, and Appendix B.3 Document Syntax.
-- Where fields or values in braces may be left out, the specification has two alternatives, with them and
-- without, and [lookahead ≠ `{`] in the second: those of `PerhapsInBraces`.
use Rattle.std.specs.Prelude.{◌≡◌, ℕ, true, List}
use Rattle.graphql_nodes.specs.Names.{NameText}
use Rattle.graphql_tokens.specs.declared.token.TokenKind.TheVariants.{Equals, VerticalBar}
use Rattle.graphql_trees.specs.declared.type_system.EnumTypeDefinition.{EnumTypeDefinition}
use Rattle.graphql_trees.specs.declared.type_system.EnumValueDefinition.{EnumValueDefinition}
use Rattle.graphql_trees.specs.declared.type_system.InputObjectTypeDefinition.{InputObjectTypeDefinition}
use Rattle.graphql_trees.specs.declared.type_system.InterfaceTypeDefinition.{InterfaceTypeDefinition}
use Rattle.graphql_trees.specs.declared.type_system.ObjectTypeDefinition.{ObjectTypeDefinition}
use Rattle.graphql_trees.specs.declared.type_system.ScalarTypeDefinition.{ScalarTypeDefinition}
use Rattle.graphql_trees.specs.declared.type_system.TypeDefinition.{TypeDefinition}
use Rattle.graphql_trees.specs.declared.type_system.TypeDefinition.TheVariants as tree
use Rattle.graphql_trees.specs.declared.type_system.UnionTypeDefinition.{UnionTypeDefinition}
use Rattle.graphql_syntax.specs.declared.keywords.Keyword.TheVariants as keyword
use Rattle.graphql_syntax.specs.Directives.{AreDirectives}
use Rattle.graphql_syntax.specs.Inputs.{Input, Takes, TakesKeyword, IsName, between}
use Rattle.graphql_syntax.specs.Many.{Perhaps, PerhapsList}
use Rattle.graphql_syntax.specs.Values.{IsEnumValueName}
use Rattle.graphql_type_system_syntax.specs.Bodies.{AreSeparated, PerhapsInBraces}
use Rattle.graphql_type_system_syntax.specs.Fields.{IsFieldDefinition, AreInterfaces}
use Rattle.graphql_type_system_syntax.specs.InputValues.{IsDescription, IsInputValueDefinition}

-- ScalarTypeDefinition : Description? `scalar` Name Directives[Const]?
pub record IsScalarTypeDefinition (depth : ℕ) (i : Input) (x : ScalarTypeDefinition) (j : Input) : Type 0 where
  pub behind_description : Input
  pub behind_word : Input
  pub behind_name : Input
  pub description : Perhaps IsDescription i x.description behind_description
  pub word : TakesKeyword keyword.Scalar behind_description behind_word
  pub name : IsName behind_word x.name behind_name
  pub directives : AreDirectives true depth behind_name x.directives j
  pub span : x.span ≡ between i j

-- ObjectTypeDefinition :
--     Description? `type` Name ImplementsInterfaces? Directives[Const]? FieldsDefinition
--   | Description? `type` Name ImplementsInterfaces? Directives[Const]? [lookahead ≠ `{`]
pub record IsObjectTypeDefinition (depth : ℕ) (i : Input) (x : ObjectTypeDefinition) (j : Input) : Type 0 where
  pub behind_description : Input
  pub behind_word : Input
  pub behind_name : Input
  pub behind_interfaces : Input
  pub behind_directives : Input
  pub description : Perhaps IsDescription i x.description behind_description
  pub word : TakesKeyword keyword.«Type» behind_description behind_word
  pub name : IsName behind_word x.name behind_name
  pub interfaces : PerhapsList AreInterfaces behind_name x.interfaces behind_interfaces
  pub directives : AreDirectives true depth behind_interfaces x.directives behind_directives
  pub fields : PerhapsInBraces IsFieldDefinition depth behind_directives x.fields j
  pub span : x.span ≡ between i j

-- InterfaceTypeDefinition :
--     Description? `interface` Name ImplementsInterfaces? Directives[Const]? FieldsDefinition
--   | Description? `interface` Name ImplementsInterfaces? Directives[Const]? [lookahead ≠ `{`]
pub record IsInterfaceTypeDefinition (depth : ℕ) (i : Input) (x : InterfaceTypeDefinition) (j : Input) : Type 0 where
  pub behind_description : Input
  pub behind_word : Input
  pub behind_name : Input
  pub behind_interfaces : Input
  pub behind_directives : Input
  pub description : Perhaps IsDescription i x.description behind_description
  pub word : TakesKeyword keyword.Interface behind_description behind_word
  pub name : IsName behind_word x.name behind_name
  pub interfaces : PerhapsList AreInterfaces behind_name x.interfaces behind_interfaces
  pub directives : AreDirectives true depth behind_interfaces x.directives behind_directives
  pub fields : PerhapsInBraces IsFieldDefinition depth behind_directives x.fields j
  pub span : x.span ≡ between i j

-- UnionMemberTypes : = |? NamedType | UnionMemberTypes | NamedType
pub record AreMembers (i : Input) (xs : List NameText) (j : Input) : Type 0 where
  pub behind_equals : Input
  pub equals : Takes Equals i behind_equals
  pub names : AreSeparated VerticalBar IsName behind_equals xs j

-- UnionTypeDefinition : Description? `union` Name Directives[Const]? UnionMemberTypes?
pub record IsUnionTypeDefinition (depth : ℕ) (i : Input) (x : UnionTypeDefinition) (j : Input) : Type 0 where
  pub behind_description : Input
  pub behind_word : Input
  pub behind_name : Input
  pub behind_directives : Input
  pub description : Perhaps IsDescription i x.description behind_description
  pub word : TakesKeyword keyword.Union behind_description behind_word
  pub name : IsName behind_word x.name behind_name
  pub directives : AreDirectives true depth behind_name x.directives behind_directives
  pub members : PerhapsList AreMembers behind_directives x.members j
  pub span : x.span ≡ between i j

-- EnumValueDefinition : Description? EnumValue Directives[Const]?
pub record IsEnumValueDefinition (depth : ℕ) (i : Input) (x : EnumValueDefinition) (j : Input) : Type 0 where
  pub behind_description : Input
  pub behind_name : Input
  pub description : Perhaps IsDescription i x.description behind_description
  pub name : IsEnumValueName behind_description x.name behind_name
  pub directives : AreDirectives true depth behind_name x.directives j
  pub span : x.span ≡ between i j

-- EnumTypeDefinition :
--     Description? `enum` Name Directives[Const]? EnumValuesDefinition
--   | Description? `enum` Name Directives[Const]? [lookahead ≠ `{`]
-- EnumValuesDefinition : { EnumValueDefinition+ }
pub record IsEnumTypeDefinition (depth : ℕ) (i : Input) (x : EnumTypeDefinition) (j : Input) : Type 0 where
  pub behind_description : Input
  pub behind_word : Input
  pub behind_name : Input
  pub behind_directives : Input
  pub description : Perhaps IsDescription i x.description behind_description
  pub word : TakesKeyword keyword.Enum behind_description behind_word
  pub name : IsName behind_word x.name behind_name
  pub directives : AreDirectives true depth behind_name x.directives behind_directives
  pub values : PerhapsInBraces IsEnumValueDefinition depth behind_directives x.values j
  pub span : x.span ≡ between i j

-- InputObjectTypeDefinition :
--     Description? `input` Name Directives[Const]? InputFieldsDefinition
--   | Description? `input` Name Directives[Const]? [lookahead ≠ `{`]
-- InputFieldsDefinition : { InputValueDefinition+ }
pub record IsInputObjectTypeDefinition (depth : ℕ) (i : Input) (x : InputObjectTypeDefinition) (j : Input) : Type 0 where
  pub behind_description : Input
  pub behind_word : Input
  pub behind_name : Input
  pub behind_directives : Input
  pub description : Perhaps IsDescription i x.description behind_description
  pub word : TakesKeyword keyword.Input behind_description behind_word
  pub name : IsName behind_word x.name behind_name
  pub directives : AreDirectives true depth behind_name x.directives behind_directives
  pub fields : PerhapsInBraces IsInputValueDefinition depth behind_directives x.fields j
  pub span : x.span ≡ between i j

-- TypeDefinition
pub data IsTypeDefinition (depth : ℕ) : Input → TypeDefinition → Input → Type 0 where
  scalar : (i j : Input) (x : ScalarTypeDefinition) → IsScalarTypeDefinition depth i x j → IsTypeDefinition depth i (tree.Scalar x) j
  object : (i j : Input) (x : ObjectTypeDefinition) → IsObjectTypeDefinition depth i x j → IsTypeDefinition depth i (tree.Object x) j
  interface : (i j : Input) (x : InterfaceTypeDefinition) → IsInterfaceTypeDefinition depth i x j → IsTypeDefinition depth i (tree.Interface x) j
  union : (i j : Input) (x : UnionTypeDefinition) → IsUnionTypeDefinition depth i x j → IsTypeDefinition depth i (tree.Union x) j
  enum : (i j : Input) (x : EnumTypeDefinition) → IsEnumTypeDefinition depth i x j → IsTypeDefinition depth i (tree.Enum x) j
  input_object : (i j : Input) (x : InputObjectTypeDefinition) → IsInputObjectTypeDefinition depth i x j → IsTypeDefinition depth i (tree.InputObject x) j
