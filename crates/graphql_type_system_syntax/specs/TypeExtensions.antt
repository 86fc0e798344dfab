-- Extensions of types. An extension is held as a definition without a description. Specification: 3.4.3 Type
-- Extensions, 3.5.6 Scalar Extensions, 3.6.3 Object Extensions, 3.7.1 Interface Extensions, 3.8.1 Union
-- Extensions, 3.9.1 Enum Extensions, 3.10.1 Input Object Extensions, and Appendix B.3 Document Syntax.
use Rattle.std.specs.Prelude.{◌≡◌, ℕ, true, List, [], None, IsFalse}
use Rattle.graphql_nodes.specs.Names.{NameText}
use Rattle.graphql_tokens.specs.declared.token.TokenKind.TheVariants.{LeftBrace}
use Rattle.graphql_trees.specs.declared.directives.Directive.{Directive}
use Rattle.graphql_trees.specs.declared.type_system.EnumTypeDefinition.{EnumTypeDefinition}
use Rattle.graphql_trees.specs.declared.type_system.FieldDefinition.{FieldDefinition}
use Rattle.graphql_trees.specs.declared.type_system.InputObjectTypeDefinition.{InputObjectTypeDefinition}
use Rattle.graphql_trees.specs.declared.type_system.InterfaceTypeDefinition.{InterfaceTypeDefinition}
use Rattle.graphql_trees.specs.declared.type_system.ObjectTypeDefinition.{ObjectTypeDefinition}
use Rattle.graphql_trees.specs.declared.type_system.ScalarTypeDefinition.{ScalarTypeDefinition}
use Rattle.graphql_trees.specs.declared.type_system.TypeDefinition.{TypeDefinition}
use Rattle.graphql_trees.specs.declared.type_system.TypeDefinition.TheVariants as tree
use Rattle.graphql_trees.specs.declared.type_system.UnionTypeDefinition.{UnionTypeDefinition}
use Rattle.graphql_syntax.specs.declared.keywords.Keyword.{Keyword}
use Rattle.graphql_syntax.specs.declared.keywords.Keyword.TheVariants as keyword
use Rattle.graphql_syntax.specs.Directives.{IsDirective, AreDirectives}
use Rattle.graphql_syntax.specs.Inputs.{Input, TakesKeyword, IsName, sees, between}
use Rattle.graphql_syntax.specs.Many.{Some1, PerhapsList}
use Rattle.graphql_type_system_syntax.specs.Bodies.{IsAddition}
use Rattle.graphql_type_system_syntax.specs.Fields.{AreFieldDefinitions, AreInterfaces}
use Rattle.graphql_type_system_syntax.specs.InputValues.{IsInputValueDefinition}
use Rattle.graphql_type_system_syntax.specs.TypeDefinitions.{AreMembers, IsEnumValueDefinition}

-- `extend`, the keyword of the kind, and Name
pub record IsExtended (kind : Keyword) (i : Input) (x : NameText) (j : Input) : Type 0 where
  pub behind_extend : Input
  pub behind_word : Input
  pub extend : TakesKeyword keyword.Extend i behind_extend
  pub word : TakesKeyword kind behind_extend behind_word
  pub name : IsName behind_word x j

-- ScalarTypeExtension : `extend` `scalar` Name Directives[Const]
pub record IsScalarTypeExtension (depth : ℕ) (i : Input) (x : ScalarTypeDefinition) (j : Input) : Type 0 where
  pub behind_name : Input
  pub name : IsExtended keyword.Scalar i x.name behind_name
  pub directives : Some1 (IsDirective true depth) behind_name x.directives j
  pub description : x.description ≡ None
  pub span : x.span ≡ between i j

-- what extends an object or an interface, behind its name
pub data IsFieldsAddition (depth : ℕ) : Input → List NameText → List Directive → List FieldDefinition → Input → Type 0 where
  -- ImplementsInterfaces? Directives[Const]? FieldsDefinition
  with_fields : (i m n j : Input) (interfaces : List NameText) (directives : List Directive) (fields : List FieldDefinition) →
      PerhapsList AreInterfaces i interfaces m → AreDirectives true depth m directives n → AreFieldDefinitions depth n fields j →
      IsFieldsAddition depth i interfaces directives fields j
  -- ImplementsInterfaces? Directives[Const] [lookahead ≠ `{`]
  with_directives : (i m j : Input) (interfaces : List NameText) (directives : List Directive) →
      PerhapsList AreInterfaces i interfaces m → Some1 (IsDirective true depth) m directives j → IsFalse (sees LeftBrace j) →
      IsFieldsAddition depth i interfaces directives [] j
  -- ImplementsInterfaces [lookahead ≠ `{`]
  with_interfaces : (i j : Input) (interfaces : List NameText) →
      AreInterfaces i interfaces j → IsFalse (sees LeftBrace j) → IsFieldsAddition depth i interfaces [] [] j

-- ObjectTypeExtension :
--     `extend` `type` Name ImplementsInterfaces? Directives[Const]? FieldsDefinition
--   | `extend` `type` Name ImplementsInterfaces? Directives[Const] [lookahead ≠ `{`]
--   | `extend` `type` Name ImplementsInterfaces [lookahead ≠ `{`]
pub record IsObjectTypeExtension (depth : ℕ) (i : Input) (x : ObjectTypeDefinition) (j : Input) : Type 0 where
  pub behind_name : Input
  pub name : IsExtended keyword.«Type» i x.name behind_name
  pub addition : IsFieldsAddition depth behind_name x.interfaces x.directives x.fields j
  pub description : x.description ≡ None
  pub span : x.span ≡ between i j

-- InterfaceTypeExtension :
--     `extend` `interface` Name ImplementsInterfaces? Directives[Const]? FieldsDefinition
--   | `extend` `interface` Name ImplementsInterfaces? Directives[Const] [lookahead ≠ `{`]
--   | `extend` `interface` Name ImplementsInterfaces [lookahead ≠ `{`]
pub record IsInterfaceTypeExtension (depth : ℕ) (i : Input) (x : InterfaceTypeDefinition) (j : Input) : Type 0 where
  pub behind_name : Input
  pub name : IsExtended keyword.Interface i x.name behind_name
  pub addition : IsFieldsAddition depth behind_name x.interfaces x.directives x.fields j
  pub description : x.description ≡ None
  pub span : x.span ≡ between i j

-- what extends a union, behind its name
pub data IsMembersAddition (depth : ℕ) : Input → List Directive → List NameText → Input → Type 0 where
  -- Directives[Const]? UnionMemberTypes
  with_members : (i m j : Input) (directives : List Directive) (members : List NameText) →
      AreDirectives true depth i directives m → AreMembers m members j → IsMembersAddition depth i directives members j
  -- Directives[Const]
  with_directives : (i j : Input) (directives : List Directive) →
      Some1 (IsDirective true depth) i directives j → IsMembersAddition depth i directives [] j

-- UnionTypeExtension : `extend` `union` Name Directives[Const]? UnionMemberTypes
--                    | `extend` `union` Name Directives[Const]
pub record IsUnionTypeExtension (depth : ℕ) (i : Input) (x : UnionTypeDefinition) (j : Input) : Type 0 where
  pub behind_name : Input
  pub name : IsExtended keyword.Union i x.name behind_name
  pub addition : IsMembersAddition depth behind_name x.directives x.members j
  pub description : x.description ≡ None
  pub span : x.span ≡ between i j

-- EnumTypeExtension : `extend` `enum` Name Directives[Const]? EnumValuesDefinition
--                   | `extend` `enum` Name Directives[Const] [lookahead ≠ `{`]
pub record IsEnumTypeExtension (depth : ℕ) (i : Input) (x : EnumTypeDefinition) (j : Input) : Type 0 where
  pub behind_name : Input
  pub name : IsExtended keyword.Enum i x.name behind_name
  pub addition : IsAddition IsEnumValueDefinition depth behind_name x.directives x.values j
  pub description : x.description ≡ None
  pub span : x.span ≡ between i j

-- InputObjectTypeExtension : `extend` `input` Name Directives[Const]? InputFieldsDefinition
--                          | `extend` `input` Name Directives[Const] [lookahead ≠ `{`]
pub record IsInputObjectTypeExtension (depth : ℕ) (i : Input) (x : InputObjectTypeDefinition) (j : Input) : Type 0 where
  pub behind_name : Input
  pub name : IsExtended keyword.Input i x.name behind_name
  pub addition : IsAddition IsInputValueDefinition depth behind_name x.directives x.fields j
  pub description : x.description ≡ None
  pub span : x.span ≡ between i j

-- TypeExtension
pub data IsTypeExtension (depth : ℕ) : Input → TypeDefinition → Input → Type 0 where
  scalar : (i j : Input) (x : ScalarTypeDefinition) → IsScalarTypeExtension depth i x j → IsTypeExtension depth i (tree.Scalar x) j
  object : (i j : Input) (x : ObjectTypeDefinition) → IsObjectTypeExtension depth i x j → IsTypeExtension depth i (tree.Object x) j
  interface : (i j : Input) (x : InterfaceTypeDefinition) → IsInterfaceTypeExtension depth i x j → IsTypeExtension depth i (tree.Interface x) j
  union : (i j : Input) (x : UnionTypeDefinition) → IsUnionTypeExtension depth i x j → IsTypeExtension depth i (tree.Union x) j
  enum : (i j : Input) (x : EnumTypeDefinition) → IsEnumTypeExtension depth i x j → IsTypeExtension depth i (tree.Enum x) j
  input_object : (i j : Input) (x : InputObjectTypeDefinition) → IsInputObjectTypeExtension depth i x j → IsTypeExtension depth i (tree.InputObject x) j
