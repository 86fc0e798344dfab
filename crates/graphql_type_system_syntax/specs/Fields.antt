-- Fields of objects and interfaces, and the interfaces that they implement. Specification: 3.6 Objects,
-- 3.7 Interfaces, and Appendix B.3 Document Syntax.
use Rattle.std.specs.Prelude.{◌≡◌, ℕ, true, List}
use Rattle.graphql_nodes.specs.Names.{NameText}
use Rattle.graphql_tokens.specs.declared.token.TokenKind.TheVariants.{Ampersand, Colon}
use Rattle.graphql_trees.specs.declared.type_system.FieldDefinition.{FieldDefinition}
use Rattle.graphql_syntax.specs.declared.keywords.Keyword.TheVariants as keyword
use Rattle.graphql_syntax.specs.Directives.{AreDirectives}
use Rattle.graphql_syntax.specs.Inputs.{Input, Takes, TakesKeyword, IsName, between}
use Rattle.graphql_syntax.specs.Many.{Perhaps, PerhapsList}
use Rattle.graphql_syntax.specs.Types.{IsType}
use Rattle.graphql_type_system_syntax.specs.Bodies.{AreSeparated, InBraces}
use Rattle.graphql_type_system_syntax.specs.InputValues.{IsDescription, AreArgumentDefinitions}

-- FieldDefinition : Description? Name ArgumentsDefinition? : Type Directives[Const]?
pub record IsFieldDefinition (depth : ℕ) (i : Input) (x : FieldDefinition) (j : Input) : Type 0 where
  pub behind_description : Input
  pub behind_name : Input
  pub behind_arguments : Input
  pub behind_colon : Input
  pub behind_type : Input
  pub description : Perhaps IsDescription i x.description behind_description
  pub name : IsName behind_description x.name behind_name
  pub arguments : PerhapsList (AreArgumentDefinitions depth) behind_name x.arguments behind_arguments
  pub colon : Takes Colon behind_arguments behind_colon
  pub type_reference : IsType depth behind_colon x.type_reference behind_type
  pub directives : AreDirectives true depth behind_type x.directives j
  pub span : x.span ≡ between i j

-- FieldsDefinition : { FieldDefinition+ }
abbrev pub AreFieldDefinitions : ℕ → Input → List FieldDefinition → Input → Type 0
AreFieldDefinitions depth i xs j = InBraces IsFieldDefinition depth i xs j

-- ImplementsInterfaces : `implements` &? NamedType | ImplementsInterfaces & NamedType
pub record AreInterfaces (i : Input) (xs : List NameText) (j : Input) : Type 0 where
  pub behind_implements : Input
  pub word : TakesKeyword keyword.Implements i behind_implements
  pub names : AreSeparated Ampersand IsName behind_implements xs j
