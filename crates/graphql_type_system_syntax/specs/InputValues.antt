-- Descriptions, and definitions of arguments and of fields of input objects. Specification: 3.2 Type System
-- Descriptions, 3.6.1 Field Arguments, 3.10 Input Objects, and Appendix B.3 Document Syntax.
use Rattle.std.specs.Prelude.{◌≡◌, ℕ, true, List}
use Rattle.graphql_tokens.specs.declared.token.TokenKind.TheVariants.{Colon, LeftParenthesis, RightParenthesis}
use Rattle.graphql_trees.specs.declared.type_system.InputValueDefinition.{InputValueDefinition}
use Rattle.graphql_trees.specs.declared.type_system.Description.{Description}
use Rattle.graphql_syntax.specs.DefaultValues.{IsDefaultValue}
use Rattle.graphql_syntax.specs.Directives.{AreDirectives}
use Rattle.graphql_syntax.specs.Inputs.{Input, is_string, Takes, TakesOne, IsName, between}
use Rattle.graphql_syntax.specs.Many.{Some1, Perhaps}
use Rattle.graphql_syntax.specs.Types.{IsType}

-- Description : StringValue. Specification: 3.2 Type System Descriptions
pub record IsDescription (i : Input) (x : Description) (j : Input) : Type 0 where
  pub takes : TakesOne is_string i j
  pub span : x.span ≡ between i j

-- InputValueDefinition : Description? Name : Type DefaultValue? Directives[Const]?
pub record IsInputValueDefinition (depth : ℕ) (i : Input) (x : InputValueDefinition) (j : Input) : Type 0 where
  pub behind_description : Input
  pub behind_name : Input
  pub behind_colon : Input
  pub behind_type : Input
  pub behind_default : Input
  pub description : Perhaps IsDescription i x.description behind_description
  pub name : IsName behind_description x.name behind_name
  pub colon : Takes Colon behind_name behind_colon
  pub type_reference : IsType depth behind_colon x.type_reference behind_type
  pub default_value : Perhaps (IsDefaultValue depth) behind_type x.default_value behind_default
  pub directives : AreDirectives true depth behind_default x.directives j
  pub span : x.span ≡ between i j

-- ArgumentsDefinition : ( InputValueDefinition+ )
pub record AreArgumentDefinitions (depth : ℕ) (i : Input) (xs : List InputValueDefinition) (j : Input) : Type 0 where
  pub inside : Input
  pub before_closing : Input
  pub opening : Takes LeftParenthesis i inside
  pub arguments : Some1 (IsInputValueDefinition depth) inside xs before_closing
  pub closing : Takes RightParenthesis before_closing j
