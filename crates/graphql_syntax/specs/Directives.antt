-- Arguments and directives. Specification: 2.6 Arguments, 2.12 Directives, and Appendix B.3 Document Syntax.
use Rattle.std.specs.Prelude.{◌≡◌, ℕ, Bool, List}
use Rattle.graphql_tokens.specs.declared.token.TokenKind.TheVariants.{At, Colon, LeftParenthesis, RightParenthesis}
use Rattle.graphql_trees.specs.declared.directives.Argument.{Argument}
use Rattle.graphql_trees.specs.declared.directives.Directive.{Directive}
use Rattle.graphql_syntax.specs.Inputs.{Input, Takes, IsName, between}
use Rattle.graphql_syntax.specs.Many.{Many, Some1, PerhapsList}
use Rattle.graphql_syntax.specs.Values.{IsValue}

-- Argument[Const] : Name : Value[?Const]
pub record IsArgument (constant : Bool) (depth : ℕ) (i : Input) (x : Argument) (j : Input) : Type 0 where
  pub behind_name : Input
  pub behind_colon : Input
  pub name : IsName i x.name behind_name
  pub colon : Takes Colon behind_name behind_colon
  pub value : IsValue constant depth behind_colon x.value j
  pub span : x.span ≡ between i j

-- Arguments[Const] : ( Argument[?Const]+ )
pub record AreArguments (constant : Bool) (depth : ℕ) (i : Input) (xs : List Argument) (j : Input) : Type 0 where
  pub inside : Input
  pub before_closing : Input
  pub opening : Takes LeftParenthesis i inside
  pub arguments : Some1 (IsArgument constant depth) inside xs before_closing
  pub closing : Takes RightParenthesis before_closing j

-- Directive[Const] : @ Name Arguments[?Const]?
pub record IsDirective (constant : Bool) (depth : ℕ) (i : Input) (x : Directive) (j : Input) : Type 0 where
  pub behind_at : Input
  pub behind_name : Input
  pub at : Takes At i behind_at
  pub name : IsName behind_at x.name behind_name
  pub arguments : PerhapsList (AreArguments constant depth) behind_name x.arguments j
  pub span : x.span ≡ between i j

-- Directives[Const]? : as many as there are, none among them
abbrev pub AreDirectives : Bool → ℕ → Input → List Directive → Input → Type 0
AreDirectives constant depth i xs j = Many (IsDirective constant depth) i xs j
