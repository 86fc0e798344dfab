-- Definitions of directives. Specification: 3.13 Directives, and Appendix B.3 Document Syntax.
use Rattle.std.specs.Prelude.{◌≡◌, ℕ, Bool, true, false, List}
use Rattle.graphql_tokens.specs.declared.token.TokenKind.TheVariants.{Name, At, VerticalBar}
use Rattle.graphql_trees.specs.declared.type_system.DirectiveDefinition.{DirectiveDefinition}
use Rattle.graphql_trees.specs.declared.type_system.PlacedDirectiveLocation.{PlacedDirectiveLocation}
use Rattle.graphql_syntax.specs.declared.keywords.Keyword.TheVariants as keyword
use Rattle.graphql_syntax.specs.Inputs.{Input, Takes, TakesKeyword, IsName, next_text, between}
use Rattle.graphql_syntax.specs.Many.{Perhaps, PerhapsList}
use Rattle.graphql_type_system_syntax.specs.Bodies.{AreSeparated}
use Rattle.graphql_type_system_syntax.specs.InputValues.{IsDescription, AreArgumentDefinitions}
use Rattle.graphql_nodes.specs.DirectiveLocations.{location_text}

-- DirectiveLocation : ExecutableDirectiveLocation | TypeSystemDirectiveLocation: a name with such a text
pub record IsDirectiveLocation (i : Input) (x : PlacedDirectiveLocation) (j : Input) : Type 0 where
  pub takes : Takes Name i j
  pub text : next_text i ≡ location_text x.location
  pub span : x.span ≡ between i j

-- `repeatable`?
pub data IsRepeatable : Input → Bool → Input → Type 0 where
  absent : (i : Input) → IsRepeatable i false i
  present : (i j : Input) → TakesKeyword keyword.Repeatable i j → IsRepeatable i true j

-- DirectiveLocations : |? DirectiveLocation | DirectiveLocations | DirectiveLocation
abbrev pub AreDirectiveLocations : Input → List PlacedDirectiveLocation → Input → Type 0
AreDirectiveLocations i xs j = AreSeparated VerticalBar IsDirectiveLocation i xs j

-- DirectiveDefinition : Description? `directive` @ Name ArgumentsDefinition? `repeatable`? `on` DirectiveLocations
pub record IsDirectiveDefinition (depth : ℕ) (i : Input) (x : DirectiveDefinition) (j : Input) : Type 0 where
  pub behind_description : Input
  pub behind_word : Input
  pub behind_at : Input
  pub behind_name : Input
  pub behind_arguments : Input
  pub behind_repeatable : Input
  pub behind_on : Input
  pub description : Perhaps IsDescription i x.description behind_description
  pub word : TakesKeyword keyword.Directive behind_description behind_word
  pub at : Takes At behind_word behind_at
  pub name : IsName behind_at x.name behind_name
  pub arguments : PerhapsList (AreArgumentDefinitions depth) behind_name x.arguments behind_arguments
  pub repeatable : IsRepeatable behind_arguments x.repeatable behind_repeatable
  pub on : TakesKeyword keyword.On behind_repeatable behind_on
  pub locations : AreDirectiveLocations behind_on x.locations j
  pub span : x.span ≡ between i j
