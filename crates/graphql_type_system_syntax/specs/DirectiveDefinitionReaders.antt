-- Readers of definitions of directives, behind their descriptions. That they answer by the grammar is proved.
use Rattle.std.specs.Prelude.{ℕ, Bool, true, false, List, [], ◌∷◌, Option, None, Some, if◌then◌else◌}
use Rattle.std.specs.Str.{bytes_eq}
use Rattle.graphql_tokens.specs.declared.token.TokenKind.TheVariants.{Name, At, VerticalBar}
use Rattle.graphql_trees.specs.declared.type_system.DirectiveDefinition.{DirectiveDefinition}
use Rattle.graphql_nodes.specs.declared.directive_locations.DirectiveLocation.{DirectiveLocation}
use Rattle.graphql_trees.specs.declared.type_system.PlacedDirectiveLocation.{PlacedDirectiveLocation}
use Rattle.graphql_trees.specs.declared.type_system.Description.{Description}
use Rattle.graphql_syntax.specs.declared.keywords.Keyword.TheVariants as keyword
use Rattle.graphql_syntax.specs.declared.refusals.Expected.TheVariants as expected
use Rattle.graphql_syntax.specs.Inputs.{is_kind, is_keyword}
use Rattle.graphql_syntax.specs.Reading.{Reader, ◌>>=◌, answer, choose, starting, place, expect, expect_keyword, name_at, text_with}
use Rattle.graphql_type_system_syntax.specs.BodyReaders.{separated_at}
use Rattle.graphql_type_system_syntax.specs.InputValueReaders.{argument_definitions_at}
use Rattle.graphql_nodes.specs.DirectiveLocations.{location_text, locations}

-- the first of the locations with this text
abbrev pub location_among : List DirectiveLocation → List ℕ → Option DirectiveLocation
location_among [] text = None
location_among (x ∷ xs) text = if bytes_eq text (location_text x) then Some x else location_among xs text

unfoldable pub location_named : List ℕ → Option DirectiveLocation
location_named text = location_among locations text

unfoldable pub directive_location_at : Reader PlacedDirectiveLocation
directive_location_at = starting (λ start. do
  location ← text_with (is_kind Name) location_named expected.DirectiveLocation
  span ← place start
  answer (record { location = location; span = span }))

unfoldable pub repeatable_at : Reader Bool
repeatable_at = choose (is_keyword keyword.Repeatable) (expect_keyword keyword.Repeatable >>= λ word. answer true) (answer false)

unfoldable pub directive_behind : ℕ → ℕ → Option Description → Reader DirectiveDefinition
directive_behind depth start description = do
  word ← expect_keyword keyword.Directive
  at ← expect At
  name ← name_at
  arguments ← argument_definitions_at depth
  repeatable ← repeatable_at
  on ← expect_keyword keyword.On
  locations ← separated_at VerticalBar directive_location_at
  span ← place start
  answer (record {
    description = description;
    name = name;
    arguments = arguments;
    repeatable = repeatable;
    locations = locations;
    span = span;
  })
