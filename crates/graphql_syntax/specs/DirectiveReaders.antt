-- Readers of arguments and directives. That they answer by the grammar is proved.
use Rattle.std.specs.Prelude.{ℕ, Bool, List, []}
use Rattle.graphql_tokens.specs.declared.token.TokenKind.TheVariants.{At, Colon, LeftParenthesis, RightParenthesis}
use Rattle.graphql_trees.specs.declared.directives.Argument.{Argument}
use Rattle.graphql_trees.specs.declared.directives.Directive.{Directive}
use Rattle.graphql_syntax.specs.declared.production.More.TheVariants.{Until, While}
use Rattle.graphql_syntax.specs.Inputs.{is_kind}
use Rattle.graphql_syntax.specs.Reading.{Reader, ◌>>=◌, answer, choose, starting, place, expect, name_at, more_test, many, some_of}
use Rattle.graphql_syntax.specs.ValueReaders.{value_at}

unfoldable pub argument_at : Bool → ℕ → Reader Argument
argument_at constant depth = starting (λ start. do
  name ← name_at
  colon ← expect Colon
  value ← value_at constant depth
  span ← place start
  answer (record { name = name; value = value; span = span }))

unfoldable pub arguments_in : Bool → ℕ → Reader (List Argument)
arguments_in constant depth = do
  opening ← expect LeftParenthesis
  found ← some_of (more_test (Until RightParenthesis)) (argument_at constant depth)
  closing ← expect RightParenthesis
  answer found

-- none where no parenthesis opens
unfoldable pub arguments_at : Bool → ℕ → Reader (List Argument)
arguments_at constant depth = choose (is_kind LeftParenthesis) (arguments_in constant depth) (answer [])

unfoldable pub directive_at : Bool → ℕ → Reader Directive
directive_at constant depth = starting (λ start. do
  at ← expect At
  name ← name_at
  arguments ← arguments_at constant depth
  span ← place start
  answer (record { name = name; arguments = arguments; span = span }))

unfoldable pub directives_at : Bool → ℕ → Reader (List Directive)
directives_at constant depth = many (more_test (While At)) (directive_at constant depth)
