-- The reader of default values. That it answers by the grammar is proved.
use Rattle.std.specs.Prelude.{ℕ, true, Option, None, Some}
use Rattle.graphql_tokens.specs.declared.token.TokenKind.TheVariants.{Equals}
use Rattle.graphql_trees.specs.declared.values.Value.{Value}
use Rattle.graphql_syntax.specs.Inputs.{is_kind}
use Rattle.graphql_syntax.specs.Reading.{Reader, ◌>>=◌, answer, choose, expect}
use Rattle.graphql_syntax.specs.ValueReaders.{value_at}

abbrev pub default_value_in : ℕ → Reader (Option Value)
default_value_in depth = do
  equals ← expect Equals
  value ← value_at true depth
  answer (Some value)

-- none where no `=` comes
unfoldable pub default_value_at : ℕ → Reader (Option Value)
default_value_at depth = choose (is_kind Equals) (default_value_in depth) (answer None)
