-- Readers of selection sets. That they answer by the grammar is proved.
use Rattle.std.specs.Prelude.{ℕ, zero, suc, false, Option, None, Some}
use Rattle.graphql_nodes.specs.Names.{NameText}
use Rattle.graphql_tokens.specs.declared.token.TokenKind.TheVariants.{Name, Colon, LeftBrace, RightBrace, Spread}
use Rattle.graphql_trees.specs.declared.executable.Field.{roll-Field}
use Rattle.graphql_trees.specs.declared.executable.Selection.{Selection}
use Rattle.graphql_trees.specs.declared.executable.Selection.TheVariants as tree
use Rattle.graphql_trees.specs.declared.executable.SelectionSet.{SelectionSet}
use Rattle.graphql_syntax.specs.declared.keywords.Keyword.TheVariants as keyword
use Rattle.graphql_syntax.specs.declared.production.More.TheVariants.{Until}
use Rattle.graphql_syntax.specs.declared.refusals.Expected.TheVariants as expected
use Rattle.graphql_syntax.specs.Inputs.{is_kind, is_keyword}
use Rattle.graphql_syntax.specs.Reading.{Reader, ◌>>=◌, answer, refuse, choose, starting, place, expect, expect_keyword, name_at, too_deep, more_test, some_of}
use Rattle.graphql_syntax.specs.DirectiveReaders.{arguments_at, directives_at}

unfoldable pub fragment_name_at : Reader NameText
fragment_name_at = choose (is_keyword keyword.On) (refuse expected.FragmentName) name_at

unfoldable pub type_condition_at : Reader NameText
type_condition_at = do
  on ← expect_keyword keyword.On
  name ← name_at
  answer name

-- a fragment spread from its name on
unfoldable pub fragment_spread_behind : ℕ → ℕ → Reader Selection
fragment_spread_behind depth start = do
  name ← fragment_name_at
  directives ← directives_at false depth
  span ← place start
  answer (tree.FragmentSpread (record { name = name; directives = directives; span = span }))

-- an inline fragment from its directives on, where a selection set is read so
unfoldable pub inline_fragment_behind : ℕ → Reader SelectionSet → ℕ → Option NameText → Reader Selection
inline_fragment_behind depth set start type_condition = do
  directives ← directives_at false depth
  selection_set ← set
  span ← place start
  answer (tree.InlineFragment (record {
    type_condition = type_condition;
    directives = directives;
    selection_set = selection_set;
    span = span;
  }))

abbrev pub conditioned_behind : ℕ → Reader SelectionSet → ℕ → Reader Selection
conditioned_behind depth set start = do
  type_condition ← type_condition_at
  inline_fragment_behind depth set start (Some type_condition)

-- what begins with `...`
unfoldable pub spread_with : ℕ → Reader SelectionSet → Reader Selection
spread_with depth set = starting (λ start. do
  dots ← expect Spread
  choose (is_keyword keyword.On) (conditioned_behind depth set start)
      (choose (is_kind Name) (fragment_spread_behind depth start) (inline_fragment_behind depth set start None)))

-- a selection set where one opens
unfoldable pub perhaps_set_with : Reader SelectionSet → Reader (Option SelectionSet)
perhaps_set_with set = choose (is_kind LeftBrace) (set >>= λ x. answer (Some x)) (answer None)

-- a field from behind its name
unfoldable pub field_behind : ℕ → Reader SelectionSet → ℕ → Option NameText → NameText → Reader Selection
field_behind depth set start alias name = do
  arguments ← arguments_at false depth
  directives ← directives_at false depth
  selection_set ← perhaps_set_with set
  span ← place start
  answer (tree.Field (roll-Field (record {
    alias = alias;
    name = name;
    arguments = arguments;
    directives = directives;
    selection_set = selection_set;
    span = span;
  })))

abbrev pub aliased_behind : ℕ → Reader SelectionSet → ℕ → NameText → Reader Selection
aliased_behind depth set start alias = do
  colon ← expect Colon
  name ← name_at
  field_behind depth set start (Some alias) name

unfoldable pub field_with : ℕ → Reader SelectionSet → Reader Selection
field_with depth set = starting (λ start. do
  first ← name_at
  choose (is_kind Colon) (aliased_behind depth set start first) (field_behind depth set start None first))

-- a selection, where selection sets in it are read so
unfoldable pub selection_with : ℕ → Reader SelectionSet → Reader Selection
selection_with depth set =
    choose (is_kind Spread) (spread_with depth set)
    (choose (is_kind Name) (field_with depth set) (refuse expected.Selection))

unfoldable pub selection_set_with : Reader Selection → Reader SelectionSet
selection_set_with selection = starting (λ start. do
  opening ← expect LeftBrace
  selections ← some_of (more_test (Until RightBrace)) selection
  closing ← expect RightBrace
  span ← place start
  answer (record { selections = selections; span = span }))

unfoldable pub selection_set_at : ℕ → Reader SelectionSet
selection_set_at zero = choose (is_kind LeftBrace) too_deep (refuse (expected.Token LeftBrace))
selection_set_at (suc depth) = selection_set_with (selection_with depth (selection_set_at depth))

abbrev pub selection_at : ℕ → Reader Selection
selection_at depth = selection_with depth (selection_set_at depth)
