-- Readers of fragments. That they answer by the grammar is proved.
use Rattle.std.specs.Prelude.{ℕ, false}
use Rattle.graphql_trees.specs.declared.executable.FragmentDefinition.{FragmentDefinition}
use Rattle.graphql_syntax.specs.declared.keywords.Keyword.TheVariants as keyword
use Rattle.graphql_syntax.specs.Reading.{Reader, ◌>>=◌, answer, starting, place, expect_keyword}
use Rattle.graphql_syntax.specs.DirectiveReaders.{directives_at}
use Rattle.graphql_executable_syntax.specs.SelectionReaders.{fragment_name_at, type_condition_at, selection_set_at}

unfoldable pub fragment_definition_at : ℕ → Reader FragmentDefinition
fragment_definition_at depth = starting (λ start. do
  word ← expect_keyword keyword.Fragment
  name ← fragment_name_at
  type_condition ← type_condition_at
  directives ← directives_at false depth
  selection_set ← selection_set_at depth
  span ← place start
  answer (record {
    name = name;
    type_condition = type_condition;
    directives = directives;
    selection_set = selection_set;
    span = span;
  }))
