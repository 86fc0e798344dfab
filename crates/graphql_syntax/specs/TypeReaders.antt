-- Readers of types. That they answer by the grammar is proved.
use Rattle.std.specs.Prelude.{ℕ, zero, suc}
use Rattle.graphql_nodes.specs.Names.{NameText}
use Rattle.graphql_tokens.specs.declared.token.TokenKind.TheVariants.{ExclamationMark, LeftBracket, RightBracket}
use Rattle.graphql_trees.specs.declared.types.TypeReference.{TypeReference}
use Rattle.graphql_trees.specs.declared.types.TypeReference.TheVariants as tree
use Rattle.graphql_syntax.specs.Inputs.{is_kind}
use Rattle.graphql_syntax.specs.Reading.{Reader, ◌>>=◌, answer, choose, starting, place, expect, name_at, too_deep}

-- behind `!`
abbrev pub non_null_named : ℕ → NameText → Reader TypeReference
non_null_named start name = do
  mark ← expect ExclamationMark
  span ← place start
  answer (tree.NonNullNamed name span)

unfoldable pub named_type_at : Reader TypeReference
named_type_at = starting (λ start. do
  name ← name_at
  choose (is_kind ExclamationMark) (non_null_named start name) (answer (tree.Named name)))

abbrev pub non_null_list : ℕ → TypeReference → Reader TypeReference
non_null_list start item = do
  mark ← expect ExclamationMark
  span ← place start
  answer (tree.NonNullList item span)

abbrev pub nullable_list : ℕ → TypeReference → Reader TypeReference
nullable_list start item = do
  span ← place start
  answer (tree.List item span)

unfoldable pub list_type_behind : ℕ → TypeReference → Reader TypeReference
list_type_behind start item = do
  closing ← expect RightBracket
  choose (is_kind ExclamationMark) (non_null_list start item) (nullable_list start item)

unfoldable pub list_type_with : Reader TypeReference → Reader TypeReference
list_type_with item = starting (λ start. do
  opening ← expect LeftBracket
  found ← item
  list_type_behind start found)

unfoldable pub type_at : ℕ → Reader TypeReference
type_at zero = choose (is_kind LeftBracket) too_deep named_type_at
type_at (suc depth) = choose (is_kind LeftBracket) (list_type_with (type_at depth)) named_type_at
