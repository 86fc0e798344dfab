-- Readers of values. That they answer by the grammar is proved.
use Rattle.std.specs.Prelude.{ℕ, zero, suc, Bool, true, false, Some}
use Rattle.graphql_tokens.specs.declared.token.TokenKind.TheVariants.{Name, Dollar, Colon, LeftBracket, RightBracket, LeftBrace, RightBrace, IntValue, FloatValue, StringValue}
use Rattle.graphql_strings.specs.Scans.{string_value_at}
use Rattle.graphql_trees.specs.declared.values.Value.{Value}
use Rattle.graphql_trees.specs.declared.values.Value.TheVariants as tree
use Rattle.graphql_trees.specs.declared.values.ObjectField.{ObjectField, roll-ObjectField}
use Rattle.graphql_trees.specs.declared.values.StringLiteral.{StringLiteral}
use Rattle.graphql_trees.specs.declared.values.Variable.{Variable}
use Rattle.graphql_syntax.specs.declared.keywords.Keyword.TheVariants as keyword
use Rattle.graphql_syntax.specs.declared.production.More.TheVariants.{Until}
use Rattle.graphql_syntax.specs.declared.refusals.Expected.{Expected}
use Rattle.graphql_syntax.specs.declared.refusals.Expected.TheVariants as expected
use Rattle.graphql_syntax.specs.Inputs.{is_kind, is_keyword, is_string}
use Rattle.graphql_syntax.specs.Reading.{Reader, ◌>>=◌, answer, refuse, choose, starting, place, expect, expect_keyword, name_at, text_with, too_deep, more_test, many}

unfoldable pub variable_at : Reader Variable
variable_at = starting (λ start. do
  dollar ← expect Dollar
  name ← name_at
  span ← place start
  answer (record { name = name; span = span }))

unfoldable pub string_literal_at : Reader StringLiteral
string_literal_at = starting (λ start. do
  value ← text_with is_string string_value_at (expected.Token StringValue)
  span ← place start
  answer (record { value = value; span = span }))

abbrev pub expected_value : Bool → Expected
expected_value true = expected.ConstantValue
expected_value false = expected.Value

unfoldable pub variable_value_at : Bool → Reader Value
variable_value_at true = refuse expected.ConstantValue
variable_value_at false = variable_at >>= λ x. answer (tree.Variable x)

unfoldable pub int_at : Reader Value
int_at = starting (λ start. do
  text ← text_with (is_kind IntValue) Some (expected.Token IntValue)
  span ← place start
  answer (tree.Int text span))

unfoldable pub float_at : Reader Value
float_at = starting (λ start. do
  text ← text_with (is_kind FloatValue) Some (expected.Token FloatValue)
  span ← place start
  answer (tree.Float text span))

abbrev pub string_at : Reader Value
string_at = string_literal_at >>= λ x. answer (tree.String x)

unfoldable pub boolean_at : Bool → Reader Value
boolean_at true = starting (λ start. do
  word ← expect_keyword keyword.True
  span ← place start
  answer (tree.Boolean true span))
boolean_at false = starting (λ start. do
  word ← expect_keyword keyword.False
  span ← place start
  answer (tree.Boolean false span))

unfoldable pub null_at : Reader Value
null_at = starting (λ start. do
  word ← expect_keyword keyword.Null
  span ← place start
  answer (tree.Null span))

abbrev pub enum_value_at : Reader Value
enum_value_at = name_at >>= λ name. answer (tree.Enum name)

-- a value that begins with a name
unfoldable pub word_value_at : Reader Value
word_value_at =
    choose (is_keyword keyword.True) (boolean_at true)
    (choose (is_keyword keyword.False) (boolean_at false)
    (choose (is_keyword keyword.Null) null_at enum_value_at))

-- a value that is no list and no object
unfoldable pub plain_value_at : Bool → Reader Value
plain_value_at constant =
    choose (is_kind Name) word_value_at
    (choose (is_kind IntValue) int_at
    (choose (is_kind FloatValue) float_at
    (choose is_string string_at
    (choose (is_kind Dollar) (variable_value_at constant) (refuse (expected_value constant))))))

unfoldable pub object_field_with : Reader Value → Reader ObjectField
object_field_with value = starting (λ start. do
  name ← name_at
  colon ← expect Colon
  found ← value
  span ← place start
  answer (roll-ObjectField (record { name = name; value = found; span = span })))

unfoldable pub list_with : Reader Value → Reader Value
list_with value = starting (λ start. do
  opening ← expect LeftBracket
  items ← many (more_test (Until RightBracket)) value
  closing ← expect RightBracket
  span ← place start
  answer (tree.List items span))

unfoldable pub object_with : Reader Value → Reader Value
object_with value = starting (λ start. do
  opening ← expect LeftBrace
  fields ← many (more_test (Until RightBrace)) (object_field_with value)
  closing ← expect RightBrace
  span ← place start
  answer (tree.Object fields span))

-- a value, where what is in its brackets is read so
unfoldable pub value_with : Bool → Reader Value → Reader Value → Reader Value
value_with constant list object =
    choose (is_kind LeftBracket) list (choose (is_kind LeftBrace) object (plain_value_at constant))

unfoldable pub value_at : Bool → ℕ → Reader Value
value_at constant zero = value_with constant too_deep too_deep
value_at constant (suc depth) = value_with constant (list_with (value_at constant depth)) (object_with (value_at constant depth))
