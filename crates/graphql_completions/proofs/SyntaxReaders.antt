-- Readers whose refused tokens can be completed: types, values and directives.
use Rattle.std.proofs.Common.{ℕ, zero, suc, Bool, true, false, List, [], ◌∷◌, Some, refl}
use Rattle.graphql_strings.specs.Scans.{string_value_at}
use Rattle.graphql_tokens.specs.declared.token.TokenKind.TheVariants.{ExclamationMark, Dollar, LeftParenthesis, RightParenthesis, Colon, Equals, At, LeftBracket, RightBracket, LeftBrace, RightBrace, Name, IntValue, FloatValue, StringValue}
use Rattle.graphql_trees.specs.declared.types.TypeReference.{TypeReference}
use Rattle.graphql_trees.specs.declared.values.Value.{Value}
use Rattle.graphql_syntax.specs.declared.keywords.Keyword.TheVariants as keyword
use Rattle.graphql_syntax.specs.declared.refusals.Expected.TheVariants as expected
use Rattle.graphql_syntax.specs.Inputs.{same_kind}
use Rattle.graphql_syntax.specs.Reading.{Reader}
use Rattle.graphql_syntax.specs.DefaultValueReaders.{default_value_at}
use Rattle.graphql_syntax.specs.DirectiveReaders.{argument_at, arguments_in, arguments_at, directive_at, directives_at}
use Rattle.graphql_syntax.specs.OperationTypeReaders.{operation_type_at}
use Rattle.graphql_syntax.specs.TypeReaders.{named_type_at, list_type_behind, list_type_with, type_at}
use Rattle.graphql_syntax.specs.ValueReaders.{variable_at, string_literal_at, variable_value_at, expected_value, int_at, float_at, boolean_at, null_at, word_value_at, plain_value_at, object_field_with, list_with, object_with, value_with, value_at}
use Rattle.graphql_completions.proofs.Likeness.{View}
use Rattle.graphql_completions.proofs.Completions.{Inner, Goes, moving, goes_answer, goes_place, goes_sequence, inner_sequence, inner_refuse, inner_too_deep}
use Rattle.graphql_completions.proofs.Choices.{goes_first, goes_second, goes_optional, inner_choose, goes_starting, inner_starting}
use Rattle.graphql_completions.proofs.Repetitions.{goes_many_behind, goes_some}
use Rattle.graphql_completions.proofs.TokenReaders.{kind_view, kind_shown, keyword_shown, string_shown, until_shown, sign, keyword_word, name_word, goes_sign, goes_keyword, goes_name, inner_text}

-- the same levels, or one more
abbrev pub levels : Bool → ℕ → ℕ
levels false depth = depth
levels true depth = suc depth

-- types
abbrev pub type_views : List View
type_views = kind_view ExclamationMark ∷ kind_view ExclamationMark ∷ []

named_type_goes : Goes (kind_view ExclamationMark ∷ []) (name_word ∷ []) named_type_at named_type_at
unfolding named_type_at same_kind
named_type_goes =
    goes_starting refl (λ start. goes_sequence goes_name refl (λ name.
    goes_optional (kind_shown ExclamationMark) (moving refl (goes_sequence (goes_sign ExclamationMark 33 refl) refl (λ mark. goes_sequence (goes_place start) refl (λ span. goes_answer _))))
    (goes_answer _)))

list_type_inner : (p q : Reader TypeReference) → Goes type_views (name_word ∷ []) p q → Inner (kind_view ExclamationMark ∷ []) true (list_type_with p) (list_type_with q)
unfolding list_type_with list_type_behind same_kind
list_type_inner p q one =
    moving refl (goes_starting refl (λ start. goes_sequence (goes_sign LeftBracket 91 refl) refl (λ opening. goes_sequence one refl (λ found.
    goes_sequence (goes_sign RightBracket 93 refl) refl (λ closing.
    goes_optional (kind_shown ExclamationMark) (moving refl (goes_sequence (goes_sign ExclamationMark 33 refl) refl (λ mark. goes_sequence (goes_place start) refl (λ span. goes_answer _))))
    (goes_sequence (goes_place start) refl (λ span. goes_answer _)))))))

pub type_goes : (more : Bool) (depth : ℕ) → Goes type_views (name_word ∷ []) (type_at depth) (type_at (levels more depth))
unfolding type_at same_kind
type_goes false zero = goes_second (kind_shown LeftBracket) refl refl (inner_too_deep (kind_view ExclamationMark ∷ []) true _) named_type_goes
type_goes true zero = goes_second (kind_shown LeftBracket) refl refl (inner_too_deep (kind_view ExclamationMark ∷ []) true _) named_type_goes
type_goes false (suc depth) = goes_second (kind_shown LeftBracket) refl refl (list_type_inner (type_at depth) (type_at depth) (type_goes false depth)) named_type_goes
type_goes true (suc depth) = goes_second (kind_shown LeftBracket) refl refl (list_type_inner (type_at depth) (type_at (suc depth)) (type_goes true depth)) named_type_goes

-- values
pub variable_goes : Goes [] (sign Dollar 36 ∷ name_word ∷ []) variable_at variable_at
unfolding variable_at same_kind
variable_goes =
    goes_starting refl (λ start. goes_sequence (goes_sign Dollar 36 refl) refl (λ dollar. goes_sequence goes_name refl (λ name.
    goes_sequence (goes_place start) refl (λ span. goes_answer _))))

string_literal_inner : Inner [] true string_literal_at string_literal_at
unfolding string_literal_at
string_literal_inner =
    inner_starting (λ start. inner_sequence [] (name_word ∷ []) [] [] _ _ _ _ refl (inner_text string_value_at (expected.Token StringValue) string_shown) (λ value.
    goes_sequence (goes_place start) refl (λ span. goes_answer _)))

variable_value_inner : (constant : Bool) → Inner [] true (variable_value_at constant) (variable_value_at constant)
unfolding variable_value_at
variable_value_inner true = inner_refuse [] true expected.ConstantValue
variable_value_inner false = moving refl (goes_sequence variable_goes refl (λ x. goes_answer _))

int_inner : Inner [] true int_at int_at
unfolding int_at
int_inner =
    inner_starting (λ start. inner_sequence [] (name_word ∷ []) [] [] _ _ _ _ refl (inner_text Some (expected.Token IntValue) (kind_shown IntValue)) (λ value.
    goes_sequence (goes_place start) refl (λ span. goes_answer _)))

float_inner : Inner [] true float_at float_at
unfolding float_at
float_inner =
    inner_starting (λ start. inner_sequence [] (name_word ∷ []) [] [] _ _ _ _ refl (inner_text Some (expected.Token FloatValue) (kind_shown FloatValue)) (λ value.
    goes_sequence (goes_place start) refl (λ span. goes_answer _)))

boolean_inner : (which : Bool) → Inner [] true (boolean_at which) (boolean_at which)
unfolding boolean_at same_kind
boolean_inner true = moving refl (goes_starting refl (λ start. goes_sequence (goes_keyword keyword.True refl) refl (λ word. goes_sequence (goes_place start) refl (λ span. goes_answer _))))
boolean_inner false = moving refl (goes_starting refl (λ start. goes_sequence (goes_keyword keyword.False refl) refl (λ word. goes_sequence (goes_place start) refl (λ span. goes_answer _))))

null_inner : Inner [] true null_at null_at
unfolding null_at same_kind
null_inner = moving refl (goes_starting refl (λ start. goes_sequence (goes_keyword keyword.Null refl) refl (λ word. goes_sequence (goes_place start) refl (λ span. goes_answer _))))

word_value_goes : Goes [] (name_word ∷ []) word_value_at word_value_at
unfolding word_value_at same_kind
word_value_goes =
    goes_second (keyword_shown keyword.True) refl refl (boolean_inner true)
    (goes_second (keyword_shown keyword.False) refl refl (boolean_inner false)
    (goes_second (keyword_shown keyword.Null) refl refl null_inner (goes_sequence goes_name refl (λ name. goes_answer _))))

plain_value_goes : (constant : Bool) → Goes [] (name_word ∷ []) (plain_value_at constant) (plain_value_at constant)
unfolding plain_value_at same_kind
plain_value_goes constant =
    goes_first (kind_shown Name) refl refl word_value_goes
    (inner_choose (kind_shown IntValue) int_inner
    (inner_choose (kind_shown FloatValue) float_inner
    (inner_choose string_shown (inner_sequence [] (name_word ∷ []) [] [] _ _ _ _ refl string_literal_inner (λ x. goes_answer _))
    (inner_choose (kind_shown Dollar) (variable_value_inner constant) (inner_refuse [] true (expected_value constant))))))

list_inner : (p q : Reader Value) → Goes [] (name_word ∷ []) p q → Inner [] true (list_with p) (list_with q)
unfolding list_with same_kind
list_inner p q one =
    moving refl (goes_starting refl (λ start. goes_sequence (goes_sign LeftBracket 91 refl) refl (λ opening.
    goes_sequence (goes_many_behind [] (until_shown RightBracket) (moving refl one)) refl (λ items.
    goes_sequence (goes_sign RightBracket 93 refl) refl (λ closing. goes_sequence (goes_place start) refl (λ span. goes_answer _))))))

object_field_inner : (p q : Reader Value) → Goes [] (name_word ∷ []) p q → Inner [] true (object_field_with p) (object_field_with q)
unfolding object_field_with same_kind
object_field_inner p q one =
    moving refl (goes_starting refl (λ start. goes_sequence goes_name refl (λ name. goes_sequence (goes_sign Colon 58 refl) refl (λ colon.
    goes_sequence one refl (λ found. goes_sequence (goes_place start) refl (λ span. goes_answer _))))))

object_inner : (p q : Reader Value) → Goes [] (name_word ∷ []) p q → Inner [] true (object_with p) (object_with q)
unfolding object_with same_kind
object_inner p q one =
    moving refl (goes_starting refl (λ start. goes_sequence (goes_sign LeftBrace 123 refl) refl (λ opening.
    goes_sequence (goes_many_behind [] (until_shown RightBrace) (object_field_inner p q one)) refl (λ fields.
    goes_sequence (goes_sign RightBrace 125 refl) refl (λ closing. goes_sequence (goes_place start) refl (λ span. goes_answer _))))))

value_with_goes : (constant : Bool) (list list2 object object2 : Reader Value) → Inner [] true list list2 → Inner [] true object object2 →
    Goes [] (name_word ∷ []) (value_with constant list object) (value_with constant list2 object2)
unfolding value_with same_kind
value_with_goes constant list list2 object object2 f g = goes_second (kind_shown LeftBracket) refl refl f (goes_second (kind_shown LeftBrace) refl refl g (plain_value_goes constant))

pub value_goes : (constant more : Bool) (depth : ℕ) → Goes [] (name_word ∷ []) (value_at constant depth) (value_at constant (levels more depth))
unfolding value_at
value_goes constant false zero = value_with_goes constant _ _ _ _ (inner_too_deep [] true _) (inner_too_deep [] true _)
value_goes constant true zero = value_with_goes constant _ _ _ _ (inner_too_deep [] true _) (inner_too_deep [] true _)
value_goes constant false (suc depth) =
    value_with_goes constant _ _ _ _ (list_inner _ _ (value_goes constant false depth)) (object_inner _ _ (value_goes constant false depth))
value_goes constant true (suc depth) =
    value_with_goes constant _ _ _ _ (list_inner _ _ (value_goes constant true depth)) (object_inner _ _ (value_goes constant true depth))

pub default_value_goes : (more : Bool) (depth : ℕ) → Goes (kind_view Equals ∷ []) [] (default_value_at depth) (default_value_at (levels more depth))
unfolding default_value_at same_kind
default_value_goes more depth =
    goes_optional (kind_shown Equals) (moving refl (goes_sequence (goes_sign Equals 61 refl) refl (λ equals. goes_sequence (value_goes true more depth) refl (λ value. goes_answer _)))) (goes_answer _)

-- arguments and directives
argument_goes : (constant more : Bool) (depth : ℕ) → Goes [] (name_word ∷ sign Colon 58 ∷ name_word ∷ []) (argument_at constant depth) (argument_at constant (levels more depth))
unfolding argument_at same_kind
argument_goes constant more depth =
    goes_starting refl (λ start. goes_sequence goes_name refl (λ name. goes_sequence (goes_sign Colon 58 refl) refl (λ colon.
    goes_sequence (value_goes constant more depth) refl (λ value. goes_sequence (goes_place start) refl (λ span. goes_answer _)))))

pub arguments_goes : (constant more : Bool) (depth : ℕ) → Goes (kind_view LeftParenthesis ∷ []) [] (arguments_at constant depth) (arguments_at constant (levels more depth))
unfolding arguments_at arguments_in same_kind
arguments_goes constant more depth =
    goes_optional (kind_shown LeftParenthesis) (moving refl (goes_sequence (goes_sign LeftParenthesis 40 refl) refl (λ opening.
    goes_sequence (goes_some refl (until_shown RightParenthesis) (argument_goes constant more depth)) refl (λ found.
    goes_sequence (goes_sign RightParenthesis 41 refl) refl (λ closing. goes_answer _))))) (goes_answer _)

pub directive_goes : (constant more : Bool) (depth : ℕ) →
    Goes (kind_view LeftParenthesis ∷ []) (sign At 64 ∷ name_word ∷ []) (directive_at constant depth) (directive_at constant (levels more depth))
unfolding directive_at same_kind
directive_goes constant more depth =
    goes_starting refl (λ start. goes_sequence (goes_sign At 64 refl) refl (λ at. goes_sequence goes_name refl (λ name.
    goes_sequence (arguments_goes constant more depth) refl (λ arguments. goes_sequence (goes_place start) refl (λ span. goes_answer _)))))

abbrev pub directives_views : List View
directives_views = kind_view At ∷ kind_view LeftParenthesis ∷ []

pub directives_goes : (constant more : Bool) (depth : ℕ) → Goes directives_views [] (directives_at constant depth) (directives_at constant (levels more depth))
unfolding directives_at
directives_goes constant more depth = goes_many_behind [] (kind_shown At) (moving refl (directive_goes constant more depth))

pub operation_type_goes : Goes [] (keyword_word keyword.Query ∷ []) operation_type_at operation_type_at
unfolding operation_type_at same_kind
operation_type_goes =
    goes_first (keyword_shown keyword.Query) refl refl (goes_sequence (goes_keyword keyword.Query refl) refl (λ found. goes_answer _))
    (inner_choose (keyword_shown keyword.Mutation) (moving refl (goes_sequence (goes_keyword keyword.Mutation refl) refl (λ found. goes_answer _)))
    (inner_choose (keyword_shown keyword.Subscription) (moving refl (goes_sequence (goes_keyword keyword.Subscription refl) refl (λ found. goes_answer _)))
    (inner_refuse [] true expected.OperationType)))
