-- Each way to write a value is read, and by what is read and the token behind it alone.
use Rattle.std.proofs.Common.{◌≡◌, ℕ, zero, suc, ◌<◌, ◌≤◌, Bool, true, false, not, ◌&&◌, ◌||◌, List, [], length, Ok, refl, subst, ◌∙◌, arith}
use Rattle.graphql_nodes.specs.Names.{NameText}
use Rattle.graphql_tokens.specs.declared.token.TokenKind.{TokenKind}
use Rattle.graphql_tokens.specs.declared.token.TokenKind.TheVariants.{Name, Dollar, Colon, LeftBracket, RightBracket, LeftBrace, RightBrace, IntValue, FloatValue}
use Rattle.graphql_trees.specs.declared.values.Value.{Value}
use Rattle.graphql_trees.specs.declared.values.Value.TheVariants as tree
use Rattle.graphql_trees.specs.declared.values.ObjectField.{ObjectField, roll-ObjectField}
use Rattle.graphql_trees.specs.declared.values.StringLiteral.{StringLiteral}
use Rattle.graphql_trees.specs.declared.values.Variable.{Variable}
use Rattle.graphql_syntax.specs.declared.keywords.Keyword.TheVariants as keyword
use Rattle.graphql_syntax.specs.declared.production.More.TheVariants.{Until}
use Rattle.graphql_syntax.specs.Inputs.{same_kind, Input, next_passes, next_text, between, sees, Takes, TakesKeyword}
use Rattle.graphql_syntax.specs.Reading.{more_test}
use Rattle.graphql_syntax.specs.ValueReaders.{variable_value_at, int_at, float_at, boolean_at, null_at, word_value_at, plain_value_at, object_field_with, list_with, object_with, value_with, value_at}
use Rattle.graphql_syntax.specs.Values.{IsVariable, IsStringLiteral, IsEnumValueName, IsValue, variable, int, float, string, true_value, false_value, null_value, enum_value, list, object, AreValues, no_values, more_values, AreObjectFields, no_fields, more_fields}
use Rattle.graphql_syntax.proofs.Locality.{Local, Moves, takes_less, local_sequence, local_choose, local_answer, local_refuse, local_place, local_starting, kind_is_plain, keyword_is_plain}
use Rattle.graphql_syntax.proofs.TokenLocality.{local_take_one, local_text_with, local_name, local_too_deep, local_bracketed}
use Rattle.graphql_syntax.proofs.NextLemmas.{by_kind, all_kinds, is_string_kind, passes_so, passes_not, keyword_is_name, other_keyword}
use Rattle.graphql_syntax.proofs.ReaderLemmas.{sequence_read, choose_first, choose_second, starting_read, placed_read, answer_read, take_one_read, text_with_read, name_read}
use Rattle.graphql_syntax.proofs.RepetitionLemmas.{Item, Anything, many_read, local_many}
use Rattle.graphql_syntax.proofs.ValueLemmas.{IsField, Sound, are_many, field, field_sound, fields_many, string_literal_local, string_literal_read, value_plain, value_sound, variable_local, variable_moves, variable_read}

-- each way to write a value is read
name_first : (i m : Input) → sees Name i ≡ true → (sees LeftBracket i ≡ false) × (sees LeftBrace i ≡ false)
unfolding same_kind
name_first i m e = (passes_not (λ k. same_kind k Name) (λ k. same_kind k LeftBracket) refl i e, passes_not (λ k. same_kind k Name) (λ k. same_kind k LeftBrace) refl i e)

-- a value that begins with a name is read as a word
word_read : (constant : Bool) (depth : ℕ) (i : Input) (r : Value × Input) → sees Name i ≡ true → word_value_at i ≡ Ok r → value_at constant depth i ≡ Ok r
unfolding plain_value_at
word_read constant depth i r s e =
    let (no_bracket, no_brace) = name_first i i s in
    value_plain constant depth i no_bracket no_brace ∙ choose_first _ _ _ i s ∙ e

-- a value of one token that is no name
plain_read : (constant : Bool) (depth : ℕ) (i : Input) (r : Value × Input) (f : TokenKind → Bool) →
    all_kinds (λ k. not (f k && same_kind k LeftBracket)) ≡ true → all_kinds (λ k. not (f k && same_kind k LeftBrace)) ≡ true →
    next_passes (by_kind f) i ≡ true → plain_value_at constant i ≡ Ok r → value_at constant depth i ≡ Ok r
plain_read constant depth i r f a b s e =
    value_plain constant depth i (passes_not f (λ k. same_kind k LeftBracket) a i s) (passes_not f (λ k. same_kind k LeftBrace) b i s) ∙ e

int_read : (constant : Bool) (depth : ℕ) (i j : Input) → Takes IntValue i j → value_at constant depth i ≡ Ok (tree.Int (next_text i) (between i j), j)
unfolding plain_value_at int_at same_kind
int_read constant depth i j is =
    let seen = is.comes in
    plain_read constant depth i _ (λ k. same_kind k IntValue) refl refl seen
    (choose_second _ _ _ i (passes_not (λ k. same_kind k IntValue) (λ k. same_kind k Name) refl i seen) ∙ choose_first _ _ _ i seen ∙
    starting_read _ i _ (sequence_read _ _ i (next_text i) j _ (text_with_read _ _ _ i j (next_text i) is refl) (placed_read _ (λ span. tree.Int (next_text i) span) j)))

float_read : (constant : Bool) (depth : ℕ) (i j : Input) → Takes FloatValue i j → value_at constant depth i ≡ Ok (tree.Float (next_text i) (between i j), j)
unfolding plain_value_at float_at same_kind
float_read constant depth i j is =
    let seen = is.comes in
    plain_read constant depth i _ (λ k. same_kind k FloatValue) refl refl seen
    (choose_second _ _ _ i (passes_not (λ k. same_kind k FloatValue) (λ k. same_kind k Name) refl i seen) ∙
    choose_second _ _ _ i (passes_not (λ k. same_kind k FloatValue) (λ k. same_kind k IntValue) refl i seen) ∙ choose_first _ _ _ i seen ∙
    starting_read _ i _ (sequence_read _ _ i (next_text i) j _ (text_with_read _ _ _ i j (next_text i) is refl) (placed_read _ (λ span. tree.Float (next_text i) span) j)))

string_read : (constant : Bool) (depth : ℕ) (i j : Input) (x : StringLiteral) → IsStringLiteral i x j → value_at constant depth i ≡ Ok (tree.String x, j)
unfolding plain_value_at same_kind
string_read constant depth i j x is =
    let takes = is.takes in
    let seen = takes.comes in
    plain_read constant depth i _ is_string_kind refl refl seen
    (choose_second _ _ _ i (passes_not is_string_kind (λ k. same_kind k Name) refl i seen) ∙
    choose_second _ _ _ i (passes_not is_string_kind (λ k. same_kind k IntValue) refl i seen) ∙
    choose_second _ _ _ i (passes_not is_string_kind (λ k. same_kind k FloatValue) refl i seen) ∙ choose_first _ _ _ i seen ∙
    sequence_read _ _ i x j _ (string_literal_read i x j is) (answer_read _ j))

variable_value_read : (depth : ℕ) (i j : Input) (x : Variable) → IsVariable i x j → value_at false depth i ≡ Ok (tree.Variable x, j)
unfolding plain_value_at variable_value_at same_kind
variable_value_read depth i j x is =
    let takes = is.dollar in
    let seen = takes.comes in
    plain_read false depth i _ (λ k. same_kind k Dollar) refl refl seen
    (choose_second _ _ _ i (passes_not (λ k. same_kind k Dollar) (λ k. same_kind k Name) refl i seen) ∙
    choose_second _ _ _ i (passes_not (λ k. same_kind k Dollar) (λ k. same_kind k IntValue) refl i seen) ∙
    choose_second _ _ _ i (passes_not (λ k. same_kind k Dollar) (λ k. same_kind k FloatValue) refl i seen) ∙
    choose_second _ _ _ i (passes_not (λ k. same_kind k Dollar) is_string_kind refl i seen) ∙ choose_first _ _ _ i seen ∙
    sequence_read _ _ i x j _ (variable_read i x j is) (answer_read _ j))

true_read : (constant : Bool) (depth : ℕ) (i j : Input) → TakesKeyword keyword.True i j → value_at constant depth i ≡ Ok (tree.Boolean true (between i j), j)
unfolding word_value_at boolean_at
true_read constant depth i j is =
    word_read constant depth i _ (keyword_is_name keyword.True i is.comes)
    (choose_first _ _ _ i is.comes ∙
    starting_read _ i _ (sequence_read _ _ i tt j _ (take_one_read _ _ i j is) (placed_read _ (λ span. tree.Boolean true span) j)))

false_read : (constant : Bool) (depth : ℕ) (i j : Input) → TakesKeyword keyword.False i j → value_at constant depth i ≡ Ok (tree.Boolean false (between i j), j)
unfolding word_value_at boolean_at
false_read constant depth i j is =
    word_read constant depth i _ (keyword_is_name keyword.False i is.comes)
    (choose_second _ _ _ i (other_keyword keyword.False keyword.True i refl is.comes) ∙ choose_first _ _ _ i is.comes ∙
    starting_read _ i _ (sequence_read _ _ i tt j _ (take_one_read _ _ i j is) (placed_read _ (λ span. tree.Boolean false span) j)))

null_read : (constant : Bool) (depth : ℕ) (i j : Input) → TakesKeyword keyword.Null i j → value_at constant depth i ≡ Ok (tree.Null (between i j), j)
unfolding word_value_at null_at
null_read constant depth i j is =
    word_read constant depth i _ (keyword_is_name keyword.Null i is.comes)
    (choose_second _ _ _ i (other_keyword keyword.Null keyword.True i refl is.comes) ∙
    choose_second _ _ _ i (other_keyword keyword.Null keyword.False i refl is.comes) ∙ choose_first _ _ _ i is.comes ∙
    starting_read _ i _ (sequence_read _ _ i tt j _ (take_one_read _ _ i j is) (placed_read _ (λ span. tree.Null span) j)))

enum_read : (constant : Bool) (depth : ℕ) (i j : Input) (name : NameText) → IsEnumValueName i name j → value_at constant depth i ≡ Ok (tree.Enum name, j)
unfolding word_value_at
enum_read constant depth i j name is =
    let named = is.is_name in
    let takes = named.takes in
    word_read constant depth i _ takes.comes
    (choose_second _ _ _ i is.not_true ∙ choose_second _ _ _ i is.not_false ∙ choose_second _ _ _ i is.not_null ∙
    sequence_read _ _ i name j _ (name_read i name j named) (answer_read _ j))

-- with what a value begins: no bracket closes there
begins_value : TokenKind → Bool
begins_value k =
    same_kind k Name || (same_kind k IntValue || (same_kind k FloatValue || (is_string_kind k || (same_kind k Dollar || (same_kind k LeftBracket || same_kind k LeftBrace)))))

begins_with_kind : (f : TokenKind → Bool) (i : Input) → all_kinds (λ k. not (f k) || begins_value k) ≡ true → next_passes (by_kind f) i ≡ true → next_passes (by_kind begins_value) i ≡ true
begins_with_kind f i all s = passes_so f begins_value all i s

value_begins : (constant : Bool) (depth : ℕ) (i : Input) (x : Value) (j : Input) → IsValue constant depth i x j → next_passes (by_kind begins_value) i ≡ true
unfolding begins_value same_kind
value_begins _ _ _ _ _ (variable i j x is) = begins_with_kind (λ k. same_kind k Dollar) i refl is.dollar.comes
value_begins _ _ _ _ _ (int i j is) = begins_with_kind (λ k. same_kind k IntValue) i refl is.comes
value_begins _ _ _ _ _ (float i j is) = begins_with_kind (λ k. same_kind k FloatValue) i refl is.comes
value_begins _ _ _ _ _ (string i j x is) = begins_with_kind is_string_kind i refl is.takes.comes
value_begins _ _ _ _ _ (true_value i j is) = begins_with_kind (λ k. same_kind k Name) i refl (keyword_is_name keyword.True i is.comes)
value_begins _ _ _ _ _ (false_value i j is) = begins_with_kind (λ k. same_kind k Name) i refl (keyword_is_name keyword.False i is.comes)
value_begins _ _ _ _ _ (null_value i j is) = begins_with_kind (λ k. same_kind k Name) i refl (keyword_is_name keyword.Null i is.comes)
value_begins _ _ _ _ _ (enum_value i j name is) = begins_with_kind (λ k. same_kind k Name) i refl is.is_name.takes.comes
value_begins _ _ _ _ _ (list i m n j items opens are closes) = begins_with_kind (λ k. same_kind k LeftBracket) i refl opens.comes
value_begins _ _ _ _ _ (object i m n j fields opens are closes) = begins_with_kind (λ k. same_kind k LeftBrace) i refl opens.comes

-- fewer tokens are left
mutual
  pub value_moves : (constant : Bool) (depth : ℕ) (i : Input) (x : Value) (j : Input) → IsValue constant depth i x j → length j.tokens < length i.tokens
  value_moves _ _ _ _ _ (variable i j x is) = variable_moves i x j is
  value_moves _ _ _ _ _ (int i j is) = omega (arith, takes_less _ i j is)
  value_moves _ _ _ _ _ (float i j is) = omega (arith, takes_less _ i j is)
  value_moves _ _ _ _ _ (string i j x is) = omega (arith, takes_less _ i j is.takes)
  value_moves _ _ _ _ _ (true_value i j is) = omega (arith, takes_less _ i j is)
  value_moves _ _ _ _ _ (false_value i j is) = omega (arith, takes_less _ i j is)
  value_moves _ _ _ _ _ (null_value i j is) = omega (arith, takes_less _ i j is)
  value_moves _ _ _ _ _ (enum_value i j name is) = omega (arith, takes_less _ i j is.is_name.takes)
  value_moves _ _ _ _ _ (list {constant} {depth} i m n j items opens are closes) =
      omega (arith, takes_less _ i m opens, values_less constant depth m items n are, takes_less _ n j closes)
  value_moves _ _ _ _ _ (object {constant} {depth} i m n j fields opens are closes) =
      omega (arith, takes_less _ i m opens, fields_less constant depth m fields n are, takes_less _ n j closes)

  values_less : (constant : Bool) (depth : ℕ) (i : Input) (xs : List Value) (j : Input) → AreValues constant depth i xs j → length j.tokens ≤ length i.tokens
  values_less _ _ _ _ _ (no_values i) = omega arith
  values_less _ _ _ _ _ (more_values {constant} {depth} i m j x xs is are) =
      omega (arith, value_moves constant depth i x m is, values_less constant depth m xs j are)

  fields_less : (constant : Bool) (depth : ℕ) (i : Input) (xs : List ObjectField) (j : Input) → AreObjectFields constant depth i xs j → length j.tokens ≤ length i.tokens
  fields_less _ _ _ _ _ (no_fields i) = omega arith
  fields_less _ _ _ _ _ (more_fields {constant} {depth} i m n k j name value xs is colon v are) =
      omega (arith, takes_less _ i m is.takes, takes_less _ m n colon, value_moves constant depth n value k v, fields_less constant depth k xs j are)

field_moves : (constant : Bool) (depth : ℕ) (i : Input) (x : ObjectField) (j : Input) → IsField constant depth i x j → length j.tokens < length i.tokens
field_moves constant depth _ _ _ (field i m n k name value is colon v) =
    omega (arith, takes_less _ i m is.takes, takes_less _ m n colon, value_moves constant depth n value k v)

ReadsValues : Bool → ℕ → Type 0
ReadsValues constant depth = (i : Input) (x : Value) (j : Input) → IsValue constant depth i x j → value_at constant depth i ≡ Ok (x, j)

value_item : (constant : Bool) (depth : ℕ) → ReadsValues constant depth → Item (IsValue constant depth) (more_test (Until RightBracket)) (value_at constant depth) Anything
unfolding ReadsValues begins_value same_kind
value_item constant depth reads = record {
  reads = λ i x j is f. reads i x j is;
  passes = λ i x j is. passes_so begins_value (λ k. not (same_kind k RightBracket)) refl i (value_begins constant depth i x j is);
  follows = λ i x j is. tt;
  moves = value_moves constant depth;
}

field_read : (constant : Bool) (depth : ℕ) → ReadsValues constant depth → (i : Input) (x : ObjectField) (j : Input) → IsField constant depth i x j →
    object_field_with (value_at constant depth) i ≡ Ok (x, j)
unfolding object_field_with ReadsValues
field_read constant depth reads _ _ _ (field i m n k name value is colon v) =
    starting_read _ i _ (sequence_read _ _ i name m _ (name_read i name m is)
    (sequence_read _ _ m tt n _ (take_one_read _ _ m n colon)
    (sequence_read _ _ n value k _ (reads n value k v)
    (placed_read _ (λ span. roll-ObjectField (record { name = name; value = value; span = span })) k))))

field_item : (constant : Bool) (depth : ℕ) → ReadsValues constant depth → Item (IsField constant depth) (more_test (Until RightBrace)) (object_field_with (value_at constant depth)) Anything
unfolding same_kind
field_item constant depth reads = record {
  reads = λ i x j is f. field_read constant depth reads i x j is;
  passes = begins;
  follows = λ i x j is. tt;
  moves = field_moves constant depth;
} where
  begins : (i : Input) (x : ObjectField) (j : Input) → IsField constant depth i x j → next_passes (more_test (Until RightBrace)) i ≡ true
  begins _ _ _ (field i m n k name value is colon v) = passes_so (λ k. same_kind k Name) (λ k. not (same_kind k RightBrace)) refl i is.takes.comes

list_read : (constant : Bool) (depth : ℕ) → ReadsValues constant depth → (i m n j : Input) (items : List Value) → Takes LeftBracket i m → AreValues constant depth m items n → Takes RightBracket n j →
    value_at constant (suc depth) i ≡ Ok (tree.List items (between i j), j)
unfolding value_at value_with list_with same_kind
list_read constant depth reads i m n j items opens are closes =
    choose_first _ _ _ i opens.comes ∙
    starting_read _ i _ (sequence_read _ _ i tt m _ (take_one_read _ _ i m opens)
    (sequence_read _ _ m items n _
    (many_read (IsValue constant depth) _ _ Anything (value_item constant depth reads) m items n (are_many constant depth m items n are) tt
    (passes_not (λ k. same_kind k RightBracket) (λ k. not (same_kind k RightBracket)) refl n closes.comes))
    (sequence_read _ _ n tt j _ (take_one_read _ _ n j closes) (placed_read _ (λ span. tree.List items span) j))))

object_read : (constant : Bool) (depth : ℕ) → ReadsValues constant depth → (i m n j : Input) (fields : List ObjectField) → Takes LeftBrace i m → AreObjectFields constant depth m fields n → Takes RightBrace n j →
    value_at constant (suc depth) i ≡ Ok (tree.Object fields (between i j), j)
unfolding value_at value_with object_with same_kind
object_read constant depth reads i m n j fields opens are closes =
    choose_second _ _ _ i (passes_not (λ k. same_kind k LeftBrace) (λ k. same_kind k LeftBracket) refl i opens.comes) ∙
    choose_first _ _ _ i opens.comes ∙
    starting_read _ i _ (sequence_read _ _ i tt m _ (take_one_read _ _ i m opens)
    (sequence_read _ _ m fields n _
    (many_read (IsField constant depth) _ _ Anything (field_item constant depth reads) m fields n (fields_many constant depth m fields n are) tt
    (passes_not (λ k. same_kind k RightBrace) (λ k. not (same_kind k RightBrace)) refl n closes.comes))
    (sequence_read _ _ n tt j _ (take_one_read _ _ n j closes) (placed_read _ (λ span. tree.Object fields span) j))))

plain_value_read : (constant : Bool) (depth : ℕ) → ((below : ℕ) → depth ≡ suc below → ReadsValues constant below) →
    (i : Input) (x : Value) (j : Input) → IsValue constant depth i x j → value_at constant depth i ≡ Ok (x, j)
plain_value_read _ depth reads _ _ _ (variable i j x is) = variable_value_read depth i j x is
plain_value_read constant depth reads _ _ _ (int i j is) = int_read constant depth i j is
plain_value_read constant depth reads _ _ _ (float i j is) = float_read constant depth i j is
plain_value_read constant depth reads _ _ _ (string i j x is) = string_read constant depth i j x is
plain_value_read constant depth reads _ _ _ (true_value i j is) = true_read constant depth i j is
plain_value_read constant depth reads _ _ _ (false_value i j is) = false_read constant depth i j is
plain_value_read constant depth reads _ _ _ (null_value i j is) = null_read constant depth i j is
plain_value_read constant depth reads _ _ _ (enum_value i j name is) = enum_read constant depth i j name is
plain_value_read constant _ reads _ _ _ (list {depth = depth} i m n j items opens are closes) =
    list_read constant depth (reads depth refl) i m n j items opens are closes
plain_value_read constant _ reads _ _ _ (object {depth = depth} i m n j fields opens are closes) =
    object_read constant depth (reads depth refl) i m n j fields opens are closes

pub value_read : (constant : Bool) (depth : ℕ) (i : Input) (x : Value) (j : Input) → IsValue constant depth i x j → value_at constant depth i ≡ Ok (x, j)
unfolding ReadsValues
value_read constant zero = plain_value_read constant 0 (λ below e. absurd (omega arith))
value_read constant (suc depth) = plain_value_read constant (suc depth) (λ below e. subst (ReadsValues constant) (omega arith) (value_read constant depth))

-- and locally
boolean_local : (depth : ℕ) (value : Bool) → Local depth (boolean_at value)
unfolding boolean_at
boolean_local depth true =
    local_starting depth _ (λ start. local_sequence depth _ _ (local_take_one depth _ _ (keyword_is_plain keyword.True)) (λ word.
    local_sequence depth _ _ (local_place depth start) (λ span. local_answer depth _)))
boolean_local depth false =
    local_starting depth _ (λ start. local_sequence depth _ _ (local_take_one depth _ _ (keyword_is_plain keyword.False)) (λ word.
    local_sequence depth _ _ (local_place depth start) (λ span. local_answer depth _)))

word_local : (depth : ℕ) → Local depth word_value_at
unfolding word_value_at null_at
word_local depth =
    local_choose depth _ _ _ (boolean_local depth true) (local_choose depth _ _ _ (boolean_local depth false) (local_choose depth _ _ _
    (local_starting depth _ (λ start. local_sequence depth _ _ (local_take_one depth _ _ (keyword_is_plain keyword.Null)) (λ word.
    local_sequence depth _ _ (local_place depth start) (λ span. local_answer depth _))))
    (local_sequence depth _ _ (local_name depth) (λ name. local_answer depth _))))

variable_value_local : (depth : ℕ) (constant : Bool) → Local depth (variable_value_at constant)
unfolding variable_value_at
variable_value_local depth true = local_refuse depth _
variable_value_local depth false = local_sequence depth _ _ (variable_local depth) (λ x. local_answer depth _)

plain_local : (depth : ℕ) (constant : Bool) → Local depth (plain_value_at constant)
unfolding plain_value_at int_at float_at
plain_local depth constant =
    local_choose depth _ _ _ (word_local depth) (local_choose depth _ _ _
    (local_starting depth _ (λ start. local_sequence depth _ _ (local_text_with depth _ _ _ (kind_is_plain IntValue refl refl)) (λ text.
    local_sequence depth _ _ (local_place depth start) (λ span. local_answer depth _))))
    (local_choose depth _ _ _
    (local_starting depth _ (λ start. local_sequence depth _ _ (local_text_with depth _ _ _ (kind_is_plain FloatValue refl refl)) (λ text.
    local_sequence depth _ _ (local_place depth start) (λ span. local_answer depth _))))
    (local_choose depth _ _ _ (local_sequence depth _ _ (string_literal_local depth) (λ x. local_answer depth _))
    (local_choose depth _ _ _ (variable_value_local depth constant) (local_refuse depth _)))))

value_reader_moves : (constant : Bool) (depth : ℕ) → Moves (value_at constant depth)
value_reader_moves constant depth i r e = value_moves constant depth i r.0 r.1 (value_sound constant depth i r e)

field_local : (constant : Bool) (depth : ℕ) → Local depth (value_at constant depth) → Local depth (object_field_with (value_at constant depth))
unfolding object_field_with
field_local constant depth inside =
    local_starting depth _ (λ start. local_sequence depth _ _ (local_name depth) (λ name.
    local_sequence depth _ _ (local_take_one depth _ _ (kind_is_plain Colon refl refl)) (λ colon.
    local_sequence depth _ _ inside (λ value. local_sequence depth _ _ (local_place depth start) (λ span. local_answer depth _)))))

field_reader_moves : (constant : Bool) (depth : ℕ) → Moves (object_field_with (value_at constant depth))
unfolding Sound
field_reader_moves constant depth i r e = field_moves constant depth i r.0 r.1 (field_sound constant depth (value_sound constant depth) i r e)

list_local : (constant : Bool) (depth : ℕ) → Local depth (value_at constant depth) → Local (suc depth) (list_with (value_at constant depth))
unfolding list_with
list_local constant depth inside =
    local_starting (suc depth) _ (λ start. local_bracketed depth LeftBracket RightBracket _ _ refl refl refl refl
    (local_many depth _ _ [] inside (value_reader_moves constant depth)) (λ items.
    local_sequence (suc depth) _ _ (local_place (suc depth) start) (λ span. local_answer (suc depth) _)))

object_local : (constant : Bool) (depth : ℕ) → Local depth (value_at constant depth) → Local (suc depth) (object_with (value_at constant depth))
unfolding object_with
object_local constant depth inside =
    local_starting (suc depth) _ (λ start. local_bracketed depth LeftBrace RightBrace _ _ refl refl refl refl
    (local_many depth _ _ [] (field_local constant depth inside) (field_reader_moves constant depth)) (λ fields.
    local_sequence (suc depth) _ _ (local_place (suc depth) start) (λ span. local_answer (suc depth) _)))

pub value_local : (constant : Bool) (depth : ℕ) → Local depth (value_at constant depth)
unfolding value_at value_with
value_local constant zero = local_too_deep LeftBracket _ refl (local_too_deep LeftBrace _ refl (plain_local 0 constant))
value_local constant (suc depth) =
    local_choose (suc depth) _ _ _ (list_local constant depth (value_local constant depth))
    (local_choose (suc depth) _ _ _ (object_local constant depth (value_local constant depth)) (plain_local (suc depth) constant))
