-- The reader of values answers by their grammar.
use Rattle.std.proofs.Common.{◌≡◌, ℕ, zero, suc, ◌-◌, ◌<◌, ◌≢◌, Bool, true, false, inl, inr, List, ◌∷◌, length, Result, Ok, Err, refl, sym, subst, ◌∙◌, ap, arith}
use Rattle.graphql_nodes.specs.Names.{NameText}
use Rattle.graphql_strings.proofs.ValueLemmas.{string_value_is, string_value_found}
use Rattle.graphql_tokens.specs.declared.token.TokenKind.TheVariants.{Dollar, Colon, LeftBracket, LeftBrace}
use Rattle.graphql_trees.specs.declared.values.Value.{Value}
use Rattle.graphql_trees.specs.declared.values.Value.TheVariants as tree
use Rattle.graphql_trees.specs.declared.values.ObjectField.{ObjectField, roll-ObjectField}
use Rattle.graphql_trees.specs.declared.values.StringLiteral.{StringLiteral}
use Rattle.graphql_trees.specs.declared.values.Variable.{Variable}
use Rattle.graphql_syntax.specs.declared.refusals.Refusal.{Refusal}
use Rattle.graphql_syntax.specs.declared.refusals.Refusal.TheVariants.{TooDeep}
use Rattle.graphql_syntax.specs.Inputs.{Input, next_text, between, sees, Takes, IsName}
use Rattle.graphql_syntax.specs.Many.{Many, nothing, more}
use Rattle.graphql_syntax.specs.Reading.{choose, too_deep}
use Rattle.graphql_syntax.specs.ValueReaders.{variable_at, string_literal_at, variable_value_at, int_at, float_at, boolean_at, null_at, word_value_at, plain_value_at, object_field_with, list_with, object_with, value_with, value_at}
use Rattle.graphql_syntax.specs.Values.{IsVariable, IsStringLiteral, IsValue, variable, int, float, string, true_value, false_value, null_value, enum_value, list, object, AreValues, no_values, more_values, AreObjectFields, no_fields, more_fields}
use Rattle.graphql_syntax.proofs.Locality.{Local, takes_less, local_sequence, local_answer, local_place, local_starting, kind_is_plain, string_is_plain}
use Rattle.graphql_syntax.proofs.TokenLocality.{local_take_one, local_text_with, local_name}
use Rattle.graphql_syntax.proofs.ReaderLemmas.{sequence_ok, sequence_read, choose_ok, starting_ok, starting_read, placed_is, placed_read, answer_is, take_one_ok, take_one_read, text_with_ok, text_with_read, name_ok, name_read, too_deep_not_ok, refuse_not_ok}
use Rattle.graphql_syntax.proofs.RepetitionLemmas.{many_sound}

pub value_plain : (constant : Bool) (depth : ℕ) (i : Input) → sees LeftBracket i ≡ false → sees LeftBrace i ≡ false → value_at constant depth i ≡ plain_value_at constant i
unfolding value_at value_with choose
value_plain constant zero i e f = rw (e, f) refl
value_plain constant (suc depth) i e f = rw (e, f) refl

pub value_listed : (constant : Bool) (depth : ℕ) (i : Input) → sees LeftBracket i ≡ true → depth ≢ 0 → value_at constant depth i ≡ list_with (value_at constant (depth - 1)) i
unfolding value_at value_with choose
value_listed constant zero i e n = absurd (n refl)
value_listed constant (suc depth) i e n = let same : suc depth - 1 ≡ depth = omega arith in rw (e, same) refl

pub list_too_deep : (constant : Bool) (depth : ℕ) (i : Input) → sees LeftBracket i ≡ true → depth ≡ 0 → value_at constant depth i ≡ Err (TooDeep (length i.tokens))
unfolding value_at value_with choose too_deep
list_too_deep constant zero i e n = rw e refl
list_too_deep constant (suc depth) i e n = absurd (omega arith)

pub value_object : (constant : Bool) (depth : ℕ) (i : Input) → sees LeftBracket i ≡ false → sees LeftBrace i ≡ true → depth ≢ 0 → value_at constant depth i ≡ object_with (value_at constant (depth - 1)) i
unfolding value_at value_with choose
value_object constant zero i e f n = absurd (n refl)
value_object constant (suc depth) i e f n = let same : suc depth - 1 ≡ depth = omega arith in rw (e, f, same) refl

pub object_too_deep : (constant : Bool) (depth : ℕ) (i : Input) → sees LeftBracket i ≡ false → sees LeftBrace i ≡ true → depth ≡ 0 → value_at constant depth i ≡ Err (TooDeep (length i.tokens))
unfolding value_at value_with choose too_deep
object_too_deep constant zero i e f n = rw (e, f) refl
object_too_deep constant (suc depth) i e f n = absurd (omega arith)

-- one value
pub variable_sound : (i : Input) (r : Variable × Input) → variable_at i ≡ Ok r → IsVariable i r.0 r.1
unfolding variable_at
variable_sound i r e =
    let (dollar, ed, e1) = sequence_ok _ _ _ _ (starting_ok _ _ _ e) in
    let (name, en, e2) = sequence_ok _ _ _ _ e1 in
    subst (λ (q : Variable × Input). IsVariable i q.0 q.1) (placed_is _ (λ span. record { name = name.0; span = span }) _ _ e2)
    (record { behind_dollar = dollar.1; dollar = take_one_ok _ _ _ _ ed; name = name_ok _ _ en; span = refl })

pub variable_read : (i : Input) (x : Variable) (j : Input) → IsVariable i x j → variable_at i ≡ Ok (x, j)
unfolding variable_at
variable_read i x j is =
    starting_read _ i _ (sequence_read _ _ i tt is.behind_dollar _ (take_one_read _ _ i is.behind_dollar is.dollar)
    (sequence_read _ _ is.behind_dollar x.name j _ (name_read is.behind_dollar x.name j is.name)
    (placed_read _ (λ span. record { name = x.name; span = span }) j ∙ ap (λ s. ok (record { name = x.name; span = s })) (sym is.span)))) where
      ok : Variable → Result (Variable × Input) Refusal
      ok y = Ok (y, j)

pub variable_moves : (i : Input) (x : Variable) (j : Input) → IsVariable i x j → length j.tokens < length i.tokens
variable_moves i x j is = omega (arith, takes_less _ i is.behind_dollar is.dollar, takes_less _ is.behind_dollar j is.name.takes)

pub variable_local : (depth : ℕ) → Local depth variable_at
unfolding variable_at
variable_local depth =
    local_starting depth _ (λ start. local_sequence depth _ _ (local_take_one depth _ _ (kind_is_plain Dollar refl refl)) (λ dollar.
    local_sequence depth _ _ (local_name depth) (λ name.
    local_sequence depth _ _ (local_place depth start) (λ span. local_answer depth _))))

pub string_literal_sound : (i : Input) (r : StringLiteral × Input) → string_literal_at i ≡ Ok r → IsStringLiteral i r.0 r.1
unfolding string_literal_at
string_literal_sound i r e =
    let (value, ev, e1) = sequence_ok _ _ _ _ (starting_ok _ _ _ e) in
    let (takes, same) = text_with_ok _ _ _ _ _ ev in
    subst (λ (q : StringLiteral × Input). IsStringLiteral i q.0 q.1) (placed_is _ (λ span. record { value = value.0; span = span }) _ _ e1)
    (record { takes = takes; value = string_value_is (next_text i) value.0 same; span = refl })

pub string_literal_read : (i : Input) (x : StringLiteral) (j : Input) → IsStringLiteral i x j → string_literal_at i ≡ Ok (x, j)
unfolding string_literal_at
string_literal_read i x j is =
    starting_read _ i _ (sequence_read _ _ i x.value j _ (text_with_read _ _ _ i j x.value is.takes (string_value_found (next_text i) x.value is.value))
    (placed_read _ (λ span. record { value = x.value; span = span }) j ∙ ap (λ s. ok (record { value = x.value; span = s })) (sym is.span))) where
      ok : StringLiteral → Result (StringLiteral × Input) Refusal
      ok y = Ok (y, j)

pub string_literal_local : (depth : ℕ) → Local depth string_literal_at
unfolding string_literal_at
string_literal_local depth =
    local_starting depth _ (λ start. local_sequence depth _ _ (local_text_with depth _ _ _ string_is_plain) (λ value.
    local_sequence depth _ _ (local_place depth start) (λ span. local_answer depth _)))

-- what a value is that is no list and no object
int_sound : (constant : Bool) (depth : ℕ) (i : Input) (r : Value × Input) → int_at i ≡ Ok r → IsValue constant depth i r.0 r.1
unfolding int_at
int_sound constant depth i r e =
    let (text, et, e1) = sequence_ok _ _ _ _ (starting_ok _ _ _ e) in
    let (takes, same) = text_with_ok _ _ _ _ _ et in
    subst (λ (q : Value × Input). IsValue constant depth i q.0 q.1) (placed_is _ (λ span. tree.Int text.0 span) _ _ e1)
    (subst (λ t. IsValue constant depth i (tree.Int t (between i text.1)) text.1) (let s : next_text i ≡ text.0 = cc in s) (int i text.1 takes))

float_sound : (constant : Bool) (depth : ℕ) (i : Input) (r : Value × Input) → float_at i ≡ Ok r → IsValue constant depth i r.0 r.1
unfolding float_at
float_sound constant depth i r e =
    let (text, et, e1) = sequence_ok _ _ _ _ (starting_ok _ _ _ e) in
    let (takes, same) = text_with_ok _ _ _ _ _ et in
    subst (λ (q : Value × Input). IsValue constant depth i q.0 q.1) (placed_is _ (λ span. tree.Float text.0 span) _ _ e1)
    (subst (λ t. IsValue constant depth i (tree.Float t (between i text.1)) text.1) (let s : next_text i ≡ text.0 = cc in s) (float i text.1 takes))

boolean_sound : (constant : Bool) (depth : ℕ) (value : Bool) (i : Input) (r : Value × Input) → boolean_at value i ≡ Ok r → IsValue constant depth i r.0 r.1
unfolding boolean_at
boolean_sound constant depth true i r e =
    let (word, ew, e1) = sequence_ok _ _ _ _ (starting_ok _ _ _ e) in
    subst (λ (q : Value × Input). IsValue constant depth i q.0 q.1) (placed_is _ (λ span. tree.Boolean true span) _ _ e1)
    (true_value i word.1 (take_one_ok _ _ _ _ ew))
boolean_sound constant depth false i r e =
    let (word, ew, e1) = sequence_ok _ _ _ _ (starting_ok _ _ _ e) in
    subst (λ (q : Value × Input). IsValue constant depth i q.0 q.1) (placed_is _ (λ span. tree.Boolean false span) _ _ e1)
    (false_value i word.1 (take_one_ok _ _ _ _ ew))

null_sound : (constant : Bool) (depth : ℕ) (i : Input) (r : Value × Input) → null_at i ≡ Ok r → IsValue constant depth i r.0 r.1
unfolding null_at
null_sound constant depth i r e =
    let (word, ew, e1) = sequence_ok _ _ _ _ (starting_ok _ _ _ e) in
    subst (λ (q : Value × Input). IsValue constant depth i q.0 q.1) (placed_is _ (λ span. tree.Null span) _ _ e1)
    (null_value i word.1 (take_one_ok _ _ _ _ ew))

word_sound : (constant : Bool) (depth : ℕ) (i : Input) (r : Value × Input) → word_value_at i ≡ Ok r → IsValue constant depth i r.0 r.1
unfolding word_value_at
word_sound constant depth i r e = elim (choose_ok _ _ _ _ _ e) [
  | inl h ↦ boolean_sound constant depth true i r h.1
  | inr h ↦ elim (choose_ok _ _ _ _ _ h.1) [
    | inl k ↦ boolean_sound constant depth false i r k.1
    | inr k ↦ elim (choose_ok _ _ _ _ _ k.1) [
      | inl l ↦ null_sound constant depth i r l.1
      | inr l ↦
          let (name, en, e1) = sequence_ok _ _ _ _ l.1 in
          subst (λ (q : Value × Input). IsValue constant depth i q.0 q.1) (answer_is _ _ _ e1)
          (enum_value i name.1 name.0 (record { is_name = name_ok _ _ en; not_true = h.0; not_false = k.0; not_null = l.0 }))
    ]
  ]
]

variable_value_sound : (constant : Bool) (depth : ℕ) (i : Input) (r : Value × Input) → variable_value_at constant i ≡ Ok r → IsValue constant depth i r.0 r.1
unfolding variable_value_at
variable_value_sound true depth i r e = absurd (refuse_not_ok _ i r e)
variable_value_sound false depth i r e =
    let (x, ex, e1) = sequence_ok _ _ _ _ e in
    subst (λ (q : Value × Input). IsValue false depth i q.0 q.1) (answer_is _ _ _ e1) (variable i x.1 x.0 (variable_sound i x ex))

plain_sound : (constant : Bool) (depth : ℕ) (i : Input) (r : Value × Input) → plain_value_at constant i ≡ Ok r → IsValue constant depth i r.0 r.1
unfolding plain_value_at
plain_sound constant depth i r e = elim (choose_ok _ _ _ _ _ e) [
  | inl h ↦ word_sound constant depth i r h.1
  | inr h ↦ elim (choose_ok _ _ _ _ _ h.1) [
    | inl k ↦ int_sound constant depth i r k.1
    | inr k ↦ elim (choose_ok _ _ _ _ _ k.1) [
      | inl l ↦ float_sound constant depth i r l.1
      | inr l ↦ elim (choose_ok _ _ _ _ _ l.1) [
        | inl m ↦
            let (x, ex, e1) = sequence_ok _ _ _ _ m.1 in
            subst (λ (q : Value × Input). IsValue constant depth i q.0 q.1) (answer_is _ _ _ e1) (string i x.1 x.0 (string_literal_sound i x ex))
        | inr m ↦ elim (choose_ok _ _ _ _ _ m.1) [
          | inl n ↦ variable_value_sound constant depth i r n.1
          | inr n ↦ absurd (refuse_not_ok _ i r n.1)
        ]
      ]
    ]
  ]
]

-- lists and objects
are_values : (constant : Bool) (depth : ℕ) (i : Input) (xs : List Value) (j : Input) → Many (IsValue constant depth) i xs j → AreValues constant depth i xs j
are_values constant depth _ _ _ (nothing i) = no_values i
are_values constant depth _ _ _ (more i m j x xs is are) = more_values i m j x xs is (are_values constant depth m xs j are)

pub are_many : (constant : Bool) (depth : ℕ) (i : Input) (xs : List Value) (j : Input) → AreValues constant depth i xs j → Many (IsValue constant depth) i xs j
are_many _ _ _ _ _ (no_values i) = nothing i
are_many _ _ _ _ _ (more_values {constant} {depth} i m j x xs is are) = more i m j x xs is (are_many constant depth m xs j are)

-- an object field: Name : Value
pub data IsField (constant : Bool) (depth : ℕ) : Input → ObjectField → Input → Type 0 where
  field : (i m n k : Input) (name : NameText) (value : Value) → IsName i name m → Takes Colon m n → IsValue constant depth n value k →
      IsField constant depth i (roll-ObjectField (record { name = name; value = value; span = between i k })) k

are_fields : (constant : Bool) (depth : ℕ) (i : Input) (xs : List ObjectField) (j : Input) → Many (IsField constant depth) i xs j → AreObjectFields constant depth i xs j
are_fields constant depth _ _ _ (nothing i) = no_fields i
are_fields constant depth _ _ _ (more i m j x xs is are) = step i x m j xs is (are_fields constant depth m xs j are) where
  step : (i : Input) (x : ObjectField) (m j : Input) (xs : List ObjectField) → IsField constant depth i x m → AreObjectFields constant depth m xs j → AreObjectFields constant depth i (x ∷ xs) j
  step _ _ _ j xs (field i m n k name value is colon v) are = more_fields i m n k j name value xs is colon v are

pub fields_many : (constant : Bool) (depth : ℕ) (i : Input) (xs : List ObjectField) (j : Input) → AreObjectFields constant depth i xs j → Many (IsField constant depth) i xs j
fields_many _ _ _ _ _ (no_fields i) = nothing i
fields_many _ _ _ _ _ (more_fields {constant} {depth} i m n k j name value xs is colon v are) =
    more i k j _ xs (field i m n k name value is colon v) (fields_many constant depth k xs j are)

unfoldable pub Sound : Bool → ℕ → Type 0
Sound constant depth = (i : Input) (r : Value × Input) → value_at constant depth i ≡ Ok r → IsValue constant depth i r.0 r.1

pub field_sound : (constant : Bool) (depth : ℕ) → Sound constant depth → (i : Input) (r : ObjectField × Input) → object_field_with (value_at constant depth) i ≡ Ok r → IsField constant depth i r.0 r.1
unfolding object_field_with Sound
field_sound constant depth inside i r e =
    let (name, en, e1) = sequence_ok _ _ _ _ (starting_ok _ _ _ e) in
    let (colon, ec, e2) = sequence_ok _ _ _ _ e1 in
    let (value, ev, e3) = sequence_ok _ _ _ _ e2 in
    subst (λ (q : ObjectField × Input). IsField constant depth i q.0 q.1)
    (placed_is _ (λ span. roll-ObjectField (record { name = name.0; value = value.0; span = span })) _ _ e3)
    (field i name.1 colon.1 value.1 name.0 value.0 (name_ok _ _ en) (take_one_ok _ _ _ _ ec) (inside colon.1 value ev))

list_sound : (constant : Bool) (depth : ℕ) → Sound constant depth → (i : Input) (r : Value × Input) → list_with (value_at constant depth) i ≡ Ok r → IsValue constant (suc depth) i r.0 r.1
unfolding list_with Sound
list_sound constant depth inside i r e =
    let (opening, eo, e1) = sequence_ok _ _ _ _ (starting_ok _ _ _ e) in
    let (items, ei, e2) = sequence_ok _ _ _ _ e1 in
    let (closing, ec, e3) = sequence_ok _ _ _ _ e2 in
    let are = many_sound (IsValue constant depth) _ _ inside opening.1 items ei in
    subst (λ (q : Value × Input). IsValue constant (suc depth) i q.0 q.1) (placed_is _ (λ span. tree.List items.0 span) _ _ e3)
    (list i opening.1 items.1 closing.1 items.0 (take_one_ok _ _ _ _ eo) (are_values constant depth opening.1 items.0 items.1 are) (take_one_ok _ _ _ _ ec))

object_sound : (constant : Bool) (depth : ℕ) → Sound constant depth → (i : Input) (r : Value × Input) → object_with (value_at constant depth) i ≡ Ok r → IsValue constant (suc depth) i r.0 r.1
unfolding object_with
object_sound constant depth inside i r e =
    let (opening, eo, e1) = sequence_ok _ _ _ _ (starting_ok _ _ _ e) in
    let (fields, ef, e2) = sequence_ok _ _ _ _ e1 in
    let (closing, ec, e3) = sequence_ok _ _ _ _ e2 in
    let are = many_sound (IsField constant depth) _ _ (field_sound constant depth inside) opening.1 fields ef in
    subst (λ (q : Value × Input). IsValue constant (suc depth) i q.0 q.1) (placed_is _ (λ span. tree.Object fields.0 span) _ _ e3)
    (object i opening.1 fields.1 closing.1 fields.0 (take_one_ok _ _ _ _ eo) (are_fields constant depth opening.1 fields.0 fields.1 are) (take_one_ok _ _ _ _ ec))

pub value_sound : (constant : Bool) (depth : ℕ) (i : Input) (r : Value × Input) → value_at constant depth i ≡ Ok r → IsValue constant depth i r.0 r.1
unfolding value_at value_with Sound
value_sound constant zero i r e = elim (choose_ok _ _ _ _ _ e) [
  | inl h ↦ absurd (too_deep_not_ok i r h.1)
  | inr h ↦ elim (choose_ok _ _ _ _ _ h.1) [ inl k ↦ absurd (too_deep_not_ok i r k.1) | inr k ↦ plain_sound constant 0 i r k.1 ]
]
value_sound constant (suc depth) i r e = elim (choose_ok _ _ _ _ _ e) [
  | inl h ↦ list_sound constant depth (value_sound constant depth) i r h.1
  | inr h ↦ elim (choose_ok _ _ _ _ _ h.1) [
    | inl k ↦ object_sound constant depth (value_sound constant depth) i r k.1
    | inr k ↦ plain_sound constant (suc depth) i r k.1
  ]
]
