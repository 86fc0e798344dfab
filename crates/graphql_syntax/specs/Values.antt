-- Values: `IsValue constant depth i tree j` where the tokens from i up to j are the value, lists and objects are nested at most so deep in one
-- another, and a constant value has no variable. Specification: 2.9 Input Values, and Appendix B.3 Document Syntax.
use Rattle.std.specs.Prelude.{◌≡◌, ℕ, suc, Bool, true, false, List, [], ◌∷◌, IsFalse}
use Rattle.graphql_nodes.specs.Names.{NameText}
use Rattle.graphql_tokens.specs.declared.token.TokenKind.TheVariants.{Dollar, Colon, LeftBracket, RightBracket, LeftBrace, RightBrace, IntValue, FloatValue}
use Rattle.graphql_strings.specs.Values.{HasStringValue}
use Rattle.graphql_trees.specs.declared.values.Value.{Value}
use Rattle.graphql_trees.specs.declared.values.Value.TheVariants as tree
use Rattle.graphql_trees.specs.declared.values.ObjectField.{ObjectField, roll-ObjectField}
use Rattle.graphql_trees.specs.declared.values.StringLiteral.{StringLiteral}
use Rattle.graphql_trees.specs.declared.values.Variable.{Variable}
use Rattle.graphql_syntax.specs.declared.keywords.Keyword.TheVariants as keyword
use Rattle.graphql_syntax.specs.Inputs.{Input, is_string, Takes, TakesOne, TakesKeyword, IsName, sees_keyword, next_text, between}

-- Variable : $ Name. Specification: 2.10 Variables
pub record IsVariable (i : Input) (x : Variable) (j : Input) : Type 0 where
  pub behind_dollar : Input
  pub dollar : Takes Dollar i behind_dollar
  pub name : IsName behind_dollar x.name j
  pub span : x.span ≡ between i j

-- StringValue. Specification: 2.9.4 String Value
pub record IsStringLiteral (i : Input) (x : StringLiteral) (j : Input) : Type 0 where
  pub takes : TakesOne is_string i j
  pub value : HasStringValue (next_text i) x.value
  pub span : x.span ≡ between i j

-- Name, but not `true`, `false` or `null`. Specification: 2.9.6 Enum Value
pub record IsEnumValueName (i : Input) (name : NameText) (j : Input) : Type 0 where
  pub is_name : IsName i name j
  pub not_true : IsFalse (sees_keyword keyword.True i)
  pub not_false : IsFalse (sees_keyword keyword.False i)
  pub not_null : IsFalse (sees_keyword keyword.Null i)

mutual
  -- Value[Const]
  pub data IsValue : Bool → ℕ → Input → Value → Input → Type 0 where
    -- [if not Const] Variable
    variable : {depth : ℕ} (i j : Input) (x : Variable) → IsVariable i x j → IsValue false depth i (tree.Variable x) j
    -- IntValue. Specification: 2.9.1 Int Value
    int : {constant : Bool} {depth : ℕ} (i j : Input) →
        Takes IntValue i j → IsValue constant depth i (tree.Int (next_text i) (between i j)) j
    -- FloatValue. Specification: 2.9.2 Float Value
    float : {constant : Bool} {depth : ℕ} (i j : Input) →
        Takes FloatValue i j → IsValue constant depth i (tree.Float (next_text i) (between i j)) j
    -- StringValue
    string : {constant : Bool} {depth : ℕ} (i j : Input) (x : StringLiteral) →
        IsStringLiteral i x j → IsValue constant depth i (tree.String x) j
    -- BooleanValue : one of `true` `false`. Specification: 2.9.3 Boolean Value
    true_value : {constant : Bool} {depth : ℕ} (i j : Input) →
        TakesKeyword keyword.True i j → IsValue constant depth i (tree.Boolean true (between i j)) j
    false_value : {constant : Bool} {depth : ℕ} (i j : Input) →
        TakesKeyword keyword.False i j → IsValue constant depth i (tree.Boolean false (between i j)) j
    -- NullValue : `null`. Specification: 2.9.5 Null Value
    null_value : {constant : Bool} {depth : ℕ} (i j : Input) →
        TakesKeyword keyword.Null i j → IsValue constant depth i (tree.Null (between i j)) j
    -- EnumValue : Name, but not `true`, `false` or `null`. Specification: 2.9.6 Enum Value
    enum_value : {constant : Bool} {depth : ℕ} (i j : Input) (name : NameText) →
        IsEnumValueName i name j → IsValue constant depth i (tree.Enum name) j
    -- ListValue : [ Value* ]. Specification: 2.9.7 List Value
    list : {constant : Bool} {depth : ℕ} (i m n j : Input) (items : List Value) →
        Takes LeftBracket i m → AreValues constant depth m items n → Takes RightBracket n j →
        IsValue constant (suc depth) i (tree.List items (between i j)) j
    -- ObjectValue : { ObjectField* }. Specification: 2.9.8 Input Object Values
    object : {constant : Bool} {depth : ℕ} (i m n j : Input) (fields : List ObjectField) →
        Takes LeftBrace i m → AreObjectFields constant depth m fields n → Takes RightBrace n j →
        IsValue constant (suc depth) i (tree.Object fields (between i j)) j

  -- Value*
  pub data AreValues : Bool → ℕ → Input → List Value → Input → Type 0 where
    no_values : {constant : Bool} {depth : ℕ} (i : Input) → AreValues constant depth i [] i
    more_values : {constant : Bool} {depth : ℕ} (i m j : Input) (x : Value) (xs : List Value) →
        IsValue constant depth i x m → AreValues constant depth m xs j → AreValues constant depth i (x ∷ xs) j

  -- ObjectField*, where ObjectField : Name : Value
  pub data AreObjectFields : Bool → ℕ → Input → List ObjectField → Input → Type 0 where
    no_fields : {constant : Bool} {depth : ℕ} (i : Input) → AreObjectFields constant depth i [] i
    more_fields : {constant : Bool} {depth : ℕ} (i m n k j : Input) (name : NameText) (value : Value) (xs : List ObjectField) →
        IsName i name m → Takes Colon m n → IsValue constant depth n value k → AreObjectFields constant depth k xs j →
        AreObjectFields constant depth i (roll-ObjectField (record { name = name; value = value; span = between i k }) ∷ xs) j
