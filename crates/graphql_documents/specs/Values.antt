-- Input values: their kinds, their sameness, and the variables in them. Specification: 2.9 Input Values.
use Rattle.std.specs.Prelude.{ℕ, List, String, codes, Option, find, option_map, ◌≡◌, Bool, Some, Vec, is_some, slice_get, string_bytes, length, [], ◌∷◌, ◌++◌, Contains}
use Rattle.std.specs.declared.alloc.Global.{Global}
use Rattle.graphql_nodes.specs.Names.{NameText, same_name, SameName}
use Rattle.graphql_documents.specs.declared.documents.values.Value.{Value}
use Rattle.graphql_nodes.specs.declared.nodes.Node.{Node}
use Rattle.graphql_documents.specs.declared.documents.values.Value.TheVariants as literal

-- what a message calls the kind of a value
abbrev pub value_kind_text : Value → List ℕ
value_kind_text literal.Null = codes "null"
value_kind_text (literal.Enum name) = codes "an enum"
value_kind_text (literal.Variable name) = codes "a variable"
value_kind_text (literal.String text) = codes "a string"
value_kind_text (literal.Float number) = codes "a float"
value_kind_text (literal.Int number) = codes "an integer"
value_kind_text (literal.Boolean truth) = codes "a boolean"
value_kind_text (literal.List' shape items) = codes "a list"
value_kind_text (literal.Object' shape entries) = codes "an input object"

-- the first entry of an object value under this name
abbrev pub entry_named : NameText → List (NameText × Node Value) → Option (Node Value)
entry_named name entries = option_map (λ entry. entry.1) (find (λ entry. same_name entry.0 name) entries)

-- two values are the same: of one kind and one text or truth value; lists item by item, and as long;
-- objects with the same keys, by the first entry under each. Specification: 5.3.2 Field Selection Merging
pub data SameValue : Value → Value → Type 0 where
  same_null : SameValue literal.Null literal.Null
  same_enum : {a b : NameText} → SameName a b → SameValue (literal.Enum a) (literal.Enum b)
  same_variable : {a b : NameText} → SameName a b → SameValue (literal.Variable a) (literal.Variable b)
  same_string : (a b : String Global) → string_bytes a ≡ string_bytes b → SameValue (literal.String a) (literal.String b)
  same_float : {a b : List ℕ} → a ≡ b → SameValue (literal.Float a) (literal.Float b)
  same_int : {a b : List ℕ} → a ≡ b → SameValue (literal.Int a) (literal.Int b)
  same_boolean : {a : Bool} → SameValue (literal.Boolean a) (literal.Boolean a)
  same_list : (a b : Vec (Node Value) Global) →
      length a.items ≡ length b.items →
      ((i : ℕ) (x y : Node Value) → slice_get a.items i ≡ Some x → slice_get b.items i ≡ Some y → SameValue x.value.value y.value.value) →
      SameValue (literal.List a) (literal.List b)
  same_object : (a b : Vec (NameText × Node Value) Global) →
      ((name : NameText) → is_some (entry_named name a.items) ≡ is_some (entry_named name b.items)) →
      ((name : NameText) (x y : Node Value) → entry_named name a.items ≡ Some x → entry_named name b.items ≡ Some y → SameValue x.value.value y.value.value) →
      SameValue (literal.Object a) (literal.Object b)

-- the second value is a copy of the first, as written: items and entries in order, places apart
mutual
  pub data IsCopy : Value → Value → Type 0 where
    copy_of_null : IsCopy literal.Null literal.Null
    copy_of_enum : {a b : NameText} → SameName a b → IsCopy (literal.Enum a) (literal.Enum b)
    copy_of_variable : {a b : NameText} → SameName a b → IsCopy (literal.Variable a) (literal.Variable b)
    copy_of_string : (a b : String Global) → string_bytes a ≡ string_bytes b → IsCopy (literal.String a) (literal.String b)
    copy_of_float : {a b : List ℕ} → a ≡ b → IsCopy (literal.Float a) (literal.Float b)
    copy_of_int : {a b : List ℕ} → a ≡ b → IsCopy (literal.Int a) (literal.Int b)
    copy_of_boolean : {a : Bool} → IsCopy (literal.Boolean a) (literal.Boolean a)
    copy_of_list : (a b : Vec (Node Value) Global) → AreCopies a.items b.items → IsCopy (literal.List a) (literal.List b)
    copy_of_object : (a b : Vec (NameText × Node Value) Global) → AreEntryCopies a.items b.items → IsCopy (literal.Object a) (literal.Object b)

  pub data AreCopies : List (Node Value) → List (Node Value) → Type 0 where
    no_item_copies : AreCopies [] []
    more_item_copies : {x y : Node Value} {xs ys : List (Node Value)} →
        IsCopy x.value.value y.value.value → AreCopies xs ys → AreCopies (x ∷ xs) (y ∷ ys)

  pub data AreEntryCopies : List (NameText × Node Value) → List (NameText × Node Value) → Type 0 where
    no_entry_copies : AreEntryCopies [] []
    more_entry_copies : {x y : NameText × Node Value} {xs ys : List (NameText × Node Value)} →
        SameName x.0 y.0 → IsCopy x.1.value.value y.1.value.value → AreEntryCopies xs ys → AreEntryCopies (x ∷ xs) (y ∷ ys)

-- these variables are in a value, in order, at any depth
mutual
  pub data VariablesIn : Value → List NameText → Type 0 where
    in_null : VariablesIn literal.Null []
    in_enum : {name : NameText} → VariablesIn (literal.Enum name) []
    in_variable : {name : NameText} → VariablesIn (literal.Variable name) (name ∷ [])
    in_string : (text : String Global) → VariablesIn (literal.String text) []
    in_float : {text : List ℕ} → VariablesIn (literal.Float text) []
    in_int : {text : List ℕ} → VariablesIn (literal.Int text) []
    in_boolean : {b : Bool} → VariablesIn (literal.Boolean b) []
    in_list : (items : Vec (Node Value) Global) {names : List NameText} →
        VariablesInItems items.items names → VariablesIn (literal.List items) names
    in_object : (entries : Vec (NameText × Node Value) Global) {names : List NameText} →
        VariablesInEntries entries.items names → VariablesIn (literal.Object entries) names

  pub data VariablesInItems : List (Node Value) → List NameText → Type 0 where
    no_items : VariablesInItems [] []
    next_item : {item : Node Value} {items : List (Node Value)} {names more : List NameText} →
        VariablesIn item.value.value names → VariablesInItems items more → VariablesInItems (item ∷ items) (names ++ more)

  pub data VariablesInEntries : List (NameText × Node Value) → List NameText → Type 0 where
    no_entries : VariablesInEntries [] []
    next_entry : {entry : NameText × Node Value} {entries : List (NameText × Node Value)} {names more : List NameText} →
        VariablesIn entry.1.value.value names → VariablesInEntries entries more → VariablesInEntries (entry ∷ entries) (names ++ more)

-- a variable of this name is in the value
abbrev pub StandsIn : NameText → Value → Type 0
StandsIn name value = (names : List NameText) × (used : NameText) × VariablesIn value names × Contains names used × SameName used name
