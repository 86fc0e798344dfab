-- The numbers of values: one for the same, and different ones for others. Specification: 5.3.2 Field Selection Merging.
use Rattle.std.specs.Prelude.{◌≡◌, ◌++◌, ℕ, Bool, true, false, List, Some, Option, Vec, IsTrue, is_some, length, slice_get}
use Rattle.std.specs.Borrow.{Bor}
use Rattle.std.specs.List.{IsDistinct}
use Rattle.std.specs.declared.alloc.Global.{Global}
use Rattle.graphql_nodes.specs.Names.{NameText}
use Rattle.graphql_nodes.specs.declared.nodes.Node.{Node}
use Rattle.graphql_documents.specs.Values.{entry_named}
use Rattle.graphql_documents.specs.declared.documents.values.Value.{Value}
use Rattle.graphql_documents.specs.declared.documents.values.Value.TheVariants as literal
use Rattle.graphql_value_numbers.specs.NamedNumbers.{AreOrdered, number_under}
use Rattle.graphql_value_numbers.specs.contracts.shapes.ShapePartialEq.TheImpl as shape_impl
use Rattle.graphql_value_numbers.specs.declared.named_numbers.NamedNumbers.{NamedNumbers}
use Rattle.graphql_value_numbers.specs.declared.shapes.Shape.{Shape}
use Rattle.graphql_value_numbers.specs.declared.shapes.Shape.TheVariants as shape

-- what `==` answers of two shapes
abbrev pub same_shape : Shape → Shape → Bool
same_shape = shape_impl.ghosts.eq

-- an equal shape has this number
pub record IsAt (shapes : List Shape) (s : Shape) (n : ℕ) : Type 0 where
  pub stored : Shape
  pub at : slice_get shapes n ≡ Some stored
  pub same : IsTrue (same_shape s stored)

-- no two of the shapes are equal
abbrev pub IsTable : List Shape → Type 0
IsTable shapes = IsDistinct same_shape shapes

-- numbers that were given stay
abbrev pub Grows : List Shape → List Shape → Type 0
Grows old new = (more : List Shape) × (new ≡ old ++ more)

-- the value is neither a list nor an object
abbrev pub is_leaf : Value → Bool
is_leaf (literal.List' shape items) = false
is_leaf (literal.Object' shape entries) = false
is_leaf _ = true

-- the number of a value is that of its shape: of the value itself, or of the numbers of the values in it, item by item or by
-- the first entry of each name
pub data HasNumber (shapes : List Shape) : Value → ℕ → Type 0 where
  leaf_number : {v : Value} {n : ℕ} (leaf : Bor Value) → leaf.now ≡ v → IsTrue (is_leaf v) → IsAt shapes (shape.Leaf leaf) n → HasNumber shapes v n
  list_number : {v : Value} {n : ℕ} (items : Vec (Node Value) Global) (numbers : Vec ℕ Global) → v ≡ literal.List items →
      length items.items ≡ length numbers.items →
      ((i : ℕ) (x : Node Value) (k : ℕ) → slice_get items.items i ≡ Some x → slice_get numbers.items i ≡ Some k → HasNumber shapes x.value.value k) →
      IsAt shapes (shape.List numbers) n → HasNumber shapes v n
  object_number : {v : Value} {n : ℕ} (entries : Vec (NameText × Node Value) Global) (numbers : NamedNumbers) → v ≡ literal.Object entries →
      AreOrdered numbers →
      ((name : NameText) → is_some (entry_named name entries.items) ≡ is_some (number_under numbers name)) →
      ((name : NameText) (x : Node Value) (k : ℕ) → entry_named name entries.items ≡ Some x → number_under numbers name ≡ Some k → HasNumber shapes x.value.value k) →
      IsAt shapes (shape.Object numbers) n → HasNumber shapes v n

-- these are the numbers of the items of a list, in order
pub record AreItemsNumbered (shapes : List Shape) (items : List (Node Value)) (numbers : List ℕ) : Type 0 where
  pub as_long : length items ≡ length numbers
  pub each : (i : ℕ) (x : Node Value) (k : ℕ) → slice_get items i ≡ Some x → slice_get numbers i ≡ Some k → HasNumber shapes x.value.value k

-- under each name is the number of the value that is found under it
pub record AreNumbered (shapes : List Shape) (value_of : NameText → Option (Node Value)) (numbers : NamedNumbers) : Type 0 where
  pub ordered : AreOrdered numbers
  pub names : (name : NameText) → is_some (value_of name) ≡ is_some (number_under numbers name)
  pub values : (name : NameText) (x : Node Value) (k : ℕ) → value_of name ≡ Some x → number_under numbers name ≡ Some k → HasNumber shapes x.value.value k

-- under each name is the number of the value of the first of the entries of this name
abbrev pub AreEntriesNumbered : List Shape → List (NameText × Node Value) → NamedNumbers → Type 0
AreEntriesNumbered shapes entries numbers = AreNumbered shapes (λ name. entry_named name entries) numbers
