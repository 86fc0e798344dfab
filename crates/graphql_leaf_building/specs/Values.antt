-- What values say. Specification: 2.9 Input Values.
use Rattle.std.specs.Prelude.{◌≡◌, Bool, List, [], ◌∷◌, ℕ, Option, Some, String, Vec, string_bytes}
use Rattle.std.specs.declared.alloc.Global.{Global}
use Rattle.graphql_nodes.specs.Names.{NameText}
use Rattle.graphql_nodes.specs.declared.nodes.Node.{Node}
use Rattle.graphql_nodes.specs.declared.spans.SourceSpan.{SourceSpan}
use Rattle.graphql_documents.specs.declared.documents.values.Value.{Value}
use Rattle.graphql_documents.specs.declared.documents.values.Value.TheVariants as literal
use Rattle.graphql_trees.specs.declared.values.ObjectField.{ObjectField}
use Rattle.graphql_trees.specs.declared.values.StringLiteral.{StringLiteral}
use Rattle.graphql_trees.specs.declared.values.Value as tree_value
use Rattle.graphql_trees.specs.declared.values.Value.TheOpen as Open
use Rattle.graphql_trees.specs.declared.values.Value.TheVariants as tree
use Rattle.graphql_trees.specs.declared.values.Variable.{Variable}

abbrev pub ValueTree : Type 0
ValueTree = tree_value.Value

-- where a value is: an enum value where its name does
abbrev pub value_place : ValueTree → Option SourceSpan
value_place v = elim (tree_value.out-Value v) [
  | Open.Variable x ↦ Some x.span
  | Open.Int text span ↦ Some span
  | Open.Float text span ↦ Some span
  | Open.String x ↦ Some x.span
  | Open.Boolean truth span ↦ Some span
  | Open.Null span ↦ Some span
  | Open.Enum name ↦ name.location
  | Open.List items span ↦ Some span
  | Open.Object fields span ↦ Some span
]

-- the tree says this value: the same is written, names where they are; a string is what its literal stands for; the items of a list and the fields of
-- an object are said in order, each at its place
mutual
  pub data ContentsSay : ValueTree → Value → Type 0 where
    null_says : {span : SourceSpan} → ContentsSay (tree.Null span) literal.Null
    enum_says : {name : NameText} → ContentsSay (tree.Enum name) (literal.Enum name)
    variable_says : {x : Variable} → ContentsSay (tree.Variable x) (literal.Variable x.name)
    string_says : {x : StringLiteral} (text : String Global) → string_bytes text ≡ x.value → ContentsSay (tree.String x) (literal.String text)
    float_says : {text : List ℕ} {span : SourceSpan} → ContentsSay (tree.Float text span) (literal.Float text)
    int_says : {text : List ℕ} {span : SourceSpan} → ContentsSay (tree.Int text span) (literal.Int text)
    boolean_says : {truth : Bool} {span : SourceSpan} → ContentsSay (tree.Boolean truth span) (literal.Boolean truth)
    list_says : {xs : List ValueTree} {span : SourceSpan} (ys : Vec (Node Value) Global) →
        ItemsSay xs ys.items → ContentsSay (tree.List xs span) (literal.List ys)
    object_says : {xs : List ObjectField} {span : SourceSpan} (ys : Vec (NameText × Node Value) Global) →
        FieldsSay xs ys.items → ContentsSay (tree.Object xs span) (literal.Object ys)

  pub data ItemsSay : List ValueTree → List (Node Value) → Type 0 where
    no_items : ItemsSay [] []
    next_item : {x : ValueTree} {y : Node Value} {xs : List ValueTree} {ys : List (Node Value)} →
        ContentsSay x y.value.value → y.location ≡ value_place x → ItemsSay xs ys → ItemsSay (x ∷ xs) (y ∷ ys)

  pub data FieldsSay : List ObjectField → List (NameText × Node Value) → Type 0 where
    no_fields : FieldsSay [] []
    next_field : {x : ObjectField} {y : NameText × Node Value} {xs : List ObjectField} {ys : List (NameText × Node Value)} →
        y.0 ≡ x.name → ContentsSay x.value y.1.value.value → y.1.location ≡ value_place x.value → FieldsSay xs ys →
        FieldsSay (x ∷ xs) (y ∷ ys)

-- the tree says this value, at this place
pub record ValueSays (x : ValueTree) (y : Node Value) : Type 0 where
  pub contents : ContentsSay x y.value.value
  pub location : y.location ≡ value_place x
