-- Kind by kind, what a tree says of a value.
use Rattle.std.proofs.Common.{◌≡◌, ℕ, Bool, List, [], ◌∷◌, ◌++◌, ◌+◌, ◌<◌, length, get_or, take, sym, subst, String, Vec}
use Rattle.std.specs.Prelude.{string_bytes}
use Rattle.std.specs.declared.alloc.Global.{Global}
use Rattle.std.proofs.lemmas.List.{take_more}
use Rattle.graphql_nodes.specs.Names.{NameText}
use Rattle.graphql_nodes.specs.declared.nodes.Node.{Node}
use Rattle.graphql_nodes.specs.declared.spans.SourceSpan.{SourceSpan}
use Rattle.graphql_documents.specs.declared.documents.values.Value.{Value}
use Rattle.graphql_documents.specs.declared.documents.values.Value.TheVariants as literal
use Rattle.graphql_trees.specs.declared.values.ObjectField.{ObjectField}
use Rattle.graphql_trees.specs.declared.values.StringLiteral.{StringLiteral}
use Rattle.graphql_trees.specs.declared.values.Value.TheVariants as tree
use Rattle.graphql_trees.specs.declared.values.Variable.{Variable}
use Rattle.graphql_leaf_building.specs.Values.{ContentsSay, FieldsSay, ItemsSay, ValueSays, ValueTree, boolean_says, enum_says, float_says, int_says, list_says, next_field, next_item, no_fields, no_items, null_says, object_says, string_says, variable_says}

pub null_said : (v : ValueTree) (span : SourceSpan) → v ≡ tree.Null span → ContentsSay v literal.Null
null_said v span is = subst (λ v. ContentsSay v literal.Null) (sym is) null_says

pub boolean_said : (v : ValueTree) (truth : Bool) (span : SourceSpan) → v ≡ tree.Boolean truth span → ContentsSay v (literal.Boolean truth)
boolean_said v truth span is = subst (λ v. ContentsSay v (literal.Boolean truth)) (sym is) boolean_says

pub enum_said : (v : ValueTree) (a b : NameText) → v ≡ tree.Enum a → b ≡ a → ContentsSay v (literal.Enum b)
enum_said v a b is same = rw (is, same) enum_says

pub variable_said : (v : ValueTree) (x : Variable) (b : NameText) → v ≡ tree.Variable x → b ≡ x.name → ContentsSay v (literal.Variable b)
variable_said v x b is same = rw (is, same) variable_says

pub string_said : (v : ValueTree) (x : StringLiteral) (b : String Global) → v ≡ tree.String x → string_bytes b ≡ x.value → ContentsSay v (literal.String b)
string_said v x b is same = rw is (string_says b same)

pub float_said : (v : ValueTree) (a b : List ℕ) (span : SourceSpan) → v ≡ tree.Float a span → b ≡ a → ContentsSay v (literal.Float b)
float_said v a b span is same = rw (is, same) float_says

pub int_said : (v : ValueTree) (a b : List ℕ) (span : SourceSpan) → v ≡ tree.Int a span → b ≡ a → ContentsSay v (literal.Int b)
int_said v a b span is same = rw (is, same) int_says

pub list_said : (v : ValueTree) (a : List ValueTree) (b : Vec (Node Value) Global) (span : SourceSpan) → v ≡ tree.List a span →
    ItemsSay a b.items → ContentsSay v (literal.List b)
list_said v a b span is items = rw is (list_says b items)

pub object_said : (v : ValueTree) (a : List ObjectField) (b : Vec (NameText × Node Value) Global) (span : SourceSpan) → v ≡ tree.Object a span →
    FieldsSay a b.items → ContentsSay v (literal.Object b)
object_said v a b span is fields = rw is (object_says b fields)

items_pushed : (xs : List ValueTree) (ys : List (Node Value)) (x : ValueTree) (y : Node Value) →
    ItemsSay xs ys → ValueSays x y → ItemsSay (xs ++ x ∷ []) (ys ++ y ∷ [])
items_pushed xs ys x y no_items says = next_item says.contents says.location no_items
items_pushed xs ys x y (next_item contents location rest) says = next_item contents location (items_pushed _ _ x y rest says)

pub items_more : (xs : List ValueTree) (i : ℕ) (x : ValueTree) (ys more : List (Node Value)) (y : Node Value) →
    i < length xs → x ≡ get_or xs i x → ItemsSay (take i xs) ys → ValueSays x y → more ≡ ys ++ y ∷ [] → ItemsSay (take (i + 1) xs) more
items_more xs i x ys more y within is all says grown =
    rw (grown, take_more xs i x within, ← is) (items_pushed (take i xs) ys x y all says)

fields_pushed : (xs : List ObjectField) (ys : List (NameText × Node Value)) (x : ObjectField) (y : NameText × Node Value) →
    FieldsSay xs ys → y.0 ≡ x.name → ValueSays x.value y.1 → FieldsSay (xs ++ x ∷ []) (ys ++ y ∷ [])
fields_pushed xs ys x y no_fields named says = next_field named says.contents says.location no_fields
fields_pushed xs ys x y (next_field name contents location rest) named says = next_field name contents location (fields_pushed _ _ x y rest named says)

pub fields_more : (xs : List ObjectField) (i : ℕ) (x : ObjectField) (ys more : List (NameText × Node Value)) (y : NameText × Node Value) →
    i < length xs → x ≡ get_or xs i x → FieldsSay (take i xs) ys → y.0 ≡ x.name → ValueSays x.value y.1 → more ≡ ys ++ y ∷ [] →
    FieldsSay (take (i + 1) xs) more
fields_more xs i x ys more y within is all named says grown =
    rw (grown, take_more xs i x within, ← is) (fields_pushed (take i xs) ys x y all named says)
