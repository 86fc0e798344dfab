-- Leaf values that are the same are values of one type. Specification: 5.6.1 Values of Correct Type.
use Rattle.std.proofs.Common.{◌≡◌, Bool, true, false, refl, subst}
use Rattle.std.specs.Prelude.{IsFalse, IsTrue}
use Rattle.graphql_documents.specs.declared.documents.schemas.ExtendedType.{ExtendedType}
use Rattle.graphql_documents.specs.declared.documents.values.Value.{Value, out-Value}
use Rattle.graphql_documents.specs.declared.documents.values.Value.TheOpen as Open
use Rattle.graphql_documents.specs.declared.documents.values.Value.TheVariants as literal
use Rattle.graphql_specification.specs.Values.{AcceptsLeaf}
use Rattle.graphql_document_building.specs.SameLeaves.{SameContents, same_boolean, same_enum, same_float, same_int, same_list, same_null, same_object, same_string, same_variable}

abbrev is_leaf_form : Open.Value-F Value → Bool
is_leaf_form (Open.Enum name) = true
is_leaf_form (Open.String text) = true
is_leaf_form (Open.Float text) = true
is_leaf_form (Open.Int text) = true
is_leaf_form (Open.Boolean truth) = true
is_leaf_form _ = false

leaf_form : (d : ExtendedType) (v : Value) → AcceptsLeaf d v → IsTrue (is_leaf_form (out-Value v))
unfolding out-Value denote.Hole.Carrier.out
leaf_form d literal.Null h = absurd h
leaf_form d (literal.Enum name) h = refl
leaf_form d (literal.Variable name) h = absurd h
leaf_form d (literal.String text) h = refl
leaf_form d (literal.Float number) h = refl
leaf_form d (literal.Int number) h = refl
leaf_form d (literal.Boolean truth) h = refl
leaf_form d (literal.List' shape items) h = absurd h
leaf_form d (literal.Object' shape entries) h = absurd h

pub no_leaf : (d : ExtendedType) (v : Value) (x : Open.Value-F Value) → out-Value v ≡ x → IsFalse (is_leaf_form x) → ¬ AcceptsLeaf d v
no_leaf d v x e no_form h =
    let form : IsTrue (is_leaf_form x) = subst (λ x. IsTrue (is_leaf_form x)) e (leaf_form d v h) in
    let no : ⊥ = cc in no

pub leaf_of_same : (d : ExtendedType) {v w : Value} → SameContents v w → AcceptsLeaf d v → AcceptsLeaf d w
leaf_of_same d same_null h = absurd h
leaf_of_same d same_enum h = h
leaf_of_same d same_variable h = absurd h
leaf_of_same d (same_string a b e) h = h
leaf_of_same d same_float h = h
leaf_of_same d same_int h = h
leaf_of_same d same_boolean h = h
leaf_of_same d (same_list xs ys _) h = absurd (no_leaf d (literal.List xs) _ (literal.outs-List xs) refl h)
leaf_of_same d (same_object xs ys _) h = absurd (no_leaf d (literal.Object xs) _ (literal.outs-Object xs) refl h)
