-- Equal leaves: they agree in both passes of merging, in either order, and nothing meets below them.
use Rattle.std.proofs.Common.{◌≡◌, sym, ◌∙◌, subst}
use Rattle.std.specs.Prelude.{IsTrue, Some}
use Rattle.graphql_nodes.specs.Names.{NameText, SameName}
use Rattle.graphql_nodes.proofs.NameLemmas.{same_name_back}
use Rattle.graphql_documents.specs.Schemas.{is_output_type, type_definition}
use Rattle.graphql_documents.specs.TypeReferences.{inner_named_type, same_type}
use Rattle.graphql_documents.specs.contracts.documents.type_references.TypePartialEq.TheImpl as type_impl
use Rattle.graphql_documents.specs.contracts.documents.type_references.TypePartialEq.TheImpl.Laws as type_laws
use Rattle.graphql_documents.specs.declared.documents.schemas.ExtendedType.{ExtendedType}
use Rattle.graphql_documents.specs.declared.documents.schemas.Schema.{Schema}
use Rattle.graphql_documents.specs.declared.documents.type_references.Type.{«Type»}
use Rattle.graphql_documents.specs.declared.documents.type_references.Type.TheVariants.{Named, NonNullNamed, List', NonNullList'}
use Rattle.graphql_specification.specs.Merging.{FieldSelection, SameArguments, SameLeafOrBothCompositeNamed, SameNameAndArguments, SameResponseShape, type_of}
use Rattle.graphql_laws.proofs.MergingLaws.{same_shape_itself}
use Rattle.graphql_laws.proofs.SchemaLaws.{one_type_found}
use Rattle.graphql_laws.proofs.ValueLaws.{same_arguments_itself}
use Rattle.graphql_lone_fields.specs.LoneFields.{AreEqualLeaves}

-- the equality of types compares names and wrappers, and no places
pub type_equality_is : (a b : «Type») → type_impl.ghosts.eq a b ≡ same_type a b
type_equality_is (Named a) (Named b) = type_laws.is (Named a) (Named b)
type_equality_is (NonNullNamed a) (NonNullNamed b) = type_laws.is (NonNullNamed a) (NonNullNamed b)
type_equality_is (List' place a) (List' other b) = type_laws.is (List' place a) (List' other b) ∙ type_equality_is a b
type_equality_is (NonNullList' place a) (NonNullList' other b) = type_laws.is (NonNullList' place a) (NonNullList' other b) ∙ type_equality_is a b
type_equality_is a b = type_laws.is a b

same_type_back : (a b : «Type») → IsTrue (same_type a b) → IsTrue (same_type b a)
same_type_back (Named a) (Named b) same = same_name_back a b same
same_type_back (NonNullNamed a) (NonNullNamed b) same = same_name_back a b same
same_type_back (List' place a) (List' other b) same = same_type_back a b same
same_type_back (NonNullList' place a) (NonNullList' other b) same = same_type_back a b same
same_type_back _ _ same = absurd (let no : ⊥ = cc in no)

pub equal_leaves_back : (x y : FieldSelection) → AreEqualLeaves x y → AreEqualLeaves y x
equal_leaves_back x y leaves = record {
  first = leaves.second;
  second = leaves.first;
  name = same_name_back x.field.value.value.name y.field.value.value.name leaves.name;
  ty = same_type_back (type_of x) (type_of y) leaves.ty;
}

-- a type that is defined is an output type
abbrev pub IsOutput : Schema → «Type» → Type 0
IsOutput schema ty = (d : ExtendedType) → type_definition schema (inner_named_type ty) ≡ Some d → IsTrue (is_output_type d)

named_shape : (schema : Schema) (a b : NameText) → SameName a b → IsOutput schema (Named a) → SameLeafOrBothCompositeNamed schema a b
named_shape schema a b same output x y x_is y_is =
    same_shape_itself schema (Named a) output x y x_is (one_type_found schema a b same ∙ y_is)

-- two types that are the same as written have one shape
same_type_shape : (schema : Schema) (a b : «Type») → IsTrue (same_type a b) → IsOutput schema a → SameResponseShape schema a b
same_type_shape schema (Named a) (Named b) same output = named_shape schema a b same output
same_type_shape schema (NonNullNamed a) (NonNullNamed b) same output = named_shape schema a b same output
same_type_shape schema (List' place a) (List' other b) same output = same_type_shape schema a b same output
same_type_shape schema (NonNullList' place a) (NonNullList' other b) same output = same_type_shape schema a b same output
same_type_shape schema _ _ same output = absurd (let no : ⊥ = cc in no)

pub leaves_have_one_shape : (schema : Schema) (x y : FieldSelection) → AreEqualLeaves x y → IsOutput schema (type_of x) →
    SameResponseShape schema (type_of x) (type_of y)
leaves_have_one_shape schema x y leaves output = same_type_shape schema (type_of x) (type_of y) leaves.ty output

pub leaves_have_one_name : (x y : FieldSelection) → AreEqualLeaves x y → SameNameAndArguments x.field.value.value y.field.value.value
leaves_have_one_name x y leaves = record {
  name = leaves.name;
  arguments = subst (SameArguments x.field.value.value.arguments.items) (leaves.first.0 ∙ sym leaves.second.0)
      (same_arguments_itself x.field.value.value.arguments.items);
}
