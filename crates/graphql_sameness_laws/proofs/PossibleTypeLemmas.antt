-- In schemas that are the same, what is selected on a type can apply to the same types. Specification: 5.5.1.3 Fragments on Composite Types,
-- 5.5.2.3 Fragment Spread Is Possible.
use Rattle.std.proofs.Common.{◌≡◌, inl, inr, Option, None, Some, refl, sym, subst, subst₂}
use Rattle.std.specs.Prelude.{Contains}
use Rattle.graphql_nodes.specs.Names.{NameText, SameName}
use Rattle.graphql_nodes.specs.declared.nodes.Node.{Node}
use Rattle.graphql_documents.specs.Contents.{SameIfAny}
use Rattle.graphql_documents.specs.Schemas.{IsImplementedBy, IsListed, IsPossibleType, type_definition}
use Rattle.graphql_documents.specs.declared.documents.schemas.ExtendedType.{ExtendedType}
use Rattle.graphql_documents.specs.declared.documents.schemas.ExtendedType.TheVariants.{Scalar, Object, Interface, Union, Enum, InputObject}
use Rattle.graphql_documents.specs.declared.documents.schemas.ObjectType.{ObjectType}
use Rattle.graphql_documents.specs.declared.documents.schemas.Schema.{Schema}
use Rattle.graphql_specification.specs.Fragments.{HaveCommonObject, IsPossibleAt, IsPossibleIn, TargetHolds}
use Rattle.graphql_document_building.specs.SameDocuments.{SameUnderName}
use Rattle.graphql_building_laws.specs.SameSchemas.{SameObject, SameSchema, SameType}
use Rattle.graphql_sameness_laws.proofs.DirectiveLemmas.{schemas_back}
use Rattle.graphql_sameness_laws.proofs.SchemaLookupLemmas.{names_kind_too, schema_too, type_too}
use Rattle.graphql_sameness_laws.proofs.SchemaSamenessLemmas.{schema_back, type_back}
use Rattle.graphql_sameness_laws.proofs.TypeKindLemmas.{both_composite}
use Rattle.graphql_sameness_laws.proofs.ZipLemmas.{zip_contains}

pub as_same_object : (d : Node ObjectType) (y : ExtendedType) → SameType (Object d) y → (e : Node ObjectType) × (y ≡ Object e) × SameObject d e
as_same_object d (Object e) same = (e, refl, same)
as_same_object d (Scalar e) same = absurd same
as_same_object d (Interface e) same = absurd same
as_same_object d (Union e) same = absurd same
as_same_object d (Enum e) same = absurd same
as_same_object d (InputObject e) same = absurd same

module _ (a b : Schema) (schemas : SameSchema a b) where
  pub implemented_too : (interface other name : NameText) → interface ≡ other → IsImplementedBy a interface name → IsImplementedBy b other name
  implemented_too interface other name is (key, d, listed, named, implements) =
      let found = zip_contains (SameUnderName SameType) a.types.entries b.types.entries (key, Object d) schemas.types listed in
      let here = as_same_object d found.0.1 found.2.1 in (
        found.0.0,
        here.0,
        subst (λ y. Contains b.types.entries (found.0.0, y)) here.1 found.1,
        subst (λ n. SameName n name) here.2.name named,
        subst₂ IsListed is here.2.implements_interfaces implements,
      )

  possible_type_too : (x y : ExtendedType) (name : NameText) → SameType x y → IsPossibleType a x name → IsPossibleType b y name
  possible_type_too (Object d) (Object e) name same h = subst (λ n. SameName n name) same.name h
  possible_type_too (Interface d) (Interface e) name same h = implemented_too d.value.value.name e.value.value.name name same.name h
  possible_type_too (Union d) (Union e) name same h = subst (IsListed name) same.members h
  possible_type_too (Scalar d) (Scalar e) name same h = absurd h
  possible_type_too (Enum d) (Enum e) name same h = absurd h
  possible_type_too (InputObject d) (InputObject e) name same h = absurd h
  possible_type_too _ _ name same h = absurd same

  common_object_too : (x y u v : ExtendedType) → SameType x u → SameType y v → HaveCommonObject a x y → HaveCommonObject b u v
  common_object_too x y u v left right (name, other, first, second, named) =
      (name, other, possible_type_too x u name left first, possible_type_too y v other right second, named)

  possible_at_too : (condition other : NameText) (parent : Option NameText) → condition ≡ other → IsPossibleAt a condition parent → IsPossibleAt b other parent
  possible_at_too condition other None is h = tt
  possible_at_too condition other (Some parent) is h = λ u v first second.
      let x = type_too b a (schema_back a b schemas) other u first in
      let y = type_too b a (schema_back a b schemas) parent v second in
      elim (h x.0 y.0 (subst (λ n. type_definition a n ≡ Some x.0) (sym is) x.1) y.1) [
        | inl named ↦ inl (subst (λ n. SameName n parent) is named)
        | inr common ↦ inr (common_object_too x.0 y.0 u v (type_back u x.0 x.2) (type_back v y.0 y.2) common)
      ]

module _ (oa ob : Option Schema) (schemas : SameIfAny SameSchema oa ob) where
  pub target_too : (condition other : NameText) → condition ≡ other → TargetHolds oa condition → TargetHolds ob other
  target_too condition other is h b has =
      let a = schema_too ob oa b (schemas_back oa ob schemas) has in
      names_kind_too a.0 b (schema_back b a.0 a.2) _ both_composite condition other is (h a.0 a.1)

  pub possible_in_too : (condition other : NameText) (parent : Option NameText) → condition ≡ other → IsPossibleIn oa condition parent → IsPossibleIn ob other parent
  possible_in_too condition other parent is h b has =
      let a = schema_too ob oa b (schemas_back oa ob schemas) has in
      possible_at_too a.0 b (schema_back b a.0 a.2) condition other parent is (h a.0 a.1)
