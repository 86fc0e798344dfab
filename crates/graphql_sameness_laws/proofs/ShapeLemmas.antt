-- Types that are the same have one form in responses, and may overlap with the same types. Specification: 5.3.2 Field Selection Merging.
use Rattle.std.proofs.Common.{◌≡◌, subst, subst₂}
use Rattle.graphql_nodes.specs.Names.{NameText, SameName}
use Rattle.graphql_documents.specs.TypeReferences.{TypeText, as_written, list_text, name_text, non_null_list_text, non_null_name_text}
use Rattle.graphql_documents.specs.declared.documents.schemas.ExtendedType.{ExtendedType}
use Rattle.graphql_documents.specs.declared.documents.schemas.ExtendedType.TheVariants.{Scalar, Object, Interface, Union, Enum, InputObject}
use Rattle.graphql_documents.specs.declared.documents.schemas.Schema.{Schema}
use Rattle.graphql_documents.specs.declared.documents.type_references.Type.{«Type»}
use Rattle.graphql_documents.specs.declared.documents.type_references.Type.TheVariants.{Named, NonNullNamed, List', NonNullList'}
use Rattle.graphql_specification.specs.Merging.{MayOverlap, SameLeafOrBothComposite, SameLeafOrBothCompositeNamed, SameResponseShape}
use Rattle.graphql_building_laws.specs.SameSchemas.{SameSchema, SameType}
use Rattle.graphql_sameness_laws.proofs.SchemaLookupLemmas.{type_too}
use Rattle.graphql_sameness_laws.proofs.SchemaSamenessLemmas.{schema_back, type_back}

leaf_or_composite_first : (x u y : ExtendedType) → SameType x u → SameLeafOrBothComposite x y → SameLeafOrBothComposite u y
leaf_or_composite_first (Scalar a) (Scalar b) (Scalar d) same h = subst (λ n. SameName n d.value.value.name) same.name h
leaf_or_composite_first (Scalar a) (Scalar b) (Object d) same h = h
leaf_or_composite_first (Scalar a) (Scalar b) (Interface d) same h = h
leaf_or_composite_first (Scalar a) (Scalar b) (Union d) same h = h
leaf_or_composite_first (Scalar a) (Scalar b) (Enum d) same h = h
leaf_or_composite_first (Scalar a) (Scalar b) (InputObject d) same h = h
leaf_or_composite_first (Object a) (Object b) y same h = h
leaf_or_composite_first (Interface a) (Interface b) y same h = h
leaf_or_composite_first (Union a) (Union b) y same h = h
leaf_or_composite_first (Enum a) (Enum b) (Enum d) same h = subst (λ n. SameName n d.value.value.name) same.name h
leaf_or_composite_first (Enum a) (Enum b) (Scalar d) same h = h
leaf_or_composite_first (Enum a) (Enum b) (Object d) same h = h
leaf_or_composite_first (Enum a) (Enum b) (Interface d) same h = h
leaf_or_composite_first (Enum a) (Enum b) (Union d) same h = h
leaf_or_composite_first (Enum a) (Enum b) (InputObject d) same h = h
leaf_or_composite_first (InputObject a) (InputObject b) y same h = h
leaf_or_composite_first _ _ y same h = absurd same

leaf_or_composite_second : (x y v : ExtendedType) → SameType y v → SameLeafOrBothComposite x y → SameLeafOrBothComposite x v
leaf_or_composite_second (Scalar d) (Scalar a) (Scalar b) same h = subst (SameName d.value.value.name) same.name h
leaf_or_composite_second (Scalar d) (Object a) (Object b) same h = h
leaf_or_composite_second (Scalar d) (Interface a) (Interface b) same h = h
leaf_or_composite_second (Scalar d) (Union a) (Union b) same h = h
leaf_or_composite_second (Scalar d) (Enum a) (Enum b) same h = h
leaf_or_composite_second (Scalar d) (InputObject a) (InputObject b) same h = h
leaf_or_composite_second (Object d) (Scalar a) (Scalar b) same h = h
leaf_or_composite_second (Object d) (Object a) (Object b) same h = h
leaf_or_composite_second (Object d) (Interface a) (Interface b) same h = h
leaf_or_composite_second (Object d) (Union a) (Union b) same h = h
leaf_or_composite_second (Object d) (Enum a) (Enum b) same h = h
leaf_or_composite_second (Object d) (InputObject a) (InputObject b) same h = h
leaf_or_composite_second (Interface d) (Scalar a) (Scalar b) same h = h
leaf_or_composite_second (Interface d) (Object a) (Object b) same h = h
leaf_or_composite_second (Interface d) (Interface a) (Interface b) same h = h
leaf_or_composite_second (Interface d) (Union a) (Union b) same h = h
leaf_or_composite_second (Interface d) (Enum a) (Enum b) same h = h
leaf_or_composite_second (Interface d) (InputObject a) (InputObject b) same h = h
leaf_or_composite_second (Union d) (Scalar a) (Scalar b) same h = h
leaf_or_composite_second (Union d) (Object a) (Object b) same h = h
leaf_or_composite_second (Union d) (Interface a) (Interface b) same h = h
leaf_or_composite_second (Union d) (Union a) (Union b) same h = h
leaf_or_composite_second (Union d) (Enum a) (Enum b) same h = h
leaf_or_composite_second (Union d) (InputObject a) (InputObject b) same h = h
leaf_or_composite_second (Enum d) (Scalar a) (Scalar b) same h = h
leaf_or_composite_second (Enum d) (Object a) (Object b) same h = h
leaf_or_composite_second (Enum d) (Interface a) (Interface b) same h = h
leaf_or_composite_second (Enum d) (Union a) (Union b) same h = h
leaf_or_composite_second (Enum d) (Enum a) (Enum b) same h = subst (SameName d.value.value.name) same.name h
leaf_or_composite_second (Enum d) (InputObject a) (InputObject b) same h = h
leaf_or_composite_second (InputObject d) (Scalar a) (Scalar b) same h = h
leaf_or_composite_second (InputObject d) (Object a) (Object b) same h = h
leaf_or_composite_second (InputObject d) (Interface a) (Interface b) same h = h
leaf_or_composite_second (InputObject d) (Union a) (Union b) same h = h
leaf_or_composite_second (InputObject d) (Enum a) (Enum b) same h = h
leaf_or_composite_second (InputObject d) (InputObject a) (InputObject b) same h = h
leaf_or_composite_second _ _ _ same h = absurd same

pub leaf_or_composite_too : (x y u v : ExtendedType) → SameType x u → SameType y v → SameLeafOrBothComposite x y → SameLeafOrBothComposite u v
leaf_or_composite_too x y u v left right h = leaf_or_composite_second u y v right (leaf_or_composite_first x u y left h)

overlap_first : (x u y : ExtendedType) → SameType x u → MayOverlap x y → MayOverlap u y
overlap_first (Scalar a) (Scalar b) y same h = h
overlap_first (Object a) (Object b) (Object d) same h = subst (λ n. SameName n d.value.value.name) same.name h
overlap_first (Object a) (Object b) (Scalar d) same h = h
overlap_first (Object a) (Object b) (Interface d) same h = h
overlap_first (Object a) (Object b) (Union d) same h = h
overlap_first (Object a) (Object b) (Enum d) same h = h
overlap_first (Object a) (Object b) (InputObject d) same h = h
overlap_first (Interface a) (Interface b) y same h = h
overlap_first (Union a) (Union b) y same h = h
overlap_first (Enum a) (Enum b) y same h = h
overlap_first (InputObject a) (InputObject b) y same h = h
overlap_first _ _ y same h = absurd same

overlap_second : (x y v : ExtendedType) → SameType y v → MayOverlap x y → MayOverlap x v
overlap_second (Scalar d) (Scalar a) (Scalar b) same h = h
overlap_second (Scalar d) (Object a) (Object b) same h = h
overlap_second (Scalar d) (Interface a) (Interface b) same h = h
overlap_second (Scalar d) (Union a) (Union b) same h = h
overlap_second (Scalar d) (Enum a) (Enum b) same h = h
overlap_second (Scalar d) (InputObject a) (InputObject b) same h = h
overlap_second (Object d) (Scalar a) (Scalar b) same h = h
overlap_second (Object d) (Object a) (Object b) same h = subst (SameName d.value.value.name) same.name h
overlap_second (Object d) (Interface a) (Interface b) same h = h
overlap_second (Object d) (Union a) (Union b) same h = h
overlap_second (Object d) (Enum a) (Enum b) same h = h
overlap_second (Object d) (InputObject a) (InputObject b) same h = h
overlap_second (Interface d) (Scalar a) (Scalar b) same h = h
overlap_second (Interface d) (Object a) (Object b) same h = h
overlap_second (Interface d) (Interface a) (Interface b) same h = h
overlap_second (Interface d) (Union a) (Union b) same h = h
overlap_second (Interface d) (Enum a) (Enum b) same h = h
overlap_second (Interface d) (InputObject a) (InputObject b) same h = h
overlap_second (Union d) (Scalar a) (Scalar b) same h = h
overlap_second (Union d) (Object a) (Object b) same h = h
overlap_second (Union d) (Interface a) (Interface b) same h = h
overlap_second (Union d) (Union a) (Union b) same h = h
overlap_second (Union d) (Enum a) (Enum b) same h = h
overlap_second (Union d) (InputObject a) (InputObject b) same h = h
overlap_second (Enum d) (Scalar a) (Scalar b) same h = h
overlap_second (Enum d) (Object a) (Object b) same h = h
overlap_second (Enum d) (Interface a) (Interface b) same h = h
overlap_second (Enum d) (Union a) (Union b) same h = h
overlap_second (Enum d) (Enum a) (Enum b) same h = h
overlap_second (Enum d) (InputObject a) (InputObject b) same h = h
overlap_second (InputObject d) (Scalar a) (Scalar b) same h = h
overlap_second (InputObject d) (Object a) (Object b) same h = h
overlap_second (InputObject d) (Interface a) (Interface b) same h = h
overlap_second (InputObject d) (Union a) (Union b) same h = h
overlap_second (InputObject d) (Enum a) (Enum b) same h = h
overlap_second (InputObject d) (InputObject a) (InputObject b) same h = h
overlap_second _ _ _ same h = absurd same

pub overlap_too : (x y u v : ExtendedType) → SameType x u → SameType y v → MayOverlap x y → MayOverlap u v
overlap_too x y u v left right h = overlap_second u y v right (overlap_first x u y left h)

-- ==== shapes, by how types are written

abbrev ShapeText : Schema → TypeText → TypeText → Type 0
ShapeText schema (name_text a) (name_text b) = SameLeafOrBothCompositeNamed schema a b
ShapeText schema (non_null_name_text a) (non_null_name_text b) = SameLeafOrBothCompositeNamed schema a b
ShapeText schema (list_text a) (list_text b) = ShapeText schema a b
ShapeText schema (non_null_list_text a) (non_null_list_text b) = ShapeText schema a b
ShapeText schema _ _ = ⊥

written_shape : (schema : Schema) (a b : «Type») → SameResponseShape schema a b → ShapeText schema (as_written a) (as_written b)
written_shape schema (Named a) (Named b) h = h
written_shape schema (Named a) (NonNullNamed b) h = absurd h
written_shape schema (Named a) (List' other b) h = absurd h
written_shape schema (Named a) (NonNullList' other b) h = absurd h
written_shape schema (NonNullNamed a) (Named b) h = absurd h
written_shape schema (NonNullNamed a) (NonNullNamed b) h = h
written_shape schema (NonNullNamed a) (List' other b) h = absurd h
written_shape schema (NonNullNamed a) (NonNullList' other b) h = absurd h
written_shape schema (List' place a) (Named b) h = absurd h
written_shape schema (List' place a) (NonNullNamed b) h = absurd h
written_shape schema (List' place a) (List' other b) h = written_shape schema a b h
written_shape schema (List' place a) (NonNullList' other b) h = absurd h
written_shape schema (NonNullList' place a) (Named b) h = absurd h
written_shape schema (NonNullList' place a) (NonNullNamed b) h = absurd h
written_shape schema (NonNullList' place a) (List' other b) h = absurd h
written_shape schema (NonNullList' place a) (NonNullList' other b) h = written_shape schema a b h

shape_written : (schema : Schema) (a b : «Type») → ShapeText schema (as_written a) (as_written b) → SameResponseShape schema a b
shape_written schema (Named a) (Named b) h = h
shape_written schema (Named a) (NonNullNamed b) h = absurd h
shape_written schema (Named a) (List' other b) h = absurd h
shape_written schema (Named a) (NonNullList' other b) h = absurd h
shape_written schema (NonNullNamed a) (Named b) h = absurd h
shape_written schema (NonNullNamed a) (NonNullNamed b) h = h
shape_written schema (NonNullNamed a) (List' other b) h = absurd h
shape_written schema (NonNullNamed a) (NonNullList' other b) h = absurd h
shape_written schema (List' place a) (Named b) h = absurd h
shape_written schema (List' place a) (NonNullNamed b) h = absurd h
shape_written schema (List' place a) (List' other b) h = shape_written schema a b h
shape_written schema (List' place a) (NonNullList' other b) h = absurd h
shape_written schema (NonNullList' place a) (Named b) h = absurd h
shape_written schema (NonNullList' place a) (NonNullNamed b) h = absurd h
shape_written schema (NonNullList' place a) (List' other b) h = absurd h
shape_written schema (NonNullList' place a) (NonNullList' other b) h = shape_written schema a b h

module _ (a b : Schema) (schemas : SameSchema a b) where
  named_shape_too : (name other : NameText) → SameLeafOrBothCompositeNamed a name other → SameLeafOrBothCompositeNamed b name other
  named_shape_too name other h u v first second =
      let x = type_too b a (schema_back a b schemas) name u first in
      let y = type_too b a (schema_back a b schemas) other v second in
      leaf_or_composite_too x.0 y.0 u v (type_back u x.0 x.2) (type_back v y.0 y.2) (h x.0 y.0 x.1 y.1)

  shape_text_too : (s t : TypeText) → ShapeText a s t → ShapeText b s t
  shape_text_too (name_text x) (name_text y) h = named_shape_too x y h
  shape_text_too (name_text x) (non_null_name_text y) h = absurd h
  shape_text_too (name_text x) (list_text y) h = absurd h
  shape_text_too (name_text x) (non_null_list_text y) h = absurd h
  shape_text_too (non_null_name_text x) (name_text y) h = absurd h
  shape_text_too (non_null_name_text x) (non_null_name_text y) h = named_shape_too x y h
  shape_text_too (non_null_name_text x) (list_text y) h = absurd h
  shape_text_too (non_null_name_text x) (non_null_list_text y) h = absurd h
  shape_text_too (list_text x) (name_text y) h = absurd h
  shape_text_too (list_text x) (non_null_name_text y) h = absurd h
  shape_text_too (list_text x) (list_text y) h = shape_text_too x y h
  shape_text_too (list_text x) (non_null_list_text y) h = absurd h
  shape_text_too (non_null_list_text x) (name_text y) h = absurd h
  shape_text_too (non_null_list_text x) (non_null_name_text y) h = absurd h
  shape_text_too (non_null_list_text x) (list_text y) h = absurd h
  shape_text_too (non_null_list_text x) (non_null_list_text y) h = shape_text_too x y h

  pub shape_too : (s t u v : «Type») → as_written s ≡ as_written u → as_written t ≡ as_written v → SameResponseShape a s t → SameResponseShape b u v
  shape_too s t u v left right h = shape_written b u v (subst₂ (ShapeText b) left right (shape_text_too (as_written s) (as_written t) (written_shape a s t h)))
