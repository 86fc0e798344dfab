-- Each field of a schema that holds is of a defined output type once its used built-in scalars are retained.
use Rattle.std.proofs.Common.{◌≡◌, ◌⊎◌, inl, inr, Bool, true, false, Option, Some, None, Ok, refl, sym, ap, ◌∙◌, subst, Contains}
use Rattle.std.specs.Prelude.{Err, Result, codes, flat_map}
use Rattle.std.specs.Str.{bytes_eq}
use Rattle.std.proofs.lemmas.List.Elements.{All-contains, All-nil, Contains-append_left, Contains-append_right}
use Rattle.graphql_nodes.specs.Names.{NameText, same_name}
use Rattle.graphql_nodes.specs.declared.nodes.Node.{Node}
use Rattle.graphql_documents.specs.Schemas.{NamesKind, fields_of, is_composite, is_output_type, is_query_root, meta_field, own_field, type_definition, type_field}
use Rattle.graphql_documents.specs.TypeReferences.{inner_named_type}
use Rattle.graphql_documents.specs.declared.documents.components.Component.{Component}
use Rattle.graphql_documents.specs.declared.documents.definitions.DirectiveDefinition.{DirectiveDefinition}
use Rattle.graphql_documents.specs.declared.documents.definitions.FieldDefinition.{FieldDefinition}
use Rattle.graphql_documents.specs.declared.documents.schemas.ExtendedType.{ExtendedType}
use Rattle.graphql_documents.specs.declared.documents.schemas.ExtendedType.TheVariants.{Scalar, Object, Interface, Union, Enum, InputObject}
use Rattle.graphql_documents.specs.declared.documents.schemas.FieldLookupError.{FieldLookupError}
use Rattle.graphql_documents.specs.declared.documents.schemas.FieldLookupError.TheVariants.{NoSuchField, NoSuchType}
use Rattle.graphql_documents.specs.declared.documents.schemas.Schema.{Schema}
use Rattle.graphql_documents.proofs.ListLemmas.{none_stands, stands_first, stands_flat}
use Rattle.graphql_specification.specs.BuiltInScalars.{SchemaRetainsUsedBuiltInScalars, argument_types, field_types, is_scalar_type, types_referred_by, uses_type}
use Rattle.graphql_specification.specs.FieldDefinitions.{FieldDefinitionHolds, FieldDefinitionsHold}
use Rattle.graphql_specification.specs.InputValueDefinitions.{NamesType}
use Rattle.graphql_specification.specs.Schemas.{SchemaHolds}
use Rattle.graphql_specification.specs.Types.{TypeHolds}
use Rattle.graphql_schema_laws.proofs.RetainedLaws.{Entry}
use Rattle.graphql_schema_laws.proofs.RetainedTypeLemmas.{IsAdded, retained_entry}
use Rattle.graphql_schema_laws.proofs.TypeLemmas.{found_stands, type_holds, type_stands}
use Rattle.graphql_schema_laws.proofs.UsedTypeLemmas.{now_scalar, still_found, used_from}
use Rattle.graphql_document_building.specs.Documents.{HasOutputFields}
use Rattle.graphql_document_building.specs.Trees.{type_below}
use Rattle.graphql_building_laws.specs.MetaFieldTypes.{HasTypesOfMetaFields}

abbrev Field : Type 0
Field = NameText × Component FieldDefinition

scalar_is_output : (d : ExtendedType) → is_scalar_type d ≡ true → is_output_type d ≡ true
scalar_is_output (Scalar d) is = refl
scalar_is_output _ is = absurd (let no : ⊥ = cc in no)

-- a type with a field is no scalar
scalar_has_no_fields : (d : ExtendedType) (field : Field) → is_scalar_type d ≡ true → Contains (fields_of d) field → ⊥
scalar_has_no_fields (Scalar d) field is stands = none_stands field stands
scalar_has_no_fields _ field is stands = let no : ⊥ = cc in no

-- the fields of a type that holds
fields_hold : (schema : Schema) (d : ExtendedType) → TypeHolds schema d → FieldDefinitionsHold schema (fields_of d)
fields_hold schema (Scalar d) holds = All-nil (λ entry. FieldDefinitionHolds schema entry.1.node.value.value × NamesType schema is_output_type (inner_named_type entry.1.node.value.value.ty))
fields_hold schema (Object d) holds = holds.fields
fields_hold schema (Interface d) holds = holds.fields
fields_hold schema (Union d) holds = All-nil (λ entry. FieldDefinitionHolds schema entry.1.node.value.value × NamesType schema is_output_type (inner_named_type entry.1.node.value.value.ty))
fields_hold schema (Enum d) holds = All-nil (λ entry. FieldDefinitionHolds schema entry.1.node.value.value × NamesType schema is_output_type (inner_named_type entry.1.node.value.value.ty))
fields_hold schema (InputObject d) holds = All-nil (λ entry. FieldDefinitionHolds schema entry.1.node.value.value × NamesType schema is_output_type (inner_named_type entry.1.node.value.value.ty))

-- a field that a type itself has is one of its fields
own_stands : (d : ExtendedType) (name : NameText) (f : Component FieldDefinition) → own_field d name ≡ Some f → (key : NameText) × Contains (fields_of d) (key, f)
own_stands (Object d) name f found = let at = found_stands (same_name name) d.value.value.fields.entries f found in (at.0, at.1)
own_stands (Interface d) name f found = let at = found_stands (same_name name) d.value.value.fields.entries f found in (at.0, at.1)
own_stands _ name f found = absurd (let no : ⊥ = cc in no)

module _ (schema retained : Schema) (holds : SchemaHolds schema) (is : SchemaRetainsUsedBuiltInScalars schema retained) where
  -- the type of a field is used
  field_used : (entry : Entry) → Contains schema.types.entries entry → (field : Field) → Contains (fields_of entry.1) field →
      uses_type schema (type_below field.1).text ≡ true
  field_used entry stands field within =
      used_from schema (type_below field.1)
      (Contains-append_right (flat_map (λ (entry : NameText × Node DirectiveDefinition). argument_types entry.1.value.value.arguments.items) schema.directive_definitions.entries)
      (flat_map (λ (entry : Entry). types_referred_by entry.1) schema.types.entries) (type_below field.1)
      (stands_flat (λ (entry : Entry). types_referred_by entry.1) schema.types.entries entry (type_below field.1) stands
      (Contains-append_left (flat_map (λ (field : Field). field_types field.1.node.value.value) (fields_of entry.1)) _ (type_below field.1)
      (stands_flat (λ (field : Field). field_types field.1.node.value.value) (fields_of entry.1) field (type_below field.1) within
      (stands_first (type_below field.1) (argument_types field.1.node.value.value.arguments.items))))))

  still_output : (name : NameText) → uses_type schema name.text ≡ true → NamesType schema is_output_type name → NamesKind retained is_output_type name
  still_output name used (inl (d, found, output)) = (d, still_found schema retained is name used d found, output)
  still_output name used (inr (none, named)) =
      let d = now_scalar schema retained is name used none named in (d.0, d.1, scalar_is_output d.0 d.2)

  own_output : (key : NameText) (d : ExtendedType) → Contains retained.types.entries (key, d) → (field : Field) → Contains (fields_of d) field →
      NamesKind retained is_output_type (type_below field.1)
  own_output key d stands field within = by (retained_entry schema retained is (key, d) stands) where
    by : Contains schema.types.entries (key, d) ⊎ IsAdded (key, d) → NamesKind retained is_output_type (type_below field.1)
    by (inl there) =
        still_output (type_below field.1) (field_used (key, d) there field within)
        (All-contains (λ (f : Field). FieldDefinitionHolds schema f.1.node.value.value × NamesType schema is_output_type (inner_named_type f.1.node.value.value.ty))
        (fields_of d) field (fields_hold schema d (type_holds schema key d there holds)) within).1
    by (inr came) = absurd (scalar_has_no_fields d field (ap is_scalar_type came.is_added.is_scalar) within)

-- what a choice between two gives
meta_output : (schema : Schema) (parent : NameText) (d : ExtendedType) (field : NameText) (f : Component FieldDefinition) → HasTypesOfMetaFields schema →
    meta_field schema parent d field ≡ Some f → NamesKind schema is_output_type (type_below f)
meta_output schema parent d field f types found =
    by (is_composite d) (bytes_eq field.text (codes "__typename")) (is_query_root schema parent) (bytes_eq field.text (codes "__schema")) (bytes_eq field.text (codes "__type")) refl refl refl refl refl where
      is : (g : Component FieldDefinition) → meta_field schema parent d field ≡ Some g → NamesKind schema is_output_type (type_below g) → NamesKind schema is_output_type (type_below f)
      is g here output =
          let both : Some g ≡ Some f = sym here ∙ found in
          let alike : g ≡ f = cc in
          subst (λ g. NamesKind schema is_output_type (type_below g)) alike output

      none : meta_field schema parent d field ≡ None → NamesKind schema is_output_type (type_below f)
      none here = absurd (let no : ⊥ = cc in no)

      by : (a b c e g : Bool) → is_composite d ≡ a → bytes_eq field.text (codes "__typename") ≡ b → is_query_root schema parent ≡ c →
          bytes_eq field.text (codes "__schema") ≡ e → bytes_eq field.text (codes "__type") ≡ g → NamesKind schema is_output_type (type_below f)
      by false b c e g ha hb hc he hg = none (rw ha refl)
      by true true c e g ha hb hc he hg = is schema.meta_fields.typename (rw (ha, hb) refl) types.typename
      by true false false e g ha hb hc he hg = none (rw (ha, hb, hc) refl)
      by true false true true g ha hb hc he hg = is schema.meta_fields.schema (rw (ha, hb, hc, he) refl) types.schema_field
      by true false true false true ha hb hc he hg = is schema.meta_fields.type_by_name (rw (ha, hb, hc, he, hg) refl) types.type_by_name
      by true false true false false ha hb hc he hg = none (rw (ha, hb, hc, he, hg) refl)

-- a field that is found is an own field or a meta-field
record FoundField (schema : Schema) (parent field : NameText) (f : Component FieldDefinition) : Type 0 where
  d : ExtendedType
  defined : type_definition schema parent ≡ Some d
  found : (own_field d field ≡ Some f) ⊎ (meta_field schema parent d field ≡ Some f)

same_field : (r : Result (Component FieldDefinition) FieldLookupError) (g f : Component FieldDefinition) → r ≡ Ok g → r ≡ Ok f → g ≡ f
same_field r g f is found = let e = sym is ∙ found in cc

not_both : (r : Result (Component FieldDefinition) FieldLookupError) (e : FieldLookupError) (f : Component FieldDefinition) → r ≡ Err e → r ≡ Ok f → ⊥
not_both r e f is found = let no : ⊥ = cc in no

found_field : (schema : Schema) (parent field : NameText) (f : Component FieldDefinition) → type_field schema parent field ≡ Ok f → FoundField schema parent field f
found_field schema parent field f found = by (type_definition schema parent) refl where
  third : (d : ExtendedType) → type_definition schema parent ≡ Some d → (own : Option (Component FieldDefinition)) → own_field d field ≡ own →
      (meta : Option (Component FieldDefinition)) → meta_field schema parent d field ≡ meta → FoundField schema parent field f
  third d is (Some g) own meta m =
      record { d = d; defined = is; found = inl (own ∙ ap Some (same_field (type_field schema parent field) g f (rw (is, own) refl) found)) }
  third d is None own (Some g) m =
      record { d = d; defined = is; found = inr (m ∙ ap Some (same_field (type_field schema parent field) g f (rw (is, own, m) refl) found)) }
  third d is None own None m = absurd (not_both (type_field schema parent field) NoSuchField f (rw (is, own, m) refl) found)

  by : (o : Option ExtendedType) → type_definition schema parent ≡ o → FoundField schema parent field f
  by None is = absurd (not_both (type_field schema parent field) NoSuchType f (rw is refl) found)
  by (Some d) is = third d is (own_field d field) refl (meta_field schema parent d field) refl

pub has_output_fields : (schema retained : Schema) → SchemaHolds schema → SchemaRetainsUsedBuiltInScalars schema retained → HasTypesOfMetaFields retained → HasOutputFields retained
has_output_fields schema retained holds is types parent field f found =
    let at = found_field retained parent field f found in by at.d at.defined at.found where
      by : (d : ExtendedType) → type_definition retained parent ≡ Some d → (own_field d field ≡ Some f) ⊎ (meta_field retained parent d field ≡ Some f) → NamesKind retained is_output_type (type_below f)
      by d defined (inl own) =
          let (key, stands, same) = type_stands retained parent d defined in
          let (name, within) = own_stands d field f own in
          own_output schema retained holds is key d stands (name, f) within
      by d defined (inr meta) = meta_output retained parent d field f types meta
