-- In a schema that holds each input type has a value that can be written down.
use Rattle.std.proofs.Common.{◌≡◌, ◌≢◌, inl, inr, [], Option, Some, None, refl, ap, ◌∙◌, Contains, Global}
use Rattle.std.specs.Prelude.{All, IsTrue, filter_map, is_some}
use Rattle.std.specs.Option.{option_and_then}
use Rattle.std.proofs.lemmas.List.Elements.{All-contains, All-weaker}
use Rattle.graphql_documents.specs.Built.{StandsUnderOwnNames, TypeStandsUnderItsName}
use Rattle.graphql_specification.specs.Values.{HasFiniteValue}
use Rattle.graphql_nodes.specs.Names.{NameText, SameName}
use Rattle.graphql_documents.specs.Schemas.{IsInputObject, type_definition, is_built_in, is_input_type, own_name, as_input_object}
use Rattle.graphql_specification.specs.InputObjectCycles.{InputObjectHasNoCycle, RequiresBy, RequiresBack, input_object_of, required_name}
use Rattle.graphql_specification.specs.Schemas.{SchemaHolds}
use Rattle.graphql_specification.specs.InputValueDefinitions.{InputValueDefinitionHolds, NamesType}
use Rattle.graphql_specification.specs.BuiltInScalars.{BuiltInScalarsHaveTheirNames, is_scalar_type, names_built_in_scalar}
use Rattle.graphql_documents.specs.TypeReferences.{inner_named_type}
use Rattle.graphql_documents.specs.declared.documents.components.Component.{Component}
use Rattle.graphql_nodes.specs.declared.directive_locations.DirectiveLocation.TheVariants as at
use Rattle.graphql_documents.specs.declared.documents.definitions.InputValueDefinition.{InputValueDefinition}
use Rattle.graphql_nodes.specs.declared.nodes.Node.{Node}
use Rattle.graphql_documents.specs.declared.documents.type_references.Type.{«Type»}
use Rattle.graphql_documents.specs.declared.documents.type_references.Type.TheVariants.{Named, NonNullNamed, List', NonNullList'}
use Rattle.graphql_documents.specs.declared.documents.schemas.EnumType.{EnumType}
use Rattle.graphql_documents.specs.declared.documents.schemas.InputObjectType.{InputObjectType}
use Rattle.graphql_documents.specs.declared.documents.schemas.Schema.{Schema}
use Rattle.graphql_documents.specs.declared.documents.schemas.ExtendedType.{ExtendedType}
use Rattle.graphql_documents.specs.declared.documents.schemas.ExtendedType.TheVariants.{Scalar, Enum, InputObject}
use Rattle.graphql_documents.proofs.ListLemmas.{each_standing, stands_mapped, kept_by_map}
use Rattle.graphql_nodes.proofs.NameLemmas.{same_name_then}
use Rattle.graphql_schema_laws.specs.InputFields.{HasFieldsOfMap, InputObjectsHaveFieldsOfMaps}
use Rattle.graphql_schema_laws.proofs.NoCycleLemmas.{all_hold}
use Rattle.graphql_schema_laws.proofs.ObjectValueLemmas.{object_has, type_of}
use Rattle.graphql_schema_laws.proofs.TypeLemmas.{type_holds, type_stands}
use Rattle.graphql_schema_laws.proofs.ValueLemmas.{HasValue, enum_has, list_has, nullable_has, scalar_has, undefined_has}

-- a field of an input object
abbrev pub Field : Type 0
Field = NameText × Component InputValueDefinition

-- what a field must hold is the input object of its name
pub required_target : (schema : Schema) (ty : «Type») (d : Node InputObjectType) →
    option_and_then as_input_object (option_and_then (type_definition schema) (required_name ty)) ≡ Some d →
    (name : NameText) × (ty ≡ NonNullNamed name) × IsInputObject schema name d
required_target schema (NonNullNamed name) d is = (name, refl, by (type_definition schema name) is) where
  by : (o : Option ExtendedType) → option_and_then as_input_object o ≡ Some d → o ≡ Some (InputObject d)
  by (Some (InputObject e)) is = let same : e ≡ d = cc in ap (λ d. Some (InputObject d)) same
  by (Some _) is = absurd (let no : ⊥ = cc in no)
  by None is = absurd (let no : ⊥ = cc in no)
required_target schema _ d is = absurd (let no : ⊥ = cc in no)

-- what is needed of the input types of a schema
pub record InputTypesHold (schema : Schema) : Type 0 where
  pub names : (key : NameText) (d : Node InputObjectType) → Contains schema.types.entries (key, InputObject d) → SameName key d.value.value.name
  pub no_cycles : (key : NameText) (d : Node InputObjectType) → Contains schema.types.entries (key, InputObject d) → InputObjectHasNoCycle schema d
  pub fields : (key : NameText) (d : Node InputObjectType) → Contains schema.types.entries (key, InputObject d) →
      All (λ field. NamesType schema is_input_type (inner_named_type (type_of field))) d.value.value.fields.entries
  pub maps : (key : NameText) (d : Node InputObjectType) → Contains schema.types.entries (key, InputObject d) → HasFieldsOfMap d.value.value
  pub enums : (key : NameText) (d : Node EnumType) → Contains schema.types.entries (key, Enum d) → d.value.value.values.entries ≢ []
  pub scalars : BuiltInScalarsHaveTheirNames schema

module _ (schema : Schema) (holds : InputTypesHold schema) where
  -- an input object of the schema
  abbrev Stands : Node InputObjectType → Type 0
  Stands d = (key : NameText) × Contains schema.types.entries (key, InputObject d)

  abbrev FieldsHave : Node InputObjectType → Type 0
  FieldsHave d = All (λ (field : Field). HasValue schema (type_of field)) d.value.value.fields.entries

  abbrev memory : Global
  memory = schema.schema_definition.value.value.directives.alloc

  stands_under : (name : NameText) (d : Node InputObjectType) → IsInputObject schema name d → Stands d
  stands_under name d is = let found = type_stands schema name (InputObject d) is in (found.0, found.1)

  -- a type that is not null, by its definition
  defined_has : (ty : «Type») (d : ExtendedType) → type_definition schema (inner_named_type ty) ≡ Some d → IsTrue (is_input_type d) →
      ((o : Node InputObjectType) → d ≡ InputObject o → FieldsHave o) → HasValue schema ty
  defined_has ty (Scalar d) is input below =
      let (key, stands, same) = type_stands schema (inner_named_type ty) (Scalar d) is in
      scalar_has memory schema ty d is
      (All-contains (λ entry. IsTrue (is_scalar_type entry.1) → IsTrue (is_built_in entry.1) → IsTrue (names_built_in_scalar (own_name entry.1).text)) schema.types.entries (key, Scalar d) holds.scalars stands refl)
  defined_has ty (Enum d) is input below =
      let (key, stands, same) = type_stands schema (inner_named_type ty) (Enum d) is in
      enum_has memory schema ty d is (holds.enums key d stands)
  defined_has ty (InputObject d) is input below =
      let stands = stands_under (inner_named_type ty) d is in
      object_has memory schema ty d is (holds.maps stands.0 d stands.1) (below d refl)
  defined_has ty _ is input below = absurd (let no : ⊥ = cc in no)

  type_has : (ty : «Type») → NamesType schema is_input_type (inner_named_type ty) →
      ((name : NameText) (o : Node InputObjectType) → ty ≡ NonNullNamed name → IsInputObject schema name o → FieldsHave o) → HasValue schema ty
  type_has ty (inr none) below = undefined_has schema ty none.0
  type_has (Named name) (inl d) below = nullable_has schema (Named name) refl
  type_has (List' place item) (inl d) below = nullable_has schema (List' place item) refl
  type_has (NonNullList' place item) (inl (d, is, input)) below = list_has memory schema (NonNullList' place item) d is refl input
  type_has (NonNullNamed name) (inl (d, is, input)) below =
      defined_has (NonNullNamed name) d is input (λ o same. below name o refl (is ∙ ap Some same))

  -- a field leads to an input object that is in the schema, by its name
  target_stands : (d : Node InputObjectType) (r : Node InputValueDefinition) → input_object_of schema r ≡ Some d → Stands d
  target_stands d r is = let (name, ty, is_d) = required_target schema r.value.value.ty.value.value d is in stands_under name d is_d

  target_named : (d : Node InputObjectType) (r : Node InputValueDefinition) → input_object_of schema r ≡ Some d → RequiresBack d r
  target_named d r is =
      let (name, ty, is_d) = required_target schema r.value.value.ty.value.value d is in
      let (key, stands, same) = type_stands schema name (InputObject d) is_d in
      rw ty (same_name_then name key d.value.value.name same (holds.names key d stands))

  from_targets : (d : Node InputObjectType) →
      ((r : Node InputValueDefinition) (e : Node InputObjectType) → RequiresBy schema d r → input_object_of schema r ≡ Some e → Stands e → FieldsHave e) → Stands d → FieldsHave d
  from_targets d below stands =
      each_standing (λ (field : Field). HasValue schema (type_of field)) d.value.value.fields.entries (λ field within.
      let names = All-contains (λ (field : Field). NamesType schema is_input_type (inner_named_type (type_of field))) d.value.value.fields.entries field (holds.fields stands.0 d stands.1) within in
      type_has (type_of field) names (λ name o ty is.
      let leads : input_object_of schema field.1.node ≡ Some o = rw (ty, is) refl in
      below field.1.node o (record {
        stands = stands_mapped (λ (field : Field). field.1.node) d.value.value.fields.entries field within;
        requires = ap is_some leads;
      }) leads (stands_under name o is)))

  fields_have : (d : Node InputObjectType) → Stands d → FieldsHave d
  fields_have d (key, stands) =
      all_hold (RequiresBy schema) (input_object_of schema) RequiresBack (λ d. Stands d → FieldsHave d) target_named
      (λ d r is. let stands = target_stands d r is in holds.no_cycles stands.0 d stands.1)
      from_targets
      (filter_map (λ entry. as_input_object entry.1) schema.types.entries)
      (λ r d is. among d (target_stands d r is))
      d (among d (key, stands)) (holds.no_cycles key d stands) (key, stands) where
        among : (d : Node InputObjectType) → Stands d → Contains (filter_map (λ (entry : NameText × ExtendedType). as_input_object entry.1) schema.types.entries) d
        among d (key, stands) = kept_by_map (λ (entry : NameText × ExtendedType). as_input_object entry.1) schema.types.entries (key, InputObject d) d stands refl

  pub has_finite_value : (ty : «Type») → NamesType schema is_input_type (inner_named_type ty) → HasFiniteValue schema ty
  has_finite_value ty names =
      let (value, is) = type_has ty names (λ name o same is. fields_have o (stands_under name o is)) in
      (value, is.plain, is.accepted)

-- so it is in a schema that holds
pub input_types_hold : (schema : Schema) → SchemaHolds schema → StandsUnderOwnNames schema → BuiltInScalarsHaveTheirNames schema → InputObjectsHaveFieldsOfMaps schema →
    InputTypesHold schema
input_types_hold schema holds own named maps = record {
  names = λ key d stands. (All-contains (λ entry. TypeStandsUnderItsName entry.0 entry.1) schema.types.entries (key, InputObject d) own.types stands).itself;
  no_cycles = λ key d stands. (type_holds schema key (InputObject d) stands holds).no_cycle;
  fields = λ key d stands.
      All-weaker (λ (field : Field). InputValueDefinitionHolds schema at.InputFieldDefinition field.1.node.value.value)
      (λ field. NamesType schema is_input_type (inner_named_type (type_of field))) (λ field defined. defined.ty)
      d.value.value.fields.entries (type_holds schema key (InputObject d) stands holds).fields;
  maps = λ key d stands.
      All-contains (λ entry. (d : Node InputObjectType) → entry.1 ≡ InputObject d → HasFieldsOfMap d.value.value) schema.types.entries (key, InputObject d) maps stands d refl;
  enums = λ key d stands. (type_holds schema key (Enum d) stands holds).is_not_empty;
  scalars = named;
}
