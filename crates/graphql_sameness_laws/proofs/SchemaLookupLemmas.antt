-- What a name finds in schemas that are the same is the same. Specification: 3.3 Schema, 3.6 Objects, 3.13 Directives, 4 Introspection.
use Rattle.std.proofs.Common.{◌≡◌, ◌∙◌, Bool, true, false, Option, None, Some, codes, refl, sym, ap, subst}
use Rattle.std.specs.Prelude.{Ok, Err, if◌then◌else◌}
use Rattle.std.specs.Option.{option_and_then, option_map_or}
use Rattle.std.specs.Result.{result_ok}
use Rattle.std.specs.Str.{bytes_eq}
use Rattle.graphql_nodes.specs.Names.{NameText, same_name}
use Rattle.graphql_nodes.specs.declared.operation_types.OperationType.{OperationType}
use Rattle.graphql_nodes.specs.declared.operation_types.OperationType.TheVariants.{Query, Mutation, Subscription}
use Rattle.graphql_documents.specs.Contents.{SameIfAny}
use Rattle.graphql_documents.specs.Directives.{directive_definition, directive_in}
use Rattle.graphql_documents.specs.Schemas.{NamesKind, as_input_object, first_of, input_object_named, is_composite, is_query_root, meta_field, own_field, root_operation, type_definition, type_field}
use Rattle.graphql_documents.specs.Selections.{definition_at}
use Rattle.graphql_documents.specs.declared.documents.components.Component.{Component}
use Rattle.graphql_documents.specs.declared.documents.components.ComponentName.{ComponentName}
use Rattle.graphql_documents.specs.declared.documents.definitions.FieldDefinition.{FieldDefinition}
use Rattle.graphql_documents.specs.declared.documents.schemas.ExtendedType.{ExtendedType}
use Rattle.graphql_documents.specs.declared.documents.schemas.FieldLookupError.TheVariants.{NoSuchField, NoSuchType}
use Rattle.graphql_documents.specs.declared.documents.schemas.Schema.{Schema}
use Rattle.graphql_document_building.specs.SameLeaves.{SameDirectiveDefinition, SameField}
use Rattle.graphql_building_laws.specs.SameSchemas.{SameComponent, SameInputObject, SameSchema, SameType}
use Rattle.graphql_sameness_laws.proofs.TypeKindLemmas.{as_input_object_alike, both_composite, own_field_alike}
use Rattle.graphql_sameness_laws.proofs.ZipLemmas.{options_then, other_side, none_too, zip_lookup}

-- ==== choices

chosen : {X : Type 0} (R : X → X → Type 0) (s t : Bool) (o p u v : Option X) → s ≡ t → SameIfAny R o u → SameIfAny R p v →
    SameIfAny R (if s then o else p) (if t then u else v)
chosen R true true o p u v e left right = left
chosen R false false o p u v e left right = right
chosen R true false o p u v e left right = absurd (let h : ⊥ = cc in h)
chosen R false true o p u v e left right = absurd (let h : ⊥ = cc in h)

first_alike : {X : Type 0} (R : X → X → Type 0) (o p u v : Option X) → SameIfAny R o u → SameIfAny R p v → SameIfAny R (first_of o p) (first_of u v)
first_alike R None p None v own other = other
first_alike R None p (Some y) v own other = absurd own
first_alike R (Some x) p None v own other = absurd own
first_alike R (Some x) p (Some y) v own other = own

-- ==== a field of a type, or none

found_field : (p : Option (Component FieldDefinition)) → result_ok (option_map_or Ok p (Err NoSuchField)) ≡ p
found_field None = refl
found_field (Some d) = refl

found_type : (fields : ExtendedType → Option (Component FieldDefinition)) (o : Option ExtendedType) →
    result_ok (option_map_or (λ d. option_map_or Ok (fields d) (Err NoSuchField)) o (Err NoSuchType)) ≡ option_and_then fields o
found_type fields None = refl
found_type fields (Some d) = found_field (fields d)

-- ==== the parts of the choice of a meta-field

abbrev by_name : Schema → NameText → Option (Component FieldDefinition)
by_name s field = if bytes_eq field.text (codes "__type") then Some s.meta_fields.type_by_name else None

abbrev root_field : Schema → NameText → Option (Component FieldDefinition)
root_field s field = if bytes_eq field.text (codes "__schema") then Some s.meta_fields.schema else by_name s field

abbrev on_root : Schema → NameText → NameText → Option (Component FieldDefinition)
on_root s name field = if is_query_root s name then root_field s field else None

abbrev composite_field : Schema → NameText → NameText → Option (Component FieldDefinition)
composite_field s name field = if bytes_eq field.text (codes "__typename") then Some s.meta_fields.typename else on_root s name field

module _ (a b : Schema) (same : SameSchema a b) where
  pub type_alike : (name : NameText) → SameIfAny SameType (type_definition a name) (type_definition b name)
  type_alike name = zip_lookup SameType (same_name name) a.types.entries b.types.entries same.types

  pub type_too : (name : NameText) (x : ExtendedType) → type_definition a name ≡ Some x → (y : ExtendedType) × (type_definition b name ≡ Some y) × SameType x y
  type_too name x e = other_side SameType (type_definition a name) (type_definition b name) x (type_alike name) e

  pub no_type_too : (name : NameText) → type_definition a name ≡ None → type_definition b name ≡ None
  no_type_too name e = none_too SameType (type_definition a name) (type_definition b name) (type_alike name) e

  pub directive_alike : (name : NameText) → SameIfAny SameDirectiveDefinition (directive_definition a name) (directive_definition b name)
  directive_alike name = zip_lookup SameDirectiveDefinition (same_name name) a.directive_definitions.entries b.directive_definitions.entries same.directive_definitions

  pub names_kind_too : (test : ExtendedType → Bool) → ((x y : ExtendedType) → SameType x y → test x ≡ test y) →
      (name other : NameText) → name ≡ other → NamesKind a test name → NamesKind b test other
  names_kind_too test alike name other e kind =
      let found = type_too name kind.0 kind.1 in
      (found.0, subst (λ n. type_definition b n ≡ Some found.0) e found.1, sym (alike kind.0 found.0 found.2) ∙ kind.2)

  pub one_root_operation : (operation : OperationType) →
      root_operation a.schema_definition.value.value operation ≡ root_operation b.schema_definition.value.value operation
  one_root_operation Query = same.schema_definition.query
  one_root_operation Mutation = same.schema_definition.mutation
  one_root_operation Subscription = same.schema_definition.subscription

  one_query_root : (name : NameText) → is_query_root a name ≡ is_query_root b name
  one_query_root name = ap (λ (root : Option ComponentName). option_map_or (λ root. same_name root.name name) root false) same.schema_definition.query

  meta_field_alike : (name : NameText) (x y : ExtendedType) (field : NameText) → SameType x y →
      SameIfAny (SameComponent SameField) (meta_field a name x field) (meta_field b name y field)
  meta_field_alike name x y field alike =
      let R = SameComponent SameField in
      chosen R (is_composite x) (is_composite y) (composite_field a name field) None (composite_field b name field) None (both_composite x y alike)
      (chosen R (bytes_eq field.text (codes "__typename")) (bytes_eq field.text (codes "__typename"))
      (Some a.meta_fields.typename) (on_root a name field) (Some b.meta_fields.typename) (on_root b name field) refl same.meta_fields.typename
      (chosen R (is_query_root a name) (is_query_root b name) (root_field a field) None (root_field b field) None (one_query_root name)
      (chosen R (bytes_eq field.text (codes "__schema")) (bytes_eq field.text (codes "__schema"))
      (Some a.meta_fields.schema) (by_name a field) (Some b.meta_fields.schema) (by_name b field) refl same.meta_fields.schema
      (chosen R (bytes_eq field.text (codes "__type")) (bytes_eq field.text (codes "__type"))
      (Some a.meta_fields.type_by_name) None (Some b.meta_fields.type_by_name) None refl same.meta_fields.type_by_name (tt {0}))) (tt {0}))) (tt {0})

  pub field_alike : (name field : NameText) → SameIfAny (SameComponent SameField) (result_ok (type_field a name field)) (result_ok (type_field b name field))
  field_alike name field =
      let before : ExtendedType → Option (Component FieldDefinition) = λ d. first_of (own_field d field) (meta_field a name d field) in
      let after : ExtendedType → Option (Component FieldDefinition) = λ d. first_of (own_field d field) (meta_field b name d field) in
      subst (λ o. SameIfAny (SameComponent SameField) o (result_ok (type_field b name field))) (sym (found_type before (type_definition a name)))
      (subst (SameIfAny (SameComponent SameField) (option_and_then before (type_definition a name))) (sym (found_type after (type_definition b name)))
      (options_then SameType (SameComponent SameField) before after
      (λ x y alike. first_alike (SameComponent SameField) _ _ _ _ (own_field_alike x y field alike) (meta_field_alike name x y field alike))
      (type_definition a name) (type_definition b name) (type_alike name)))

  pub input_object_alike : (name : NameText) → SameIfAny SameInputObject (input_object_named a name) (input_object_named b name)
  input_object_alike name =
      options_then SameType SameInputObject as_input_object as_input_object as_input_object_alike (type_definition a name) (type_definition b name) (type_alike name)

-- ==== with a schema, or without

pub schema_too : (oa ob : Option Schema) (a : Schema) → SameIfAny SameSchema oa ob → oa ≡ Some a → (b : Schema) × (ob ≡ Some b) × SameSchema a b
schema_too oa ob a same e = other_side SameSchema oa ob a same e

pub directive_in_alike : (oa ob : Option Schema) (name : NameText) → SameIfAny SameSchema oa ob →
    SameIfAny SameDirectiveDefinition (directive_in oa name) (directive_in ob name)
directive_in_alike oa ob name same =
    options_then SameSchema SameDirectiveDefinition (λ s. directive_definition s name) (λ s. directive_definition s name)
    (λ a b alike. directive_alike a b alike name) oa ob same

pub definition_alike : (oa ob : Option Schema) (parent : Option NameText) (field : NameText) → SameIfAny SameSchema oa ob →
    SameIfAny (SameComponent SameField) (definition_at oa parent field) (definition_at ob parent field)
definition_alike oa ob parent field same =
    options_then SameSchema (SameComponent SameField)
    (λ s. option_and_then (λ t. result_ok (type_field s t field)) parent) (λ s. option_and_then (λ t. result_ok (type_field s t field)) parent)
    (λ a b alike. on_parent a b alike parent) oa ob same
  where
    on_parent : (a b : Schema) → SameSchema a b → (parent : Option NameText) →
        SameIfAny (SameComponent SameField) (option_and_then (λ t. result_ok (type_field a t field)) parent) (option_and_then (λ t. result_ok (type_field b t field)) parent)
    on_parent a b alike None = tt
    on_parent a b alike (Some name) = field_alike a b alike name field
