-- Input types and implementing, once the built-in scalars of a schema are retained.
use Rattle.std.proofs.Common.{◌≡◌, ◌⊎◌, ◌↔◌, inl, inr, Bool, true, false, List, Some, map, refl, sym, ap, subst, ◌∙◌, Contains}
use Rattle.std.specs.Prelude.{IsTrue, flat_map, is_some}
use Rattle.std.proofs.lemmas.List.Elements.{All-contains, Contains-append_right}
use Rattle.graphql_nodes.specs.Names.{NameText}
use Rattle.graphql_documents.specs.Paths.{Path, path_of_one, path_of_more}
use Rattle.graphql_documents.specs.Schemas.{Implements, IsInputObject, IsListed, interfaces_of, is_built_in, is_input_type, own_name, type_definition}
use Rattle.graphql_specification.specs.InputObjectCycles.{InputObjectHasNoCycle, RequiresBy, input_object_of}
use Rattle.graphql_specification.specs.InputValueDefinitions.{NamesType}
use Rattle.graphql_specification.specs.BuiltInScalars.{SchemaRetainsUsedBuiltInScalars, OnlyScalarsHaveBuiltInNames, argument_types, is_scalar_type, names_built_in_scalar, types_referred_by, uses_type}
use Rattle.graphql_documents.specs.TypeReferences.{inner_named_type}
use Rattle.graphql_documents.specs.declared.documents.definitions.DirectiveDefinition.{DirectiveDefinition}
use Rattle.graphql_documents.specs.declared.documents.definitions.InputValueDefinition.{InputValueDefinition}
use Rattle.graphql_nodes.specs.declared.nodes.Node.{Node}
use Rattle.graphql_documents.specs.declared.documents.schemas.InputObjectType.{InputObjectType}
use Rattle.graphql_documents.specs.declared.documents.schemas.Schema.{Schema}
use Rattle.graphql_documents.specs.declared.documents.schemas.ExtendedType.{ExtendedType}
use Rattle.graphql_documents.specs.declared.documents.schemas.ExtendedType.TheVariants.{Scalar, Enum, InputObject}
use Rattle.graphql_documents.proofs.ListLemmas.{each_standing, made_of, none_stands, stands_flat, stands_mapped}
use Rattle.graphql_schema_laws.proofs.FiniteValueLaws.{Field, InputTypesHold, required_target}
use Rattle.graphql_schema_laws.proofs.ObjectValueLemmas.{type_of}
use Rattle.graphql_schema_laws.proofs.RetainedLaws.{Entry}
use Rattle.graphql_schema_laws.proofs.RetainedTypeLemmas.{IsAdded, carried, only_scalars_stay, other_type, retained_entry}
use Rattle.graphql_schema_laws.proofs.TypeLemmas.{type_stands}
use Rattle.graphql_schema_laws.proofs.UsedTypeLemmas.{some_is, still_input_type, stood_before, used_from}

pub lists_nothing : (d : ExtendedType) (name : NameText) → IsListed name (interfaces_of d) → (b : Bool) → is_scalar_type d ≡ b → is_scalar_type d ≡ false
lists_nothing (Scalar d) name listed b is = absurd (none_stands listed.1 (listed.0, listed.2, listed.3))
lists_nothing _ name listed true is = absurd (let no : ⊥ = cc in no)
lists_nothing _ name listed false is = is

module _ (schema retained : Schema) (only : OnlyScalarsHaveBuiltInNames schema) (is : SchemaRetainsUsedBuiltInScalars schema retained) where
  -- what is no scalar is the same before and after
  before : (name : NameText) (d : ExtendedType) → type_definition retained name ≡ Some d → is_scalar_type d ≡ false → type_definition schema name ≡ Some d
  before = carried retained schema (only_scalars_stay schema retained is only) (other_type schema retained is)

  after : (name : NameText) (d : ExtendedType) → type_definition schema name ≡ Some d → is_scalar_type d ≡ false → type_definition retained name ≡ Some d
  after = carried schema retained only (λ name other. sym (other_type schema retained is name other))

  pub same_implementations : (name interface : NameText) → Implements retained name interface ↔ Implements schema name interface
  same_implementations name interface = (
    λ i. record { definition = i.definition; defined = before name i.definition i.defined (no_scalar i.definition i.lists); lists = i.lists },
    λ i. record { definition = i.definition; defined = after name i.definition i.defined (no_scalar i.definition i.lists); lists = i.lists },
  ) where
    no_scalar : (d : ExtendedType) → IsListed interface (interfaces_of d) → is_scalar_type d ≡ false
    no_scalar d listed = lists_nothing d interface listed (is_scalar_type d) refl

-- an input object, by a field that it has
module _ (schema retained : Schema) (is : SchemaRetainsUsedBuiltInScalars schema retained) where
  -- what is no scalar was in the schema
  stood : (key : NameText) (d : ExtendedType) → is_scalar_type d ≡ false → Contains retained.types.entries (key, d) → Contains schema.types.entries (key, d)
  stood key d other stands = by (retained_entry schema retained is (key, d) stands) where
    by : Contains schema.types.entries (key, d) ⊎ IsAdded (key, d) → Contains schema.types.entries (key, d)
    by (inl there) = there
    by (inr came) = absurd (let no : true ≡ false = sym (ap is_scalar_type came.is_added.is_scalar) ∙ other in cc)

  -- an input object of the schema
  abbrev pub Stands : Node InputObjectType → Type 0
  Stands d = (key : NameText) × Contains schema.types.entries (key, InputObject d)

  -- the types of its fields are used
  pub field_used : (d : Node InputObjectType) → Stands d → (field : Field) → Contains d.value.value.fields.entries field →
      uses_type schema (inner_named_type (type_of field)).text ≡ true
  field_used d stands field within =
      used_from schema (inner_named_type (type_of field))
      (Contains-append_right (flat_map (λ (entry : NameText × Node DirectiveDefinition). argument_types entry.1.value.value.arguments.items) schema.directive_definitions.entries)
      (flat_map (λ (entry : Entry). types_referred_by entry.1) schema.types.entries) (inner_named_type (type_of field))
      (stands_flat (λ (entry : Entry). types_referred_by entry.1) schema.types.entries (stands.0, InputObject d) (inner_named_type (type_of field)) stands.1
      (stands_mapped (λ (field : Field). inner_named_type (type_of field)) d.value.value.fields.entries field within)))

  -- chains of required fields are the same
  target_before : (d : Node InputObjectType) → Stands d → (r : Node InputValueDefinition) → Contains (map (λ (entry : Field). entry.1.node) d.value.value.fields.entries) r →
      (e : Node InputObjectType) → input_object_of retained r ≡ Some e → input_object_of schema r ≡ Some e
  target_before d stands r written e found =
      let (name, ty, is_e) = required_target retained r.value.value.ty.value.value e found in
      let (field, within, same) = made_of (λ (entry : Field). entry.1.node) d.value.value.fields.entries r written in
      let named : inner_named_type (type_of field) ≡ name =
      ap (λ (n : Node InputValueDefinition). inner_named_type n.value.value.ty.value.value) same ∙ ap inner_named_type ty in
      let used : uses_type schema name.text ≡ true = subst (λ (n : NameText). uses_type schema n.text ≡ true) named (field_used d stands field within) in
      let there : IsInputObject schema name e = stood_before schema retained is name used (InputObject e) refl is_e in
      rw (ty, there) refl

  target_stands : (r : Node InputValueDefinition) (e : Node InputObjectType) → input_object_of schema r ≡ Some e → Stands e
  target_stands r e found =
      let (name, ty, is_e) = required_target schema r.value.value.ty.value.value e found in
      let there = type_stands schema name (InputObject e) is_e in (there.0, there.1)

  requires_before : (d : Node InputObjectType) → Stands d → (r : Node InputValueDefinition) → RequiresBy retained d r → RequiresBy schema d r
  requires_before d stands r by =
      let (e, found) = some_is (input_object_of retained r) by.requires in
      record { stands = by.stands; requires = ap is_some (target_before d stands r by.stands e found) }

  path_before : {d : Node InputObjectType} {path : List (Node InputValueDefinition)} → Path (RequiresBy retained) (input_object_of retained) d path → Stands d →
      Path (RequiresBy schema) (input_object_of schema) d path
  path_before (path_of_one {d = d} {r = r} by) stands = path_of_one (requires_before d stands r by)
  path_before (path_of_more {d = d} {next = next} {r = r} by found more) stands =
      let there = target_before d stands r by.stands next found in
      path_of_more (requires_before d stands r by) there (path_before more (target_stands r next there))

  pub no_cycle_after : (d : Node InputObjectType) → Stands d → InputObjectHasNoCycle schema d → InputObjectHasNoCycle retained d
  no_cycle_after d stands none path cycle =
      none path (record { before = cycle.before; last = cycle.last; ends = cycle.ends; is_path = path_before cycle.is_path stands; is_back = cycle.is_back })

  scalars_after : InputTypesHold schema → (entry : Entry) → Contains retained.types.entries entry → IsTrue (is_scalar_type entry.1) → IsTrue (is_built_in entry.1) →
      IsTrue (names_built_in_scalar (own_name entry.1).text)
  scalars_after holds entry stands scalar built_in = by (retained_entry schema retained is entry stands) where
    by : Contains schema.types.entries entry ⊎ IsAdded entry → IsTrue (names_built_in_scalar (own_name entry.1).text)
    by (inl there) =
        All-contains (λ (entry : Entry). IsTrue (is_scalar_type entry.1) → IsTrue (is_built_in entry.1) → IsTrue (names_built_in_scalar (own_name entry.1).text)) schema.types.entries entry holds.scalars there scalar built_in
    by (inr came) = rw (came.is_added.is_scalar, came.is_added.name) came.known

  pub input_types_hold_after : InputTypesHold schema → InputTypesHold retained
  input_types_hold_after holds = record {
    names = λ key d stands. holds.names key d (stood key (InputObject d) refl stands);
    no_cycles = λ key d stands. let there = stood key (InputObject d) refl stands in no_cycle_after d (key, there) (holds.no_cycles key d there);
    fields = λ key d stands.
        let there = stood key (InputObject d) refl stands in
        each_standing (λ (field : Field). NamesType retained is_input_type (inner_named_type (type_of field))) d.value.value.fields.entries
        (λ field within.
        inl (still_input_type schema retained is (inner_named_type (type_of field)) (field_used d (key, there) field within)
        (All-contains (λ (field : Field). NamesType schema is_input_type (inner_named_type (type_of field))) d.value.value.fields.entries field (holds.fields key d there) within)));
    maps = λ key d stands. holds.maps key d (stood key (InputObject d) refl stands);
    enums = λ key d stands. holds.enums key d (stood key (Enum d) refl stands);
    scalars =
        each_standing (λ (entry : Entry). IsTrue (is_scalar_type entry.1) → IsTrue (is_built_in entry.1) → IsTrue (names_built_in_scalar (own_name entry.1).text))
        retained.types.entries (scalars_after holds);
  }
