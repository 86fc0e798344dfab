-- Each type to which a schema that holds refers is defined, once its built-in scalars are retained.
use Rattle.std.proofs.Common.{◌≡◌, ◌⊎◌, inl, inr, Bool, true, false, List, [], ◌∷◌, Option, Some, refl, sym, subst, ◌∙◌, Contains}
use Rattle.std.specs.Prelude.{All, IsTrue, IsSome, flat_map}
use Rattle.std.specs.List.{list_any}
use Rattle.std.specs.Map.{lookup}
use Rattle.std.specs.Str.{bytes_eq}
use Rattle.std.proofs.lemmas.List.Elements.{All-nil, All-cons, All-head, All-tail, All-append, All-contains, All-map, All-weaker}
use Rattle.std.proofs.lemmas.List.Folds.{Any-from_list_any, list_any-from_Any}
use Rattle.std.proofs.lemmas.Slice.Eq.{bytes_eq-Decides}
use Rattle.graphql_specification.specs.Implementations.{FieldList}
use Rattle.graphql_nodes.specs.Names.{NameText, IsFreeName, same_name}
use Rattle.graphql_documents.specs.Schemas.{is_input_type, is_output_type, type_definition}
use Rattle.graphql_specification.specs.InputValueDefinitions.{ArgumentDefinitionsHold, InputValueDefinitionHolds, NamesType}
use Rattle.graphql_specification.specs.DirectiveDefinitions.{DirectiveDefinitionHolds}
use Rattle.graphql_specification.specs.FieldDefinitions.{FieldDefinitionHolds, FieldDefinitionsHold}
use Rattle.graphql_specification.specs.Schemas.{SchemaHolds}
use Rattle.graphql_specification.specs.Types.{TypeHolds}
use Rattle.graphql_specification.specs.BuiltInScalars.{SchemaRetainsUsedBuiltInScalars, argument_types, built_in_scalar_names, field_types, names_built_in_scalar, types_referred, types_referred_by, uses_type}
use Rattle.graphql_documents.specs.TypeReferences.{inner_named_type}
use Rattle.graphql_documents.specs.declared.documents.components.Component.{Component}
use Rattle.graphql_documents.specs.declared.documents.definitions.DirectiveDefinition.{DirectiveDefinition}
use Rattle.graphql_nodes.specs.declared.directive_locations.DirectiveLocation.{DirectiveLocation}
use Rattle.graphql_nodes.specs.declared.directive_locations.DirectiveLocation.TheVariants as at
use Rattle.graphql_documents.specs.declared.documents.definitions.FieldDefinition.{FieldDefinition}
use Rattle.graphql_documents.specs.declared.documents.definitions.InputValueDefinition.{InputValueDefinition}
use Rattle.graphql_nodes.specs.declared.nodes.Node.{Node}
use Rattle.graphql_documents.specs.declared.documents.schemas.Schema.{Schema}
use Rattle.graphql_documents.specs.declared.documents.schemas.ExtendedType.{ExtendedType}
use Rattle.graphql_documents.specs.declared.documents.schemas.ExtendedType.TheVariants.{Object, Interface, InputObject}
use Rattle.graphql_nodes.proofs.NameLemmas.{same_name_back}
use Rattle.graphql_schema_laws.specs.BuiltInNames.{BuiltInNamesAreOfScalars}
use Rattle.graphql_schema_laws.proofs.RetainedLaws.{Entry, same_references, used_has}
use Rattle.graphql_schema_laws.proofs.RetainedTypeLemmas.{other_type}

All-flat_map : {X Y : Type 0} (P : Y → Type 0) (f : X → List Y) (xs : List X) → All (λ x. All P (f x)) xs → All P (flat_map f xs)
All-flat_map P f [] all = All-nil P
All-flat_map P f (x ∷ xs) all =
    All-append P (f x) (flat_map f xs) (All-head (λ x. All P (f x)) x xs all) (All-flat_map P f xs (All-tail (λ x. All P (f x)) x xs all))

some_is_there : {X : Type 0} (o : Option X) (x : X) → o ≡ Some x → IsSome o
some_is_there o x is = rw is refl

-- where a key passes, a look-up finds something
pub some_looked_up : {K V : Type 0} (test : K → Bool) (xs : List (K × V)) → list_any (λ (e : K × V). test e.0) xs ≡ true → IsSome (lookup test xs)
some_looked_up test [] any = absurd (let no : ⊥ = cc in no)
some_looked_up {K} {V} test (x ∷ xs) any = by (test x.0) refl (some_looked_up test xs) where
  by : (b : Bool) → test x.0 ≡ b → (list_any (λ (e : K × V). test e.0) xs ≡ true → IsSome (lookup test xs)) → IsSome (lookup test (x ∷ xs))
  by true passes behind = rw passes refl
  by false other behind = rw other (behind (rw other at any))

-- the name is that of a type, or of a built-in scalar
module _ (schema : Schema) where
  abbrev Known : NameText → Type 0
  Known name = IsSome (type_definition schema name) ⊎ IsTrue (names_built_in_scalar name.text)

  known : (test : ExtendedType → Bool) (name : NameText) → NamesType schema test name → Known name
  known test name (inl (d, is, passes)) = inl (some_is_there (type_definition schema name) d is)
  known test name (inr (none, named)) = inr named

  arguments_known : (location : DirectiveLocation) (arguments : List (Node InputValueDefinition)) → ArgumentDefinitionsHold schema location arguments → All Known (argument_types arguments)
  arguments_known location arguments hold =
      All-map Known (λ (a : Node InputValueDefinition). inner_named_type a.value.value.ty.value.value) arguments
      (All-weaker (λ (a : Node InputValueDefinition). InputValueDefinitionHolds schema location a.value.value)
      (λ a. Known (inner_named_type a.value.value.ty.value.value)) (λ a holds. known is_input_type (inner_named_type a.value.value.ty.value.value) holds.ty) arguments hold.each)

  fields_known : (fields : FieldList) → FieldDefinitionsHold schema fields → All Known (flat_map (λ entry. field_types entry.1.node.value.value) fields)
  fields_known fields hold =
      All-flat_map Known (λ (entry : NameText × Component FieldDefinition). field_types entry.1.node.value.value) fields
      (All-weaker (λ (entry : NameText × Component FieldDefinition). FieldDefinitionHolds schema entry.1.node.value.value × NamesType schema is_output_type (inner_named_type entry.1.node.value.value.ty))
      (λ entry. All Known (field_types entry.1.node.value.value))
      (λ entry holds.
      let d = entry.1.node.value.value in
      All-cons Known (inner_named_type d.ty) (argument_types d.arguments.items) (known is_output_type (inner_named_type d.ty) holds.1)
      (arguments_known at.ArgumentDefinition d.arguments.items holds.0.arguments))
      fields hold)

  type_known : (d : ExtendedType) → TypeHolds schema d → All Known (types_referred_by d)
  type_known (Object d) holds =
      All-append Known (flat_map (λ entry. field_types entry.1.node.value.value) d.value.value.fields.entries) [] (fields_known d.value.value.fields.entries holds.fields) (All-nil Known)
  type_known (Interface d) holds =
      All-append Known (flat_map (λ entry. field_types entry.1.node.value.value) d.value.value.fields.entries) [] (fields_known d.value.value.fields.entries holds.fields) (All-nil Known)
  type_known (InputObject d) holds =
      All-map Known (λ (entry : NameText × Component InputValueDefinition). inner_named_type entry.1.node.value.value.ty.value.value) d.value.value.fields.entries
      (All-weaker (λ (entry : NameText × Component InputValueDefinition). InputValueDefinitionHolds schema at.InputFieldDefinition entry.1.node.value.value)
      (λ entry. Known (inner_named_type entry.1.node.value.value.ty.value.value))
      (λ entry holds. known is_input_type (inner_named_type entry.1.node.value.value.ty.value.value) holds.ty) d.value.value.fields.entries holds.fields)
  type_known _ holds = All-nil Known

  all_known : SchemaHolds schema → All Known (types_referred schema)
  all_known holds =
      All-append Known (flat_map (λ entry. argument_types entry.1.value.value.arguments.items) schema.directive_definitions.entries) (flat_map (λ entry. types_referred_by entry.1) schema.types.entries)
      (All-flat_map Known (λ (entry : NameText × Node DirectiveDefinition). argument_types entry.1.value.value.arguments.items) schema.directive_definitions.entries
      (All-weaker (λ (entry : NameText × Node DirectiveDefinition). DirectiveDefinitionHolds schema entry.1) (λ entry. All Known (argument_types entry.1.value.value.arguments.items))
      (λ entry holds. arguments_known at.ArgumentDefinition entry.1.value.value.arguments.items holds.arguments) schema.directive_definitions.entries holds.directives))
      (All-flat_map Known (λ (entry : Entry). types_referred_by entry.1) schema.types.entries
      (All-weaker (λ (entry : Entry). IsFreeName entry.0 × TypeHolds schema entry.1) (λ entry. All Known (types_referred_by entry.1))
      (λ entry holds. type_known entry.1 holds.1) schema.types.entries holds.types))

module _ (schema retained : Schema) (scalars : BuiltInNamesAreOfScalars schema) (is : SchemaRetainsUsedBuiltInScalars schema retained) where
  -- one of the five names that the schema uses
  named_is_defined : (name : NameText) → Contains (types_referred schema) name → names_built_in_scalar name.text ≡ true → IsSome (type_definition retained name)
  named_is_defined name (k, within, at) named =
      let used : uses_type schema name.text ≡ true =
      list_any-from_Any (λ (n : NameText). bytes_eq n.text name.text) (types_referred schema) (k, name, within, at, (bytes_eq-Decides name.text name.text).1 refl) in
      let (i, text, among, there, same) = Any-from_list_any (bytes_eq name.text) built_in_scalar_names named in
      let stands : Contains built_in_scalar_names name.text =
      subst (Contains built_in_scalar_names) (sym ((bytes_eq-Decides name.text text).0 same)) (i, among, there) in
      let (j, entry, in_types, found, is_name) = Any-from_list_any (λ (entry : Entry). bytes_eq entry.0.text name.text) retained.types.entries (used_has schema retained scalars is name.text stands used) in
      some_looked_up (same_name name) retained.types.entries
      (list_any-from_Any (λ (entry : Entry). same_name name entry.0) retained.types.entries (j, entry, in_types, found, same_name_back entry.0 name is_name))

  pub referred_is_defined : SchemaHolds schema → (name : NameText) → Contains (types_referred retained) name → IsSome (type_definition retained name)
  referred_is_defined holds name stands = by (names_built_in_scalar name.text) refl (All-contains (Known schema) (types_referred schema) name (all_known schema holds) stood) where
    stood : Contains (types_referred schema) name
    stood = subst (λ l. Contains l name) (same_references schema retained scalars is) stands

    by : (b : Bool) → names_built_in_scalar name.text ≡ b → Known schema name → IsSome (type_definition retained name)
    by true named found = named_is_defined name stood named
    by false other (inl found) = rw (other_type schema retained is name other) found
    by false other (inr named) = absurd (let no : true ≡ false = sym named ∙ other in cc)
