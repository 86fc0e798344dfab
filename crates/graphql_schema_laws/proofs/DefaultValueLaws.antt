-- Each argument and input field of a schema that holds is of a defined input type once the schema is retained, so each
-- default that holds there is accepted.
use Rattle.std.proofs.Common.{◌⊎◌, inl, inr, List, [], ◌∷◌, ◌++◌, subst, Contains}
use Rattle.std.specs.Prelude.{flat_map}
use Rattle.std.proofs.lemmas.List.Elements.{All-contains, Contains-append_cases, Contains-append_left, Contains-append_right}
use Rattle.graphql_specification.specs.DefaultValues.{inputs_of, inputs_of_type}
use Rattle.graphql_specification.specs.Implementations.{FieldList}
use Rattle.graphql_nodes.specs.Names.{NameText}
use Rattle.graphql_documents.specs.Schemas.{NamesKind, is_input_type, is_output_type}
use Rattle.graphql_specification.specs.InputValueDefinitions.{ArgumentDefinitionsHold, InputValueDefinitionHolds, NamesType}
use Rattle.graphql_specification.specs.DirectiveDefinitions.{DirectiveDefinitionHolds}
use Rattle.graphql_specification.specs.FieldDefinitions.{FieldDefinitionHolds, FieldDefinitionsHold}
use Rattle.graphql_specification.specs.Schemas.{SchemaHolds}
use Rattle.graphql_specification.specs.Types.{TypeHolds}
use Rattle.graphql_specification.specs.BuiltInScalars.{SchemaRetainsUsedBuiltInScalars, argument_types, field_types, types_referred, types_referred_by}
use Rattle.graphql_documents.specs.TypeReferences.{inner_named_type}
use Rattle.graphql_documents.specs.declared.documents.components.Component.{Component}
use Rattle.graphql_documents.specs.declared.documents.definitions.DirectiveDefinition.{DirectiveDefinition}
use Rattle.graphql_nodes.specs.declared.directive_locations.DirectiveLocation.{DirectiveLocation}
use Rattle.graphql_nodes.specs.declared.directive_locations.DirectiveLocation.TheVariants as at
use Rattle.graphql_documents.specs.declared.documents.definitions.FieldDefinition.{FieldDefinition}
use Rattle.graphql_documents.specs.declared.documents.definitions.InputValueDefinition.{InputValueDefinition}
use Rattle.graphql_documents.specs.declared.documents.schemas.ExtendedType.{ExtendedType}
use Rattle.graphql_documents.specs.declared.documents.schemas.ExtendedType.TheVariants.{Object, Interface, InputObject}
use Rattle.graphql_documents.specs.declared.documents.schemas.Schema.{Schema}
use Rattle.graphql_nodes.specs.declared.nodes.Node.{Node}
use Rattle.graphql_documents.proofs.ListLemmas.{made_of, none_stands, stands_behind, stands_first, stands_flat, stands_mapped}
use Rattle.graphql_schema_laws.proofs.RetainedLaws.{Entry}
use Rattle.graphql_schema_laws.proofs.RetainedTypeLemmas.{IsAdded, retained_entry}
use Rattle.graphql_schema_laws.proofs.TypeLemmas.{type_holds}
use Rattle.graphql_schema_laws.proofs.UsedTypeLemmas.{still_input_type, used_from}

-- what is in one of several lists
pub found_in : {X Y : Type 0} (f : X → List Y) (xs : List X) (y : Y) → Contains (flat_map f xs) y → (x : X) × Contains xs x × Contains (f x) y
found_in f [] y in' = absurd (none_stands y in')
found_in f (x ∷ xs) y in' =
    elim (Contains-append_cases (f x) (flat_map f xs) y in') [
      | inl here ↦ (x, stands_first x xs, here)
      | inr there ↦ let found = found_in f xs y there in (found.0, stands_behind x xs found.0 found.1, found.2)
    ]

abbrev type_of_input : Node InputValueDefinition → NameText
type_of_input d = inner_named_type d.value.value.ty.value.value

module _ (schema : Schema) (d : Node InputValueDefinition) where
  -- the type of an argument or input field is one of inputs, and is among those to which something refers
  abbrev IsInputOf : List NameText → Type 0
  IsInputOf referred = NamesType schema is_input_type (type_of_input d) × Contains referred (type_of_input d)

  among_arguments : (location : DirectiveLocation) (arguments : List (Node InputValueDefinition)) → ArgumentDefinitionsHold schema location arguments → Contains arguments d →
      IsInputOf (argument_types arguments)
  among_arguments location arguments hold stands = (
    (All-contains (λ (x : Node InputValueDefinition). InputValueDefinitionHolds schema location x.value.value) arguments d hold.each stands).ty,
    stands_mapped type_of_input arguments d stands,
  )

  among_fields : (fields : FieldList) → FieldDefinitionsHold schema fields →
      Contains (flat_map (λ (entry : NameText × Component FieldDefinition). entry.1.node.value.value.arguments.items) fields) d →
      IsInputOf (flat_map (λ (entry : NameText × Component FieldDefinition). field_types entry.1.node.value.value) fields)
  among_fields fields hold stands =
      let found = found_in (λ (entry : NameText × Component FieldDefinition). entry.1.node.value.value.arguments.items) fields d stands in
      let f = found.0.1.node.value.value in
      let holds = All-contains (λ (entry : NameText × Component FieldDefinition). FieldDefinitionHolds schema entry.1.node.value.value × NamesType schema is_output_type (inner_named_type entry.1.node.value.value.ty)) fields found.0 hold found.1 in
      let one = among_arguments at.ArgumentDefinition f.arguments.items holds.0.arguments found.2 in (
        one.0,
        stands_flat (λ (entry : NameText × Component FieldDefinition). field_types entry.1.node.value.value) fields found.0 (type_of_input d) found.1
            (stands_behind (inner_named_type f.ty) (argument_types f.arguments.items) (type_of_input d) one.1),
      )

  -- a list of which only the first part is not empty
  first_part : {X : Type 0} (xs : List X) (x : X) → Contains (xs ++ []) x → Contains xs x
  first_part xs x in' = by (Contains-append_cases xs [] x in') where
    by : Contains xs x ⊎ Contains [] x → Contains xs x
    by (inl here) = here
    by (inr none) = absurd (none_stands x none)

  of_type : (t : ExtendedType) → TypeHolds schema t → Contains (inputs_of_type t) d → IsInputOf (types_referred_by t)
  of_type (Object o) holds stands =
      let one = among_fields o.value.value.fields.entries holds.fields
      (first_part (flat_map (λ (entry : NameText × Component FieldDefinition). entry.1.node.value.value.arguments.items) o.value.value.fields.entries) d stands) in
      (one.0, Contains-append_left (flat_map (λ (entry : NameText × Component FieldDefinition). field_types entry.1.node.value.value) o.value.value.fields.entries) [] (type_of_input d) one.1)
  of_type (Interface o) holds stands =
      let one = among_fields o.value.value.fields.entries holds.fields
      (first_part (flat_map (λ (entry : NameText × Component FieldDefinition). entry.1.node.value.value.arguments.items) o.value.value.fields.entries) d stands) in
      (one.0, Contains-append_left (flat_map (λ (entry : NameText × Component FieldDefinition). field_types entry.1.node.value.value) o.value.value.fields.entries) [] (type_of_input d) one.1)
  of_type (InputObject o) holds stands =
      let (field, within, same) = made_of (λ (entry : NameText × Component InputValueDefinition). entry.1.node) o.value.value.fields.entries d stands in
      let holds' = All-contains (λ (entry : NameText × Component InputValueDefinition). InputValueDefinitionHolds schema at.InputFieldDefinition entry.1.node.value.value) o.value.value.fields.entries field holds.fields within in (
        subst (λ (x : Node InputValueDefinition). NamesType schema is_input_type (type_of_input x)) same holds'.ty,
        subst (λ (x : Node InputValueDefinition). Contains (types_referred_by (InputObject o)) (type_of_input x)) same
            (stands_mapped (λ (entry : NameText × Component InputValueDefinition). type_of_input entry.1.node) o.value.value.fields.entries field within),
      )
  of_type _ holds stands = absurd (none_stands d stands)

module _ (schema retained : Schema) (holds : SchemaHolds schema) (is : SchemaRetainsUsedBuiltInScalars schema retained) (d : Node InputValueDefinition) where
  abbrev by_directives : Schema → List NameText
  by_directives s = flat_map (λ (entry : NameText × Node DirectiveDefinition). argument_types entry.1.value.value.arguments.items) s.directive_definitions.entries

  abbrev by_types : Schema → List NameText
  by_types s = flat_map (λ (entry : Entry). types_referred_by entry.1) s.types.entries

  of_directive : Contains (flat_map (λ (entry : NameText × Node DirectiveDefinition). entry.1.value.value.arguments.items) schema.directive_definitions.entries) d →
      IsInputOf schema d (types_referred schema)
  of_directive stands =
      let found = found_in (λ (entry : NameText × Node DirectiveDefinition). entry.1.value.value.arguments.items) schema.directive_definitions.entries d stands in
      let definition = All-contains (λ (entry : NameText × Node DirectiveDefinition). DirectiveDefinitionHolds schema entry.1) schema.directive_definitions.entries found.0 holds.directives found.1 in
      let one = among_arguments schema d at.ArgumentDefinition found.0.1.value.value.arguments.items definition.arguments found.2 in (
        one.0,
        Contains-append_left (by_directives schema) (by_types schema) (type_of_input d)
            (stands_flat (λ (entry : NameText × Node DirectiveDefinition). argument_types entry.1.value.value.arguments.items) schema.directive_definitions.entries found.0 (type_of_input d) found.1 one.1),
      )

  of_entry : (entry : Entry) → Contains (inputs_of_type entry.1) d → Contains schema.types.entries entry ⊎ IsAdded entry → IsInputOf schema d (types_referred schema)
  of_entry entry stands (inl there) =
      let one = of_type schema d entry.1 (type_holds schema entry.0 entry.1 there holds) stands in (
        one.0,
        Contains-append_right (by_directives schema) (by_types schema) (type_of_input d)
            (stands_flat (λ (entry : Entry). types_referred_by entry.1) schema.types.entries entry (type_of_input d) there one.1),
      )
  of_entry entry stands (inr came) =
      absurd (none_stands d (subst (λ (t : ExtendedType). Contains (inputs_of_type t) d) came.is_added.is_scalar stands))

  of_retained : Contains (inputs_of retained) d → IsInputOf schema d (types_referred schema)
  of_retained stands =
      by (Contains-append_cases (flat_map (λ (entry : NameText × Node DirectiveDefinition). entry.1.value.value.arguments.items) retained.directive_definitions.entries)
      (flat_map (λ (entry : Entry). inputs_of_type entry.1) retained.types.entries) d stands) where
        by : Contains (flat_map (λ (entry : NameText × Node DirectiveDefinition). entry.1.value.value.arguments.items) retained.directive_definitions.entries) d ⊎
            Contains (flat_map (λ (entry : Entry). inputs_of_type entry.1) retained.types.entries) d → IsInputOf schema d (types_referred schema)
        by (inl here) =
            of_directive (subst (λ m. Contains (flat_map (λ (entry : NameText × Node DirectiveDefinition). entry.1.value.value.arguments.items) m.entries) d) is.directives here)
        by (inr there) =
            let found = found_in (λ (entry : Entry). inputs_of_type entry.1) retained.types.entries d there in
            of_entry found.0 found.2 (retained_entry schema retained is found.0 found.1)

  pub input_of_retained : Contains (inputs_of retained) d → NamesKind retained is_input_type (inner_named_type d.value.value.ty.value.value)
  input_of_retained stands =
      let one = of_retained stands in
      still_input_type schema retained is (type_of_input d) (used_from schema (type_of_input d) one.1) one.0
