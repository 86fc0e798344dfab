-- A directive definition leads back to itself once a schema that has its built-in scalars is retained only where it did before.
use Rattle.std.proofs.Common.{◌≡◌, ◌⊎◌, inl, inr, true, List, [], ◌∷◌, ◌++◌, Option, Some, None, map, refl, sym, ap, subst, ◌∙◌, Contains}
use Rattle.std.specs.Prelude.{option_map}
use Rattle.std.proofs.lemmas.List.Elements.{Contains-append_cases}
use Rattle.graphql_nodes.specs.Names.{NameText, same_name}
use Rattle.graphql_documents.specs.Directives.{directive_definition, directives_of_type}
use Rattle.graphql_documents.specs.Paths.{Path, path_of_one, path_of_more}
use Rattle.graphql_specification.specs.DirectiveCycles.{DirectiveHasNoCycle, PartRefersBy, SchemaPart, SchemaReference, by_directive, by_type, directive_part, input_references, member_references, part_of, references_of, type_part}
use Rattle.graphql_documents.specs.Schemas.{type_definition}
use Rattle.graphql_specification.specs.BuiltInScalars.{SchemaRetainsUsedBuiltInScalars, argument_types, types_referred_by, uses_type}
use Rattle.graphql_documents.specs.TypeReferences.{inner_named_type}
use Rattle.graphql_documents.specs.declared.documents.components.Component.{Component}
use Rattle.graphql_documents.specs.declared.documents.definitions.DirectiveDefinition.{DirectiveDefinition}
use Rattle.graphql_documents.specs.declared.documents.definitions.EnumValueDefinition.{EnumValueDefinition}
use Rattle.graphql_documents.specs.declared.documents.definitions.InputValueDefinition.{InputValueDefinition}
use Rattle.graphql_documents.specs.declared.documents.directives.Directive.{Directive}
use Rattle.graphql_documents.specs.declared.documents.schemas.ExtendedType.{ExtendedType}
use Rattle.graphql_documents.specs.declared.documents.schemas.ExtendedType.TheVariants.{Enum, InputObject}
use Rattle.graphql_documents.specs.declared.documents.schemas.Schema.{Schema}
use Rattle.graphql_nodes.specs.declared.nodes.Node.{Node}
use Rattle.graphql_documents.proofs.ListLemmas.{made_of, none_stands, only_one, stands_mapped}
use Rattle.graphql_schema_laws.specs.BuiltInNames.{BuiltInNamesAreOfScalars, HasItsScalars}
use Rattle.graphql_schema_laws.proofs.DefaultValueLaws.{found_in}
use Rattle.graphql_schema_laws.proofs.FiniteValueLaws.{Field}
use Rattle.graphql_schema_laws.proofs.KeptApplicationLemmas.{same_directive}
use Rattle.graphql_schema_laws.proofs.KeptTypeLemmas.{used_by_directive, used_by_type, used_same}
use Rattle.graphql_schema_laws.proofs.TypeLemmas.{found_stands, type_stands}

-- a reference by an application is none by a type's name
no_type : (ds : List (Node Directive)) (name : NameText) → ¬ Contains (map by_directive ds) (by_type name)
no_type ds name within =
    let (d, among, same) = made_of by_directive ds (by_type name) within in
    let no : ⊥ = cc in no

-- the types by whose names arguments refer are theirs
input_type_named : (inputs : List (Node InputValueDefinition)) (name : NameText) → Contains (input_references inputs) (by_type name) → Contains (argument_types inputs) name
input_type_named inputs name within =
    let found = found_in (λ (d : Node InputValueDefinition). map by_directive d.value.value.directives.items ++ by_type (inner_named_type d.value.value.ty.value.value) ∷ []) inputs (by_type name) within in
    by found.0 found.1
    (Contains-append_cases (map by_directive found.0.value.value.directives.items) (by_type (inner_named_type found.0.value.value.ty.value.value) ∷ []) (by_type name) found.2) where
      by : (d : Node InputValueDefinition) → Contains inputs d →
          Contains (map by_directive d.value.value.directives.items) (by_type name) ⊎ Contains (by_type (inner_named_type d.value.value.ty.value.value) ∷ []) (by_type name) →
          Contains (argument_types inputs) name
      by d among (inl applied) = absurd (no_type d.value.value.directives.items name applied)
      by d among (inr last) =
          let one : by_type name ≡ by_type (inner_named_type d.value.value.ty.value.value) =
          only_one (by_type (inner_named_type d.value.value.ty.value.value)) (by_type name) last in
          let same : inner_named_type d.value.value.ty.value.value ≡ name = cc in
          subst (Contains (argument_types inputs)) same (stands_mapped (λ (d : Node InputValueDefinition). inner_named_type d.value.value.ty.value.value) inputs d among)

member_type_named : (t : ExtendedType) (name : NameText) → Contains (member_references t) (by_type name) → Contains (types_referred_by t) name
member_type_named (Enum d) name within =
    let found = found_in (λ (entry : NameText × Component EnumValueDefinition). map by_directive entry.1.node.value.value.directives.items) d.value.value.values.entries (by_type name) within in
    absurd (no_type found.0.1.node.value.value.directives.items name found.2)
member_type_named (InputObject d) name within =
    let (input, among, same) =
    made_of (λ (i : Node InputValueDefinition). inner_named_type i.value.value.ty.value.value) (map (λ (entry : Field). entry.1.node) d.value.value.fields.entries) name
    (input_type_named (map (λ (entry : Field). entry.1.node) d.value.value.fields.entries) name within) in
    let (field, stands, is_input) = made_of (λ (entry : Field). entry.1.node) d.value.value.fields.entries input among in
    subst (Contains (types_referred_by (InputObject d))) (ap (λ (i : Node InputValueDefinition). inner_named_type i.value.value.ty.value.value) is_input ∙ same)
    (stands_mapped (λ (entry : Field). inner_named_type entry.1.node.value.value.ty.value.value) d.value.value.fields.entries field stands)
member_type_named _ name within = absurd (none_stands (by_type name) within)

module _ (schema retained : Schema) (scalars : BuiltInNamesAreOfScalars schema) (has : HasItsScalars schema) (is : SchemaRetainsUsedBuiltInScalars schema retained) where
  -- the part is one of the schema
  abbrev PartStands : SchemaPart → Type 0
  PartStands (directive_part d) = (key : NameText) × Contains schema.directive_definitions.entries (key, d)
  PartStands (type_part t) = (key : NameText) × Contains schema.types.entries (key, t)

  -- the types by whose names it refers are used
  named_is_used : (part : SchemaPart) (name : NameText) → PartStands part → Contains (references_of part) (by_type name) → uses_type schema name.text ≡ true
  named_is_used (directive_part d) name stands within =
      used_by_directive schema name (stands.0, d) stands.1 (input_type_named d.value.value.arguments.items name within)
  named_is_used (type_part t) name stands within =
      by (Contains-append_cases (map by_directive (directives_of_type t)) (member_references t) (by_type name) within) where
        by : Contains (map by_directive (directives_of_type t)) (by_type name) ⊎ Contains (member_references t) (by_type name) → uses_type schema name.text ≡ true
        by (inl applied) = absurd (no_type (directives_of_type t) name applied)
        by (inr member) = used_by_type schema name (stands.0, t) stands.1 (member_type_named t name member)

  same_part : (part : SchemaPart) (r : SchemaReference) → PartStands part → Contains (references_of part) r → part_of retained r ≡ part_of schema r
  same_part part (by_directive d) stands within = ap (option_map directive_part) (same_directive schema retained scalars has is d.value.value.name)
  same_part part (by_type name) stands within = ap (option_map type_part) (used_same schema retained scalars has is name (named_is_used part name stands within))

  next_directive : (d : Node Directive) (o : Option (Node DirectiveDefinition)) (next : SchemaPart) → directive_definition schema d.value.value.name ≡ o →
      option_map directive_part o ≡ Some next → PartStands next
  next_directive d (Some e) next found is_next =
      let there = found_stands (same_name d.value.value.name) schema.directive_definitions.entries e found in
      let same : directive_part e ≡ next = cc in
      subst PartStands same (there.0, there.1)
  next_directive d None next found is_next = absurd (let no : ⊥ = cc in no)

  next_type : (name : NameText) (o : Option ExtendedType) (next : SchemaPart) → type_definition schema name ≡ o → option_map type_part o ≡ Some next → PartStands next
  next_type name (Some t) next found is_next =
      let there = type_stands schema name t found in
      let same : type_part t ≡ next = cc in
      subst PartStands same (there.0, there.1)
  next_type name None next found is_next = absurd (let no : ⊥ = cc in no)

  next_stands : (r : SchemaReference) (next : SchemaPart) → part_of schema r ≡ Some next → PartStands next
  next_stands (by_directive d) next found = next_directive d (directive_definition schema d.value.value.name) next refl found
  next_stands (by_type name) next found = next_type name (type_definition schema name) next refl found

  path_before : {part : SchemaPart} {path : List SchemaReference} → Path PartRefersBy (part_of retained) part path → PartStands part → Path PartRefersBy (part_of schema) part path
  path_before (path_of_one {d = part} {r = r} refers) stands = path_of_one refers
  path_before (path_of_more {d = part} {next = next} {r = r} refers found more) stands =
      let there = sym (same_part part r stands refers) ∙ found in
      path_of_more refers there (path_before more (next_stands r next there))

  pub no_directive_cycle_after : (key : NameText) (d : Node DirectiveDefinition) → Contains schema.directive_definitions.entries (key, d) → DirectiveHasNoCycle schema d → DirectiveHasNoCycle retained d
  no_directive_cycle_after key d stands none path cycle =
      none path (record { before = cycle.before; last = cycle.last; ends = cycle.ends; is_path = path_before cycle.is_path (key, stands); is_back = cycle.is_back })
