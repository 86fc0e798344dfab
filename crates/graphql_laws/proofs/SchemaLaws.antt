-- What breaks a schema: an empty enum, and input objects that must hold one another.
use Rattle.std.proofs.Common.{◌≡◌, List, [], ◌∷◌, Some, refl, ap, subst, Contains, ℕ, ◌++◌, map}
use Rattle.std.specs.Prelude.{◌≢◌, IsSome, is_some}
use Rattle.std.specs.Option.{option_and_then}
use Rattle.std.proofs.lemmas.List.Elements.{All-contains, Contains-append_left}
use Rattle.std.specs.Str.{bytes_eq}
use Rattle.indexmap.specs.IndexMap.{get_by}
use Rattle.graphql_nodes.specs.Names.{NameText, SameName, IsFreeName}
use Rattle.graphql_documents.specs.Schemas.{type_definition, IsInputObject, as_input_object}
use Rattle.graphql_documents.specs.Paths.{Path, path_of_one, path_of_more}
use Rattle.graphql_specification.specs.InputObjectCycles.{required_name, input_object_of, RequiresBy, InputObjectHasNoCycle}
use Rattle.graphql_specification.specs.DirectiveCycles.{SchemaReference, by_directive, by_type, DirectiveHasNoCycle}
use Rattle.graphql_specification.specs.Types.{TypeHolds}
use Rattle.graphql_specification.specs.Schemas.{SchemaHolds}
use Rattle.graphql_specification.specs.DirectiveDefinitions.{DirectiveDefinitionHolds}
use Rattle.graphql_nodes.specs.declared.nodes.Node.{Node}
use Rattle.graphql_documents.specs.declared.documents.components.Component.{Component}
use Rattle.graphql_documents.specs.declared.documents.type_references.Type.{«Type»}
use Rattle.graphql_documents.specs.declared.documents.type_references.Type.TheVariants.{NonNullNamed}
use Rattle.graphql_documents.specs.TypeReferences.{inner_named_type}
use Rattle.graphql_documents.specs.declared.documents.directives.Directive.{Directive}
use Rattle.graphql_documents.specs.declared.documents.definitions.DirectiveDefinition.{DirectiveDefinition}
use Rattle.graphql_documents.specs.declared.documents.definitions.InputValueDefinition.{InputValueDefinition}
use Rattle.graphql_documents.specs.declared.documents.schemas.EnumType.{EnumType}
use Rattle.graphql_documents.specs.declared.documents.schemas.InputObjectType.{InputObjectType}
use Rattle.graphql_documents.specs.declared.documents.schemas.Schema.{Schema}
use Rattle.graphql_documents.specs.declared.documents.schemas.ExtendedType.{ExtendedType}
use Rattle.graphql_documents.specs.declared.documents.schemas.ExtendedType.TheVariants.{Enum, InputObject}
use Rattle.graphql_nodes.proofs.NameLemmas.{same_text}
use Rattle.graphql_documents.proofs.ListLemmas.{stands_mapped, made_of, stands_flat}

-- where a schema holds, so does each of its types
type_holds : (schema : Schema) (key : NameText) (d : ExtendedType) → Contains schema.types.entries (key, d) → SchemaHolds schema → TypeHolds schema d
type_holds schema key d stands holds =
    (All-contains (λ entry. IsFreeName entry.0 × TypeHolds schema entry.1) schema.types.entries (key, d) holds.types stands).1

pub empty_enum_breaks : (schema : Schema) (key : NameText) (d : Node EnumType) →
    Contains schema.types.entries (key, Enum d) → d.value.value.values.entries ≡ [] → ¬ SchemaHolds schema
empty_enum_breaks schema key d stands empty holds = (type_holds schema key (Enum d) stands holds).is_not_empty empty

-- a field of an input object
abbrev InputField : Type 0
InputField = NameText × Component InputValueDefinition

-- the field's type is this name and non-null, and the name is that of an input object
module _ (schema : Schema) (field : Node InputValueDefinition) (name : NameText) (d : Node InputObjectType)
    (type_is : field.value.value.ty.value.value ≡ NonNullNamed name) (is : IsInputObject schema name d) where
  needed : input_object_of schema field ≡ Some d
  needed = rw (type_is, is) refl

  requires : (own : Node InputObjectType) (entry : InputField) → Contains own.value.value.fields.entries entry → entry.1.node ≡ field →
      RequiresBy schema own field
  requires own entry stands same = record {
    stands = subst (Contains _) same (stands_mapped (λ entry. entry.1.node) own.value.value.fields.entries entry stands);
    requires = ap is_some needed;
  }

pub circle_of_required_fields : (schema : Schema) (a b : Node InputObjectType) (x y : InputField) (to_b to_a : NameText) →
    Contains a.value.value.fields.entries x → x.1.node.value.value.ty.value.value ≡ NonNullNamed to_b → IsInputObject schema to_b b →
    Contains b.value.value.fields.entries y → y.1.node.value.value.ty.value.value ≡ NonNullNamed to_a → IsInputObject schema to_a a →
    SameName to_a a.value.value.name → ¬ InputObjectHasNoCycle schema a
circle_of_required_fields schema a b x y to_b to_a in_a type_x is_b in_b type_y is_a back none =
    none (x.1.node ∷ (y.1.node ∷ [])) (record {
      before = x.1.node ∷ [];
      last = y.1.node;
      ends = refl;
      is_path = path_of_more (requires schema x.1.node to_b b type_x is_b a x in_a refl) (needed schema x.1.node to_b b type_x is_b)
          (path_of_one (requires schema y.1.node to_a a type_y is_a b y in_b refl));
      is_back = rw type_y back;
    })

pub circle_of_required_fields_breaks : (schema : Schema) (key : NameText) (a b : Node InputObjectType) (x y : InputField) (to_b to_a : NameText) →
    Contains schema.types.entries (key, InputObject a) →
    Contains a.value.value.fields.entries x → x.1.node.value.value.ty.value.value ≡ NonNullNamed to_b → IsInputObject schema to_b b →
    Contains b.value.value.fields.entries y → y.1.node.value.value.ty.value.value ≡ NonNullNamed to_a → IsInputObject schema to_a a →
    SameName to_a a.value.value.name → ¬ SchemaHolds schema
circle_of_required_fields_breaks schema key a b x y to_b to_a stands in_a type_x is_b in_b type_y is_a back holds =
    circle_of_required_fields schema a b x y to_b to_a in_a type_x is_b in_b type_y is_a back
    (type_holds schema key (InputObject a) stands holds).no_cycle

-- only a non-null name requires an input object
named_if_required : (schema : Schema) (ty : «Type») →
    IsSome (option_and_then as_input_object (option_and_then (type_definition schema) (required_name ty))) →
    (name : NameText) × (ty ≡ NonNullNamed name)
named_if_required schema (NonNullNamed name) h = (name, refl)
named_if_required schema _ h = absurd (let no : ⊥ = cc in no)

-- a path begins with a reference of its definition
first_requires : {schema : Schema} {d : Node InputObjectType} {path : List (Node InputValueDefinition)} →
    Path (RequiresBy schema) (input_object_of schema) d path → (r : Node InputValueDefinition) × RequiresBy schema d r
first_requires (path_of_one {r = r} by) = (r, by)
first_requires (path_of_more {r = r} by is more) = (r, by)

pub no_required_field : (schema : Schema) (a : Node InputObjectType) →
    ((field : InputField) (name : NameText) → Contains a.value.value.fields.entries field → field.1.node.value.value.ty.value.value ≢ NonNullNamed name) →
    InputObjectHasNoCycle schema a
no_required_field schema a none path leads =
    let first = first_requires leads.is_path in
    let entry = made_of (λ (field : InputField). field.1.node) a.value.value.fields.entries first.0 first.1.stands in
    let named = named_if_required schema first.0.value.value.ty.value.value first.1.requires in
    none entry.0 named.0 entry.1 (rw entry.2 named.1)

pub one_type_found : (schema : Schema) (a b : NameText) → SameName a b → type_definition schema a ≡ type_definition schema b
one_type_found schema a b same = ap (λ (text : List ℕ). get_by (λ (key : NameText). bytes_eq text key.text) schema.types) (same_text a b same)

pub directive_on_its_own_argument : (schema : Schema) (d : Node DirectiveDefinition) (argument : Node InputValueDefinition) (applied : Node Directive) →
    Contains d.value.value.arguments.items argument → Contains argument.value.value.directives.items applied →
    SameName applied.value.value.name d.value.value.name → ¬ DirectiveHasNoCycle schema d
directive_on_its_own_argument schema d argument applied in_d in_argument back none =
    let references : Node InputValueDefinition → List SchemaReference =
    λ a. map by_directive a.value.value.directives.items ++ by_type (inner_named_type a.value.value.ty.value.value) ∷ [] in
    let refers : Contains (references argument) (by_directive applied) =
    Contains-append_left (map by_directive argument.value.value.directives.items) (by_type (inner_named_type argument.value.value.ty.value.value) ∷ []) (by_directive applied)
    (stands_mapped by_directive argument.value.value.directives.items applied in_argument) in
    none (by_directive applied ∷ []) (record {
      before = [];
      last = by_directive applied;
      ends = refl;
      is_path = path_of_one (stands_flat references d.value.value.arguments.items argument (by_directive applied) in_d refers);
      is_back = back;
    })

pub directive_on_its_own_argument_breaks : (schema : Schema) (key : NameText) (d : Node DirectiveDefinition) (argument : Node InputValueDefinition) (applied : Node Directive) →
    Contains schema.directive_definitions.entries (key, d) →
    Contains d.value.value.arguments.items argument → Contains argument.value.value.directives.items applied →
    SameName applied.value.value.name d.value.value.name → ¬ SchemaHolds schema
directive_on_its_own_argument_breaks schema key d argument applied stands in_d in_argument back holds =
    directive_on_its_own_argument schema d argument applied in_d in_argument back
    (All-contains (λ entry. DirectiveDefinitionHolds schema entry.1) schema.directive_definitions.entries (key, d) holds.directives stands).no_cycle
