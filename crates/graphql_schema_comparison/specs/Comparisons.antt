-- What the parts of a comparison of two schemas ask. Specification: 5 Validation.
use Rattle.std.specs.Prelude.{◌≡◌, ◌⊎◌, Bool, Some, Ok, All, Any, Contains, IsSomeAnd, IsTrue}
use Rattle.graphql_nodes.specs.Names.{NameText, SameName}
use Rattle.graphql_nodes.specs.declared.nodes.Node.{Node}
use Rattle.graphql_nodes.specs.declared.directive_locations.DirectiveLocation.{DirectiveLocation}
use Rattle.graphql_nodes.specs.declared.operation_types.OperationType.{OperationType}
use Rattle.graphql_documents.specs.Directives.{directive_definition}
use Rattle.graphql_documents.specs.Schemas.{fields_of, is_composite, type_definition, type_field}
use Rattle.graphql_documents.specs.TypeReferences.{same_type}
use Rattle.graphql_documents.specs.declared.documents.components.Component.{Component}
use Rattle.graphql_documents.specs.declared.documents.definitions.DirectiveDefinition.{DirectiveDefinition}
use Rattle.graphql_documents.specs.declared.documents.definitions.FieldDefinition.{FieldDefinition}
use Rattle.graphql_documents.specs.declared.documents.type_references.Type.{«Type»}
use Rattle.graphql_documents.specs.declared.documents.schemas.ExtendedType.{ExtendedType}
use Rattle.graphql_documents.specs.declared.documents.schemas.ExtendedType.TheVariants.{Enum, InputObject}
use Rattle.graphql_documents.specs.declared.documents.schemas.Schema.{Schema}
use Rattle.graphql_document_building.specs.Trees.{root_name}
use Rattle.graphql_schema_changes.specs.Keeps.{KeepsArguments, KeepsInputFields, KeepsRoots}
use Rattle.graphql_schema_parts.specs.Locations.{is_in_documents}
use Rattle.graphql_change_kinds.specs.Breaks.{can_become}
use Rattle.graphql_change_kinds.specs.Forms.{form_in}
use Rattle.graphql_shape_comparison.specs.Shapes.{KnowsNoOther, KnowsType, ShapeTable}
use Rattle.graphql_change_kinds.specs.Kinds.{kind_of, members_of, IsObjectOf, KeepsSelections}
use Rattle.graphql_input_comparison.specs.Inputs.{KeepsEnumValue}
use Rattle.graphql_composite_comparison.specs.Composites.{KeepsInterfaces, KeepsSubscriptionRootFrom}

-- the kind of operation keeps its root type. Specification: 3.3.1 Root Operation Types
abbrev pub KeepsRoot : Schema → Schema → OperationType → Type 0
KeepsRoot old new kind = (root : NameText) → root_name old kind ≡ Some root → IsSomeAnd (root_name new kind) (SameName root)

-- ==== directives

-- the directive can be applied at the location, if documents can apply one there
abbrev pub KeepsLocation : DirectiveDefinition → DirectiveLocation → Type 0
KeepsLocation new place = IsTrue (is_in_documents place) → Contains new.locations.items place

-- documents can apply the new directive as they could the old one
pub record KeepsApplications (old new : DirectiveDefinition) : Type 0 where
  pub arguments : KeepsArguments old.arguments.items new.arguments.items
  pub locations : All (KeepsLocation new) old.locations.items
  pub repeatable : IsTrue old.repeatable → IsTrue new.repeatable

-- so they can that of this name, if they could apply the old one at all
abbrev pub KeepsDirectiveNamed : Schema → NameText → Node DirectiveDefinition → Type 0
KeepsDirectiveNamed new name before =
    Any (λ place. IsTrue (is_in_documents place)) before.value.value.locations.items →
    IsSomeAnd (directive_definition new name) (λ after. KeepsApplications before.value.value after.value.value)

-- ==== fields

-- the type of the field is the same; or the same is selected below it, and, with merging, all fields that had its shape have its new one
abbrev pub KeepsFieldType : ShapeTable → Schema → Schema → Bool → «Type» → «Type» → Type 0
KeepsFieldType table old new merging from to =
    IsTrue (same_type from to) ⊎ (KeepsSelections old new from to × (IsTrue merging → KnowsNoOther table (form_in old from) (form_in new to)))

-- the field can be selected as before
pub record KeepsUses (table : ShapeTable) (old new : Schema) (merging : Bool) (before after : FieldDefinition) : Type 0 where
  pub arguments : KeepsArguments before.arguments.items after.arguments.items
  pub ty : KeepsFieldType table old new merging before.ty after.ty

-- the type has the field of this name, which can be selected as the old one. Specification: 5.3 Fields
abbrev pub KeepsFieldNamed : ShapeTable → Schema → Schema → Bool → NameText → NameText → Component FieldDefinition → Type 0
KeepsFieldNamed table old new merging parent field before =
    (after : Component FieldDefinition) × (type_field new parent field ≡ Ok after) × KeepsUses table old new merging before.node.value.value after.node.value.value

-- if both types have the field of this name, it can be selected as before
abbrev pub KeepsFieldIfAny : ShapeTable → Schema → Schema → Bool → NameText → NameText → Type 0
KeepsFieldIfAny table old new merging parent field =
    (before after : Component FieldDefinition) → type_field old parent field ≡ Ok before → type_field new parent field ≡ Ok after →
    KeepsUses table old new merging before.node.value.value after.node.value.value

-- ==== types

-- its own fields and the meta-fields can be selected on the composite type as before
pub record KeepsFieldsOf (table : ShapeTable) (old new : Schema) (merging : Bool) (name : NameText) (before : ExtendedType) : Type 0 where
  pub own : All (λ entry. KeepsFieldNamed table old new merging name entry.0 entry.1) (fields_of before)
  pub typename : KeepsFieldIfAny table old new merging name old.meta_fields.typename.node.value.value.name
  pub schema_field : KeepsFieldIfAny table old new merging name old.meta_fields.schema.node.value.value.name
  pub type_by_name : KeepsFieldIfAny table old new merging name old.meta_fields.type_by_name.node.value.value.name

-- what could be selected on the composite type still can
pub record KeepsPlace (table : ShapeTable) (old new : Schema) (merging : Bool) (name : NameText) (before : ExtendedType) : Type 0 where
  pub fields : KeepsFieldsOf table old new merging name before
  pub interfaces : KeepsInterfaces new name before
  pub members : All (λ member. IsObjectOf new name member.name) (members_of before)
  pub subscription_root : KeepsSubscriptionRootFrom old new name

-- what could be selected on the type or given for it still can, as far as the two definitions go
abbrev pub KeepsContents : ShapeTable → Schema → Schema → Bool → NameText → ExtendedType → ExtendedType → Type 0
KeepsContents table old new merging name (Enum a) (Enum b) = All (λ entry. KeepsEnumValue b.value.value entry.0) a.value.value.values.entries
KeepsContents table old new merging name (InputObject a) (InputObject b) = KeepsInputFields a.value.value b.value.value
KeepsContents table old new merging name a b = IsTrue (is_composite a) → IsTrue (is_composite b) → KeepsPlace table old new merging name a

-- the new schema has the type, of a kind that can be in its place, with what it had
pub record KeepsType (table : ShapeTable) (old new : Schema) (merging : Bool) (name : NameText) (before : ExtendedType) : Type 0 where
  pub after : ExtendedType
  pub is_defined : type_definition new name ≡ Some after
  pub kind : IsTrue (can_become (kind_of before) (kind_of after))
  pub contents : KeepsContents table old new merging name before after

-- ==== schemas

-- all that was compared is kept, where the table knows all fields
pub record KeepsAll (old new : Schema) (merging : Bool) : Type 0 where
  pub table : ShapeTable
  pub knows : All (λ entry. IsTrue (is_composite entry.1) → KnowsType table old new entry.0 entry.1) old.types.entries
  pub roots : KeepsRoots old new
  pub types : All (λ entry. KeepsType table old new merging entry.0 entry.1) old.types.entries
  pub directives : All (λ entry. KeepsDirectiveNamed new entry.0 entry.1) old.directive_definitions.entries
