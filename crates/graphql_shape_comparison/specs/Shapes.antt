-- The shapes of types of fields, and the table of those that fields have. Specification: 5.3.2 Field Selection Merging, SameResponseShape.
use Rattle.std.specs.Prelude.{◌≡◌, ◌≢◌, ◌⊎◌, Option, Ok, All, IsNone, IsSome, IsSomeAnd, IfSome}
use Rattle.std.specs.HashMap.{HashMap, get}
use Rattle.graphql_hash_seeds.specs.declared.seeds.HashSeed.{HashSeed}
use Rattle.graphql_nodes.specs.Names.{NameText}
use Rattle.graphql_documents.specs.Schemas.{fields_of, type_field}
use Rattle.graphql_documents.specs.declared.documents.components.Component.{Component}
use Rattle.graphql_documents.specs.declared.documents.definitions.FieldDefinition.{FieldDefinition}
use Rattle.graphql_documents.specs.declared.documents.schemas.ExtendedType.{ExtendedType}
use Rattle.graphql_documents.specs.declared.documents.schemas.Schema.{Schema}
use Rattle.graphql_specification.specs.Fragments.{NamesComposite}
use Rattle.graphql_change_kinds.specs.Forms.{form_in, Form, leaf, non_null_leaf, composite, non_null_composite, list, non_null_list}
use Rattle.graphql_shape_comparison.specs.declared.meetings.FieldPlace.{FieldPlace}
use Rattle.graphql_shape_comparison.specs.declared.meetings.Meeting.{Meeting}
use Rattle.graphql_shape_comparison.specs.declared.shapes.Shape.{Shape}
use Rattle.graphql_shape_comparison.specs.declared.shapes.Shape.TheVariants as shape
use Rattle.graphql_shape_comparison.specs.contracts.shapes.ShapePartialEq.TheImpl as shape_impl

-- the form that a shape stands for
abbrev pub form_of : Shape → Form
form_of (shape.Leaf name) = leaf name.text
form_of (shape.NonNullLeaf name) = non_null_leaf name.text
form_of shape.Composite = composite
form_of shape.NonNullComposite = non_null_composite
form_of (shape.List' place item) = list (form_of item)
form_of (shape.NonNullList' place item) = non_null_list (form_of item)

-- the table of shapes, with their fields
abbrev pub ShapeTable : Type 0
ShapeTable = HashMap Shape Meeting HashSeed

abbrev pub meeting_at : ShapeTable → Shape → Option Meeting
meeting_at table key = get shape_impl.ghosts.eq table key

-- the table knows a field whose old type has the first form, and its new type the second one; or that the new types have several
pub record Knows (table : ShapeTable) (before after : Form) : Type 0 where
  pub key : Shape
  pub form : form_of key ≡ before
  pub met : (key : Shape) → form_of key ≡ before → IsSomeAnd (meeting_at table key) (λ meeting. (form_of meeting.shape ≡ after) ⊎ IsSome meeting.other)

-- the table knows a field of a type, if the new type has it too
abbrev pub KnowsEntry : ShapeTable → Schema → Schema → NameText → NameText → Component FieldDefinition → Type 0
KnowsEntry table old new parent field before =
    (after : Component FieldDefinition) → type_field new parent field ≡ Ok after →
    Knows table (form_in old before.node.value.value.ty) (form_in new after.node.value.value.ty)

-- so it does of the field of this name, if the old type has one
abbrev pub KnowsField : ShapeTable → Schema → Schema → NameText → NameText → Type 0
KnowsField table old new parent field =
    (before : Component FieldDefinition) → type_field old parent field ≡ Ok before → KnowsEntry table old new parent field before

-- and of all fields of a type
pub record KnowsType (table : ShapeTable) (old new : Schema) (parent : NameText) (definition : ExtendedType) : Type 0 where
  pub own : All (λ entry. KnowsEntry table old new parent entry.0 entry.1) (fields_of definition)
  pub typename : KnowsField table old new parent old.meta_fields.typename.node.value.value.name
  pub schema_field : KnowsField table old new parent old.meta_fields.schema.node.value.value.name
  pub type_by_name : KnowsField table old new parent old.meta_fields.type_by_name.node.value.value.name

-- the schema has a field at this place, of a type of this form
abbrev pub HasForm : Schema → FieldPlace → Form → Type 0
HasForm schema place form =
    (d : Component FieldDefinition) × (type_field schema place.ty.now place.field.now ≡ Ok d) × (form_in schema d.node.value.value.ty ≡ form)

-- the old type of the field has the first form, and its new type another one than the second
abbrev pub HasOtherForm : Schema → Schema → Form → Form → FieldPlace → Type 0
HasOtherForm old new before form place = HasForm old place before × (after : Form) × HasForm new place after × (after ≢ form)

-- the fields of the meeting have old types of this form, and new types as it says
pub record IsMeeting (old new : Schema) (before : Form) (meeting : Meeting) : Type 0 where
  pub was : HasForm old meeting.first before
  pub is : HasForm new meeting.first (form_of meeting.shape)
  pub other : IfSome meeting.other (HasOtherForm old new before (form_of meeting.shape))

-- so have those of each meeting of the table
abbrev pub AreMeetings : Schema → Schema → ShapeTable → Type 0
AreMeetings old new table = (key : Shape) → IfSome (meeting_at table key) (IsMeeting old new (form_of key))

-- the later table knows what the earlier one did, and something more; and its meetings are meetings, if those of the earlier one were
pub record Learns (old new : Schema) (before after : ShapeTable) (Known : ShapeTable → Type 0) : Type 0 where
  pub more : (old new : Form) → Knows before old new → Knows after old new
  pub known : Known after
  pub each : AreMeetings old new before → AreMeetings old new after

-- all fields that the table knows whose old types have the first form have the second one in the new schema
abbrev pub KnowsNoOther : ShapeTable → Form → Form → Type 0
KnowsNoOther table before after =
    (key : Shape) → form_of key ≡ before → IfSome (meeting_at table key) (λ meeting. (form_of meeting.shape ≡ after) × IsNone meeting.other)

-- the table knows all fields that both schemas have on composite types
abbrev pub KnowsAllFields : Schema → Schema → ShapeTable → Type 0
KnowsAllFields old new table =
    (parent field : NameText) → NamesComposite old parent → KnowsField table old new parent field
