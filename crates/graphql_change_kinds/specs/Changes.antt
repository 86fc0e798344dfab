-- What each change says of the two schemas. Specification: 3 Type System.
use Rattle.std.specs.Prelude.{◌≡◌, ◌≢◌, ◌↔◌, ◌⊎◌, Bool, true, false, List, Some, Ok, Any, Contains, IsFalse, IsNone, IsSome, IsTrue}
use Rattle.indexmap.specs.IndexMap.{get}
use Rattle.graphql_nodes.specs.Names.{NameText, SameName, same_name}
use Rattle.graphql_nodes.specs.declared.nodes.Node.{Node}
use Rattle.graphql_nodes.specs.declared.directive_locations.DirectiveLocation.{DirectiveLocation}
use Rattle.graphql_nodes.specs.declared.operation_types.OperationType.{OperationType}
use Rattle.graphql_nodes.specs.declared.operation_types.OperationType.TheVariants as operation
use Rattle.graphql_coordinates.specs.declared.coordinates.DirectiveCoordinate.{DirectiveCoordinate}
use Rattle.graphql_coordinates.specs.declared.coordinates.TypeAttributeCoordinate.{TypeAttributeCoordinate}
use Rattle.graphql_coordinates.specs.declared.coordinates.TypeCoordinate.{TypeCoordinate}
use Rattle.graphql_documents.specs.Directives.{directive_definition}
use Rattle.graphql_documents.specs.Schemas.{Implements, IsListed, IsSubtype, NamesKind, is_object_type, is_required, type_definition, type_field}
use Rattle.graphql_documents.specs.TypeReferences.{IsTypeCopy, is_assignable, is_non_null, same_type}
use Rattle.graphql_documents.specs.Values.{IsCopy}
use Rattle.graphql_documents.specs.declared.documents.components.Component.{Component}
use Rattle.graphql_documents.specs.declared.documents.definitions.DirectiveDefinition.{DirectiveDefinition}
use Rattle.graphql_documents.specs.declared.documents.definitions.FieldDefinition.{FieldDefinition}
use Rattle.graphql_documents.specs.declared.documents.definitions.InputValueDefinition.{InputValueDefinition}
use Rattle.graphql_documents.specs.declared.documents.schemas.EnumType.{EnumType}
use Rattle.graphql_documents.specs.declared.documents.schemas.ExtendedType.{ExtendedType}
use Rattle.graphql_documents.specs.declared.documents.schemas.ExtendedType.TheVariants.{Enum, InputObject}
use Rattle.graphql_documents.specs.declared.documents.schemas.InputObjectType.{InputObjectType}
use Rattle.graphql_documents.specs.declared.documents.schemas.Schema.{Schema}
use Rattle.graphql_documents.specs.declared.documents.type_references.Type.{«Type»}
use Rattle.graphql_documents.specs.declared.documents.values.Value.{Value}
use Rattle.graphql_specification.specs.CollectFields.{AppliesTo}
use Rattle.graphql_document_building.specs.Trees.{root_name}
use Rattle.graphql_schema_parts.specs.Locations.{is_in_documents}
use Rattle.graphql_change_kinds.specs.Kinds.{KeepsSelections, IsObjectOf, kind_of, members_of}
use Rattle.graphql_change_kinds.specs.Forms.{form_in}
use Rattle.graphql_change_kinds.specs.declared.changes.Change.{Change}
use Rattle.graphql_change_kinds.specs.declared.changes.Change.TheVariants as change
use Rattle.graphql_change_kinds.specs.declared.changes.Gain.{Gain}
use Rattle.graphql_change_kinds.specs.declared.changes.Gain.TheVariants as gain
use Rattle.graphql_change_kinds.specs.declared.changes.InputCoordinate.{InputCoordinate}
use Rattle.graphql_change_kinds.specs.declared.changes.InputCoordinate.TheVariants as input
use Rattle.graphql_change_kinds.specs.declared.changes.SchemaChange.{SchemaChange}
use Rattle.graphql_change_kinds.specs.declared.changes.TypeEffect.{TypeEffect}
use Rattle.graphql_change_kinds.specs.declared.changes.TypeEffect.TheVariants as effect

-- ==== arguments and input fields

-- one of these arguments has this name and this definition. Specification: 3.6.1 Field Arguments
abbrev pub IsArgumentOf : List (Node InputValueDefinition) → NameText → InputValueDefinition → Type 0
IsArgumentOf arguments name a = Any (λ b. SameName b.value.value.name name × (b.value.value ≡ a)) arguments

-- the input object has this field under this name. Specification: 3.10 Input Objects
abbrev pub IsFieldOf : InputObjectType → NameText → InputValueDefinition → Type 0
IsFieldOf d name a = Any (λ entry. SameName entry.0 name × (entry.1.node.value.value ≡ a)) d.fields.entries

-- the schema has this argument of a directive
abbrev pub HasDirectiveArgument : Schema → NameText → NameText → InputValueDefinition → Type 0
HasDirectiveArgument schema directive argument a =
    (d : Node DirectiveDefinition) × (directive_definition schema directive ≡ Some d) × IsArgumentOf d.value.value.arguments.items argument a

-- the schema has this argument or input field at the coordinate
abbrev pub HasInput : Schema → InputCoordinate → InputValueDefinition → Type 0
HasInput schema (input.Argument c) a =
    (d : Component FieldDefinition) × (type_field schema c.ty c.field ≡ Ok d) × IsArgumentOf d.node.value.value.arguments.items c.argument a
HasInput schema (input.InputField c) a =
    (d : Node InputObjectType) × (type_definition schema c.ty ≡ Some (InputObject d)) × IsFieldOf d.value.value c.attribute a
HasInput schema (input.DirectiveArgument c) a = HasDirectiveArgument schema c.directive c.argument a
HasInput schema (input.SchemaDirectiveArgument c) a = HasDirectiveArgument schema c.directive c.argument a

-- the schema has nothing at the coordinate
abbrev pub LacksInput : Schema → InputCoordinate → Type 0
LacksInput schema c = (a : InputValueDefinition) → ¬ HasInput schema c a

-- documents can apply the directive. Specification: 3.13 Directives
abbrev pub IsApplicable : DirectiveDefinition → Type 0
IsApplicable d = Any (λ place. IsTrue (is_in_documents place)) d.locations.items

-- documents can apply the old directive of this name, as far as this is true
abbrev pub IsApplicableIf : Schema → NameText → Bool → Type 0
IsApplicableIf old name is = (d : Node DirectiveDefinition) × (directive_definition old name ≡ Some d) × (IsTrue is ↔ IsApplicable d.value.value)

-- the coordinate of an argument of a directive says whether documents could apply the directive
abbrev pub SaysApplicable : Schema → InputCoordinate → Type 0
SaysApplicable old (input.DirectiveArgument c) = IsApplicableIf old c.directive true
SaysApplicable old (input.SchemaDirectiveArgument c) = IsApplicableIf old c.directive false
SaysApplicable old _ = Unit {0}

-- two inputs at one coordinate of the new schema, of which one must be given and one need not be, as no valid schema has
abbrev pub IsGivenTwice : Schema → InputCoordinate → Type 0
IsGivenTwice new c =
    (a b : InputValueDefinition) × HasInput new c a × HasInput new c b × IsTrue (is_required a) × IsFalse (is_required b)

-- ==== fields

-- the two fields had types of one shape, and no longer have. Specification: 5.3.2 Field Selection Merging, SameResponseShape
abbrev pub PartsFrom : Schema → Schema → «Type» → «Type» → TypeAttributeCoordinate → Type 0
PartsFrom old new from to other =
    (before after : Component FieldDefinition) ×
    (type_field old other.ty other.attribute ≡ Ok before) × (type_field new other.ty other.attribute ≡ Ok after) ×
    (form_in old before.node.value.value.ty ≡ form_in old from) × (form_in new after.node.value.value.ty ≢ form_in new to)

-- what the new type of a field means
pub data HasEffect (old new : Schema) (from to : «Type») : TypeEffect → Type 0 where
  other_selections : ¬ KeepsSelections old new from to → HasEffect old new from to effect.OtherSelections
  meets_other : {other : TypeAttributeCoordinate} → KeepsSelections old new from to → PartsFrom old new from to other → HasEffect old new from to (effect.MeetsOther other)
  narrower : KeepsSelections old new from to → IsTrue (is_assignable to from) → HasEffect old new from to effect.Narrower
  other_responses : KeepsSelections old new from to → IsFalse (is_assignable to from) → HasEffect old new from to effect.OtherResponses

-- ==== interfaces and members

-- the type is an object to which the wider one did not apply. Specification: 6.3.2 Field Collection, DoesFragmentTypeApply
abbrev pub IsFurtherObject : Schema → Schema → NameText → NameText → Type 0
IsFurtherObject old new wide ty = NamesKind new is_object_type ty × ¬ AppliesTo old ty wide

-- what it means that the type is one of those of the wider one
abbrev pub IsGain : Schema → Schema → NameText → NameText → Gain → Type 0
IsGain old new wide ty gain.SubscriptionRoot = ⊥
IsGain old new wide ty gain.Object = IsFurtherObject old new wide ty
IsGain old new wide ty gain.Nothing = ¬ IsFurtherObject old new wide ty

-- the wider type applies to the old root of subscriptions for the first time. Specification: 5.2.3.1 Single Root Field
pub record GainsRoot (old new : Schema) (wide root : NameText) : Type 0 where
  pub is_root : root_name old operation.Subscription ≡ Some root
  pub applies : AppliesTo new root wide
  pub did_not : ¬ AppliesTo old root wide

-- the type lists the member as a union
abbrev pub HasMember : Schema → NameText → NameText → Type 0
HasMember schema union member = (d : ExtendedType) × (type_definition schema union ≡ Some d) × IsListed member (members_of d)

-- ==== changes

-- the schema has this enum, or this directive, under the name. Specification: 3.9 Enums, 3.13 Directives
abbrev pub IsEnumNamed : Schema → NameText → EnumType → Type 0
IsEnumNamed schema name e = (d : Node EnumType) × (type_definition schema name ≡ Some (Enum d)) × (d.value.value ≡ e)

abbrev pub IsDirectiveNamed : Schema → NameText → DirectiveDefinition → Type 0
IsDirectiveNamed schema name e = (d : Node DirectiveDefinition) × (directive_definition schema name ≡ Some d) × (d.value.value ≡ e)

-- what the change says is so: of these two schemas, the old one and the new one
pub data IsChange (old new : Schema) : Change → Type 0 where
  root_added : {kind : OperationType} → IsNone (root_name old kind) → IsSome (root_name new kind) → IsChange old new (change.RootAdded kind)
  root_removed : {kind : OperationType} → IsSome (root_name old kind) → IsNone (root_name new kind) → IsChange old new (change.RootRemoved kind)
  root_changed : {kind : OperationType} {from to : NameText} →
      root_name old kind ≡ Some from → root_name new kind ≡ Some to → ¬ SameName from to → IsChange old new (change.RootChanged kind from to)
  type_added : {c : TypeCoordinate} → IsNone (type_definition old c.ty) → IsSome (type_definition new c.ty) → IsChange old new (change.TypeAdded c)
  type_removed : {c : TypeCoordinate} → IsSome (type_definition old c.ty) → IsNone (type_definition new c.ty) → IsChange old new (change.TypeRemoved c)
  kind_changed : {c : TypeCoordinate} (before after : ExtendedType) →
      type_definition old c.ty ≡ Some before → type_definition new c.ty ≡ Some after → kind_of before ≢ kind_of after →
      IsChange old new (change.KindChanged c (kind_of before) (kind_of after))
  field_added : {c : TypeAttributeCoordinate} (after : Component FieldDefinition) →
      ((before : Component FieldDefinition) → type_field old c.ty c.attribute ≢ Ok before) → type_field new c.ty c.attribute ≡ Ok after →
      IsChange old new (change.FieldAdded c)
  field_removed : {c : TypeAttributeCoordinate} (before : Component FieldDefinition) →
      type_field old c.ty c.attribute ≡ Ok before → ((after : Component FieldDefinition) → type_field new c.ty c.attribute ≢ Ok after) →
      IsChange old new (change.FieldRemoved c)
  field_type_changed : {c : TypeAttributeCoordinate} (before after : Component FieldDefinition) {from to : «Type»} {effect : TypeEffect} →
      type_field old c.ty c.attribute ≡ Ok before → type_field new c.ty c.attribute ≡ Ok after →
      IsTypeCopy before.node.value.value.ty from → IsTypeCopy after.node.value.value.ty to →
      IsFalse (same_type before.node.value.value.ty after.node.value.value.ty) →
      HasEffect old new before.node.value.value.ty after.node.value.value.ty effect → IsChange old new (change.FieldTypeChanged c from to effect)
  input_added : {c : InputCoordinate} (after : InputValueDefinition) →
      SaysApplicable old c → HasInput new c after → LacksInput old c ⊎ IsGivenTwice new c → IsChange old new (change.InputAdded c (is_required after))
  input_removed : {c : InputCoordinate} (before : InputValueDefinition) →
      SaysApplicable old c → HasInput old c before → LacksInput new c → IsChange old new (change.InputRemoved c)
  input_type_changed : {c : InputCoordinate} (before after : InputValueDefinition) {from to : «Type»} →
      SaysApplicable old c → HasInput old c before → HasInput new c after →
      IsTypeCopy before.ty.value.value from → IsTypeCopy after.ty.value.value to → IsFalse (same_type before.ty.value.value after.ty.value.value) →
      IsChange old new (change.InputTypeChanged c from to)
  default_added : {c : InputCoordinate} (before after : InputValueDefinition) →
      SaysApplicable old c → HasInput old c before → HasInput new c after → IsNone before.default_value → IsSome after.default_value →
      IsChange old new (change.DefaultAdded c)
  default_removed : {c : InputCoordinate} (before after : InputValueDefinition) →
      SaysApplicable old c → HasInput old c before → HasInput new c after → IsSome before.default_value → IsNone after.default_value →
      IsChange old new (change.DefaultRemoved c (is_non_null after.ty.value.value))
  default_changed : {c : InputCoordinate} (before after : InputValueDefinition) (from to : Node Value) →
      SaysApplicable old c → HasInput old c before → HasInput new c after → before.default_value ≡ Some from → after.default_value ≡ Some to →
      ¬ IsCopy from.value.value to.value.value → IsChange old new (change.DefaultChanged c)
  enum_value_added : {c : TypeAttributeCoordinate} (before after : EnumType) →
      IsEnumNamed old c.ty before → IsEnumNamed new c.ty after →
      IsNone (get same_name before.values c.attribute) → IsSome (get same_name after.values c.attribute) → IsChange old new (change.EnumValueAdded c)
  enum_value_removed : {c : TypeAttributeCoordinate} (before after : EnumType) →
      IsEnumNamed old c.ty before → IsEnumNamed new c.ty after →
      IsSome (get same_name before.values c.attribute) → IsNone (get same_name after.values c.attribute) → IsChange old new (change.EnumValueRemoved c)
  member_added : {union member : NameText} {gain : Gain} →
      ¬ IsSubtype old union member → HasMember new union member → IsGain old new union member gain → IsChange old new (change.MemberAdded union member gain)
  root_member_added : {union member : NameText} → GainsRoot old new union member → IsChange old new (change.MemberAdded union member gain.SubscriptionRoot)
  member_removed : {union member : NameText} →
      HasMember old union member → ¬ IsObjectOf new union member → IsChange old new (change.MemberRemoved union member)
  interface_added : {ty interface : NameText} {gain : Gain} →
      ¬ Implements old ty interface → Implements new ty interface → IsGain old new interface ty gain → IsChange old new (change.InterfaceAdded ty interface gain)
  root_interface_added : {ty interface : NameText} → GainsRoot old new interface ty → IsChange old new (change.InterfaceAdded ty interface gain.SubscriptionRoot)
  interface_removed : {ty interface : NameText} {is_lost : Bool} →
      Implements old ty interface → ¬ (Implements new ty interface × IsSubtype new interface ty) →
      (IsTrue is_lost → NamesKind old is_object_type ty × ¬ IsSubtype new interface ty) → IsChange old new (change.InterfaceRemoved ty interface is_lost)
  directive_added : {c : DirectiveCoordinate} →
      IsNone (directive_definition old c.directive) → IsSome (directive_definition new c.directive) → IsChange old new (change.DirectiveAdded c)
  directive_removed : {c : DirectiveCoordinate} {is_executable : Bool} →
      IsApplicableIf old c.directive is_executable → IsNone (directive_definition new c.directive) → IsChange old new (change.DirectiveRemoved c is_executable)
  location_added : {c : DirectiveCoordinate} {place : DirectiveLocation} (before after : DirectiveDefinition) →
      IsDirectiveNamed old c.directive before → IsDirectiveNamed new c.directive after →
      ¬ Contains before.locations.items place → Contains after.locations.items place → IsChange old new (change.LocationAdded c place)
  location_removed : {c : DirectiveCoordinate} {place : DirectiveLocation} (before after : DirectiveDefinition) →
      IsDirectiveNamed old c.directive before → IsDirectiveNamed new c.directive after →
      Contains before.locations.items place → ¬ Contains after.locations.items place → IsChange old new (change.LocationRemoved c place)
  repeatable_added : {c : DirectiveCoordinate} (before after : DirectiveDefinition) →
      IsDirectiveNamed old c.directive before → IsDirectiveNamed new c.directive after →
      IsFalse before.repeatable → IsTrue after.repeatable → IsChange old new (change.RepeatableAdded c)
  repeatable_removed : {c : DirectiveCoordinate} {is_executable : Bool} (before after : DirectiveDefinition) →
      IsDirectiveNamed old c.directive before → IsDirectiveNamed new c.directive after →
      IsTrue before.repeatable → IsFalse after.repeatable → IsApplicableIf old c.directive is_executable →
      IsChange old new (change.RepeatableRemoved c is_executable)

-- what is found is so
abbrev pub IsTrueOf : Schema → Schema → SchemaChange → Type 0
IsTrueOf old new found = IsChange old new found.change
