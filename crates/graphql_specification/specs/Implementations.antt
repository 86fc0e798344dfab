-- When a type implements the interfaces that it lists, and what a diagnostic says where it does not. Specification: 3.6 Objects,
-- 3.7 Interfaces, IsValidImplementation.
use Rattle.std.specs.Prelude.{List, Option, find, option_map, ◌⊎◌, Contains, All, IsSome, ◌≡◌, Some, IsTrue, None, IsFalse}
use Rattle.graphql_nodes.specs.Names.{NameText, same_name, SameName}
use Rattle.graphql_documents.specs.Schemas.{IsSubtype, IsInterface, IsListed, is_required, interface_named, fields_of, interfaces_of, location_of, own_name}
use Rattle.graphql_documents.specs.TypeReferences.{same_type, IsTypeCopy}
use Rattle.graphql_documents.specs.Definitions.{definition_named}
use Rattle.graphql_nodes.specs.Nodes.{SameNode}
use Rattle.graphql_documents.specs.declared.documents.components.Component.{Component}
use Rattle.graphql_documents.specs.declared.documents.definitions.FieldDefinition.{FieldDefinition}
use Rattle.graphql_documents.specs.declared.documents.schemas.Schema.{Schema}
use Rattle.graphql_documents.specs.declared.documents.type_references.Type.{«Type»}
use Rattle.graphql_documents.specs.declared.documents.type_references.Type.TheVariants.{Named, NonNullNamed, List', NonNullList'}
use Rattle.graphql_nodes.specs.declared.nodes.Node.{Node}
use Rattle.graphql_documents.specs.declared.documents.components.ComponentName.{ComponentName}
use Rattle.graphql_documents.specs.declared.documents.schemas.InterfaceType.{InterfaceType}
use Rattle.graphql_documents.specs.declared.documents.definitions.InputValueDefinition.{InputValueDefinition}
use Rattle.graphql_nodes.specs.declared.spans.SourceSpan.{SourceSpan}
use Rattle.graphql_diagnostics.specs.declared.data.DiagnosticData.{DiagnosticData}
use Rattle.graphql_documents.specs.declared.documents.schemas.ExtendedType.{ExtendedType}
use Rattle.graphql_diagnostics.specs.declared.data.DiagnosticData.TheVariants as report

-- the fields of a type, by the names under which they are
abbrev pub FieldList : Type 0
FieldList = List (NameText × Component FieldDefinition)

-- the field that is listed under the name
abbrev pub field_under : NameText → FieldList → Option (Component FieldDefinition)
field_under name fields = option_map (λ entry. entry.1) (find (λ entry. same_name entry.0 name) fields)

-- values of the second name are values of the first
abbrev pub IsCovariant : Schema → NameText → NameText → Type 0
IsCovariant schema wide narrow = SameName wide narrow ⊎ IsSubtype schema wide narrow

-- a field of the second type may stand for an interface's field of the first: non-null where that is,
-- a list where that is, and inside the same type or a subtype. Specification: IsValidImplementationFieldType
abbrev pub IsValidImplementationType : Schema → «Type» → «Type» → Type 0
IsValidImplementationType schema (Named a) (Named b) = IsCovariant schema a b
IsValidImplementationType schema (Named a) (NonNullNamed b) = IsCovariant schema a b
IsValidImplementationType schema (NonNullNamed a) (NonNullNamed b) = IsCovariant schema a b
IsValidImplementationType schema (List' place a) (List' other b) = IsValidImplementationType schema a b
IsValidImplementationType schema (List' place a) (NonNullList' other b) = IsValidImplementationType schema a b
IsValidImplementationType schema (NonNullList' place a) (NonNullList' other b) = IsValidImplementationType schema a b
IsValidImplementationType schema _ _ = ⊥

-- an interface that the names list
pub record IsListedInterface (schema : Schema) (interfaces : List ComponentName) (listed : ComponentName) (interface : Node InterfaceType) : Type 0 where
  pub is_listed : Contains interfaces listed
  pub is_interface : IsInterface schema listed.name interface

-- each listed name is that of an interface
abbrev pub ListedInterfacesAreDefined : Schema → List ComponentName → Type 0
ListedInterfacesAreDefined schema interfaces =
    All (λ listed. (interface : Node InterfaceType) × IsInterface schema listed.name interface) interfaces

-- what a listed interface lists is listed too
abbrev pub ListsTransitiveInterfaces : Schema → List ComponentName → Type 0
ListsTransitiveInterfaces schema interfaces =
    (listed : ComponentName) (interface : Node InterfaceType) → IsListedInterface schema interfaces listed interface →
    All (λ further. IsListed further.name interfaces) interface.value.value.implements_interfaces.keys

-- no interface lists itself
abbrev pub DoesNotListItself : NameText → List ComponentName → Type 0
DoesNotListItself name interfaces = ¬ IsListed name interfaces

-- there is a field under the own name of each field of a listed interface
abbrev pub HasInterfaceFields : Schema → FieldList → List ComponentName → Type 0
HasInterfaceFields schema fields interfaces =
    (listed : ComponentName) (interface : Node InterfaceType) → IsListedInterface schema interfaces listed interface →
    All (λ entry. IsSome (field_under entry.1.node.value.value.name fields)) interface.value.value.fields.entries

-- a field of a listed interface, and the type's own field under the same name
pub record ImplementsField (schema : Schema) (fields : FieldList) (interfaces : List ComponentName) (listed : ComponentName) (name : NameText) (wanted own : Component FieldDefinition) : Type 0 where
  pub interface : Node InterfaceType
  pub is_listed : IsListedInterface schema interfaces listed interface
  pub stands : Contains interface.value.value.fields.entries (name, wanted)
  pub implemented : field_under name fields ≡ Some own

-- the types of these fields are valid
abbrev pub FieldTypesImplement : Schema → FieldList → List ComponentName → Type 0
FieldTypesImplement schema fields interfaces =
    (listed : ComponentName) (name : NameText) (wanted own : Component FieldDefinition) →
    ImplementsField schema fields interfaces listed name wanted own →
    IsValidImplementationType schema wanted.node.value.value.ty own.node.value.value.ty

-- the arguments of an implementing field: each of the interface's, with an equal type, and no further
-- required one
pub record ArgumentsImplement (wanted own : List (Node InputValueDefinition)) : Type 0 where
  pub provided : All (λ a. (b : Node InputValueDefinition) × (definition_named a.value.value.name own ≡ Some b) ×
      IsTrue (same_type a.value.value.ty.value.value b.value.value.ty.value.value)) wanted
  pub no_extra : All (λ b. IsTrue (is_required b.value.value) → IsSome (definition_named b.value.value.name wanted)) own

-- the arguments of these fields agree
abbrev pub FieldArgumentsImplement : Schema → FieldList → List ComponentName → Type 0
FieldArgumentsImplement schema fields interfaces =
    (listed : ComponentName) (name : NameText) (wanted own : Component FieldDefinition) →
    ImplementsField schema fields interfaces listed name wanted own →
    ArgumentsImplement wanted.node.value.value.arguments.items own.node.value.value.arguments.items

-- a type with these fields implements what it lists
pub record ImplementationsHold (schema : Schema) (fields : FieldList) (interfaces : List ComponentName) : Type 0 where
  pub defined : ListedInterfacesAreDefined schema interfaces
  pub transitive : ListsTransitiveInterfaces schema interfaces
  pub has_fields : HasInterfaceFields schema fields interfaces
  pub field_types : FieldTypesImplement schema fields interfaces
  pub field_arguments : FieldArgumentsImplement schema fields interfaces

-- a listed interface lists another, which the type does not list: reported at the type, with the place
-- of that name in the other list
pub record LacksTransitiveInterface (schema : Schema) (name : NameText) (location : Option SourceSpan) (interfaces : List ComponentName) (interface via missing : NameText) (transitive_location at : Option SourceSpan) : Type 0 where
  pub listed : ComponentName
  pub via_interface : Node InterfaceType
  pub further : ComponentName
  pub is_listed : IsListedInterface schema interfaces listed via_interface
  pub lists_further : Contains via_interface.value.value.implements_interfaces.keys further
  pub lacks : ¬ IsListed further.name interfaces
  pub interface_is : interface ≡ name
  pub via_is : via ≡ listed.name
  pub missing_is : missing ≡ further.name
  pub transitive_location_is : transitive_location ≡ further.name.location
  pub at_is : at ≡ location

-- a field of a listed interface is missing: reported at the type, with the places of the listed name and
-- of the interface's field
pub record LacksInterfaceField (schema : Schema) (owner : NameText) (location : Option SourceSpan) (fields : FieldList) (interfaces : List ComponentName) (name interface field : NameText) (implements_location field_location at : Option SourceSpan) : Type 0 where
  pub listed : ComponentName
  pub of_interface : Node InterfaceType
  pub entry : NameText × Component FieldDefinition
  pub is_listed : IsListedInterface schema interfaces listed of_interface
  pub stands : Contains of_interface.value.value.fields.entries entry
  pub missing : field_under entry.1.node.value.value.name fields ≡ None
  pub name_is : name ≡ owner
  pub interface_is : interface ≡ listed.name
  pub field_is : field ≡ entry.1.node.value.value.name
  pub implements_location_is : implements_location ≡ listed.name.location
  pub field_location_is : field_location ≡ entry.1.node.location
  pub at_is : at ≡ location

-- the type of a field does not implement an interface's: reported at the field
pub record HasInvalidFieldType (schema : Schema) (owner : NameText) (fields : FieldList) (interfaces : List ComponentName) (name interface field : NameText) (interface_type actual_type : «Type») (field_location interface_field_location at : Option SourceSpan) : Type 0 where
  pub listed : ComponentName
  pub wanted : Component FieldDefinition
  pub own : Component FieldDefinition
  pub implements : ImplementsField schema fields interfaces listed field wanted own
  pub invalid : ¬ IsValidImplementationType schema wanted.node.value.value.ty own.node.value.value.ty
  pub name_is : name ≡ owner
  pub interface_is : interface ≡ listed.name
  pub interface_type_is : IsTypeCopy wanted.node.value.value.ty interface_type
  pub actual_type_is : IsTypeCopy own.node.value.value.ty actual_type
  pub field_location_is : field_location ≡ own.node.location
  pub interface_field_location_is : interface_field_location ≡ wanted.node.location
  pub at_is : at ≡ own.node.location

-- an argument of an interface's field is missing: reported at the implementing field
pub record LacksInterfaceArgument (schema : Schema) (owner : NameText) (fields : FieldList) (interfaces : List ComponentName) (name interface field argument : NameText) (field_location interface_argument_location at : Option SourceSpan) : Type 0 where
  pub listed : ComponentName
  pub wanted : Component FieldDefinition
  pub own : Component FieldDefinition
  pub wanted_argument : Node InputValueDefinition
  pub implements : ImplementsField schema fields interfaces listed field wanted own
  pub stands : Contains wanted.node.value.value.arguments.items wanted_argument
  pub missing : definition_named wanted_argument.value.value.name own.node.value.value.arguments.items ≡ None
  pub name_is : name ≡ owner
  pub interface_is : interface ≡ listed.name
  pub argument_is : argument ≡ wanted_argument.value.value.name
  pub field_location_is : field_location ≡ own.node.location
  pub interface_argument_location_is : interface_argument_location ≡ wanted_argument.location
  pub at_is : at ≡ own.node.location

-- an argument has another type than the interface's: reported at the implementing argument
pub record HasOtherArgumentType (schema : Schema) (owner : NameText) (fields : FieldList) (interfaces : List ComponentName) (name interface field argument : NameText) (interface_type actual_type : Node «Type») (argument_location interface_argument_location at : Option SourceSpan) : Type 0 where
  pub listed : ComponentName
  pub wanted : Component FieldDefinition
  pub own : Component FieldDefinition
  pub wanted_argument : Node InputValueDefinition
  pub own_argument : Node InputValueDefinition
  pub implements : ImplementsField schema fields interfaces listed field wanted own
  pub stands : Contains wanted.node.value.value.arguments.items wanted_argument
  pub provided : definition_named wanted_argument.value.value.name own.node.value.value.arguments.items ≡ Some own_argument
  pub differ : IsFalse (same_type wanted_argument.value.value.ty.value.value own_argument.value.value.ty.value.value)
  pub name_is : name ≡ owner
  pub interface_is : interface ≡ listed.name
  pub argument_is : argument ≡ wanted_argument.value.value.name
  pub interface_type_is : SameNode wanted_argument.value.value.ty interface_type
  pub actual_type_is : SameNode own_argument.value.value.ty actual_type
  pub argument_location_is : argument_location ≡ own_argument.location
  pub interface_argument_location_is : interface_argument_location ≡ wanted_argument.location
  pub at_is : at ≡ own_argument.location

-- a required argument is not the interface's: reported at the argument
pub record HasExtraArgument (schema : Schema) (owner : NameText) (fields : FieldList) (interfaces : List ComponentName) (name interface field argument : NameText) (argument_location interface_field_location at : Option SourceSpan) : Type 0 where
  pub listed : ComponentName
  pub wanted : Component FieldDefinition
  pub own : Component FieldDefinition
  pub own_argument : Node InputValueDefinition
  pub implements : ImplementsField schema fields interfaces listed field wanted own
  pub stands : Contains own.node.value.value.arguments.items own_argument
  pub required : IsTrue (is_required own_argument.value.value)
  pub extra : definition_named own_argument.value.value.name wanted.node.value.value.arguments.items ≡ None
  pub name_is : name ≡ owner
  pub interface_is : interface ≡ listed.name
  pub argument_is : argument ≡ own_argument.value.value.name
  pub argument_location_is : argument_location ≡ own_argument.location
  pub interface_field_location_is : interface_field_location ≡ wanted.node.location
  pub at_is : at ≡ own_argument.location

-- the diagnostic names what is wrong with the names of interfaces that a type lists, which has this name and location
pub data InterfacesReport (schema : Schema) (owner : NameText) (location : Option SourceSpan) (interfaces : List ComponentName) : DiagnosticData → Option SourceSpan → Type 0 where
  of_undefined_interface : {listed : ComponentName} {at : Option SourceSpan} →
      Contains interfaces listed → interface_named schema listed.name ≡ None → at ≡ listed.name.location →
      InterfacesReport schema owner location interfaces (report.UndefinedDefinition listed.name) at
  of_transitive_interface : {interface via missing : NameText} {transitive_location at : Option SourceSpan} →
      LacksTransitiveInterface schema owner location interfaces interface via missing transitive_location at →
      InterfacesReport schema owner location interfaces (report.TransitiveImplementedInterfaces interface via missing transitive_location) at

-- the diagnostic names a field of a listed interface that a type with these fields lacks
pub data InterfaceFieldsReport (schema : Schema) (owner : NameText) (location : Option SourceSpan) (fields : FieldList) (interfaces : List ComponentName) : DiagnosticData → Option SourceSpan → Type 0 where
  of_missing_field : {name interface field : NameText} {implements_location field_location at : Option SourceSpan} →
      LacksInterfaceField schema owner location fields interfaces name interface field implements_location field_location at →
      InterfaceFieldsReport schema owner location fields interfaces (report.MissingInterfaceField name interface field implements_location field_location) at

-- the diagnostic names a field whose type does not implement an interface's
pub data ImplementationFieldTypesReport (schema : Schema) (owner : NameText) (fields : FieldList) (interfaces : List ComponentName) : DiagnosticData → Option SourceSpan → Type 0 where
  of_implementing_type : {name interface field : NameText} {interface_type actual_type : «Type»} {field_location interface_field_location at : Option SourceSpan} →
      HasInvalidFieldType schema owner fields interfaces name interface field interface_type actual_type field_location interface_field_location at →
      ImplementationFieldTypesReport schema owner fields interfaces (report.InvalidImplementationFieldType name interface field interface_type actual_type field_location interface_field_location) at

-- the diagnostic names a field whose arguments do not implement an interface's
pub data ImplementationFieldArgumentsReport (schema : Schema) (owner : NameText) (fields : FieldList) (interfaces : List ComponentName) : DiagnosticData → Option SourceSpan → Type 0 where
  of_lacked_argument : {name interface field argument : NameText} {field_location interface_argument_location at : Option SourceSpan} →
      LacksInterfaceArgument schema owner fields interfaces name interface field argument field_location interface_argument_location at →
      ImplementationFieldArgumentsReport schema owner fields interfaces (report.MissingInterfaceFieldArgument name interface field argument field_location interface_argument_location) at
  of_argument_type : {name interface field argument : NameText} {interface_type actual_type : Node «Type»} {argument_location interface_argument_location at : Option SourceSpan} →
      HasOtherArgumentType schema owner fields interfaces name interface field argument interface_type actual_type argument_location interface_argument_location at →
      ImplementationFieldArgumentsReport schema owner fields interfaces (report.InvalidImplementationFieldArgumentType name interface field argument interface_type actual_type argument_location interface_argument_location) at
  of_extra_argument : {name interface field argument : NameText} {argument_location interface_field_location at : Option SourceSpan} →
      HasExtraArgument schema owner fields interfaces name interface field argument argument_location interface_field_location at →
      ImplementationFieldArgumentsReport schema owner fields interfaces (report.ExtraRequiredImplementationFieldArgument name interface field argument argument_location interface_field_location) at

-- the diagnostic names what is wrong with the interfaces that a type lists, by one of these parts
pub data ImplementationReport (schema : Schema) (d : ExtendedType) : DiagnosticData → Option SourceSpan → Type 0 where
  of_interfaces : {r : DiagnosticData} {at : Option SourceSpan} →
      InterfacesReport schema (own_name d) (location_of d) (interfaces_of d) r at → ImplementationReport schema d r at
  of_interface_fields : {r : DiagnosticData} {at : Option SourceSpan} →
      InterfaceFieldsReport schema (own_name d) (location_of d) (fields_of d) (interfaces_of d) r at → ImplementationReport schema d r at
  of_field_types : {r : DiagnosticData} {at : Option SourceSpan} →
      ImplementationFieldTypesReport schema (own_name d) (fields_of d) (interfaces_of d) r at → ImplementationReport schema d r at
  of_field_arguments : {r : DiagnosticData} {at : Option SourceSpan} →
      ImplementationFieldArgumentsReport schema (own_name d) (fields_of d) (interfaces_of d) r at → ImplementationReport schema d r at
