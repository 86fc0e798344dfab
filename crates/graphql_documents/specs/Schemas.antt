-- Types and fields of a schema. Specification: 3 Type System.
use Rattle.std.specs.Prelude.{Option, Bool, true, false, ℕ, List, codes, ◌≡◌, Some, IsTrue, [], Any, None, if◌then◌else◌, Result, Ok, Err, ◌&&◌, is_none, ◌∷◌, ◌++◌, Contains, flat_map, map, filter}
use Rattle.std.specs.Option.{option_map_or, option_and_then}
use Rattle.std.specs.Str.{bytes_eq}
use Rattle.std.specs.List.{list_any}
use Rattle.indexmap.specs.IndexMap.{get}
use Rattle.graphql_nodes.specs.Names.{NameText, same_name, is_built_in_location, SameName, different_names}
use Rattle.graphql_documents.specs.TypeReferences.{is_non_null}
use Rattle.graphql_documents.specs.declared.documents.schemas.Schema.{Schema}
use Rattle.graphql_documents.specs.declared.documents.schemas.ExtendedType.{ExtendedType}
use Rattle.graphql_documents.specs.declared.documents.schemas.ExtendedType.TheVariants.{Scalar, Object, Interface, Union, Enum, InputObject}
use Rattle.graphql_nodes.specs.declared.spans.SourceSpan.{SourceSpan}
use Rattle.graphql_documents.specs.declared.documents.components.ComponentName.{ComponentName}
use Rattle.graphql_documents.specs.declared.documents.components.Component.{Component}
use Rattle.graphql_documents.specs.declared.documents.definitions.FieldDefinition.{FieldDefinition}
use Rattle.graphql_documents.specs.declared.documents.definitions.InputValueDefinition.{InputValueDefinition}
use Rattle.graphql_documents.specs.declared.documents.schemas.FieldLookupError.{FieldLookupError}
use Rattle.graphql_documents.specs.declared.documents.schemas.FieldLookupError.TheVariants.{NoSuchType, NoSuchField}
use Rattle.graphql_nodes.specs.declared.nodes.Node.{Node}
use Rattle.graphql_documents.specs.declared.documents.schemas.InterfaceType.{InterfaceType}
use Rattle.graphql_documents.specs.declared.documents.schemas.InputObjectType.{InputObjectType}
use Rattle.graphql_nodes.specs.declared.operation_types.OperationType.{OperationType}
use Rattle.graphql_nodes.specs.declared.operation_types.OperationType.TheVariants.{Query, Mutation, Subscription}
use Rattle.graphql_documents.specs.declared.documents.schemas.SchemaDefinition.{SchemaDefinition}
use Rattle.graphql_documents.specs.declared.documents.schemas.ObjectType.{ObjectType}

-- the definition of the type with this name. Specification: 3.3 Schema
abbrev pub type_definition : Schema → NameText → Option ExtendedType
type_definition schema name = get same_name schema.types name

-- objects, interfaces and unions, whose values have fields to select. Specification: 3.4 Types
abbrev pub is_composite : ExtendedType → Bool
is_composite (Scalar d) = false
is_composite (Object d) = true
is_composite (Interface d) = true
is_composite (Union d) = true
is_composite (Enum d) = false
is_composite (InputObject d) = false

-- what a message calls the kind of a type
abbrev pub kind_text : ExtendedType → List ℕ
kind_text (Scalar d) = codes "a scalar type"
kind_text (Object d) = codes "an object type"
kind_text (Interface d) = codes "an interface type"
kind_text (Union d) = codes "a union type"
kind_text (Enum d) = codes "an enum type"
kind_text (InputObject d) = codes "an input object type"

-- types that an argument, a variable or an input field may have. Specification: 3.4.2 Input and Output Types
abbrev pub is_input_type : ExtendedType → Bool
is_input_type (Scalar d) = true
is_input_type (Enum d) = true
is_input_type (InputObject d) = true
is_input_type _ = false

-- types that a field may have. Specification: 3.4.2 Input and Output Types
abbrev pub is_output_type : ExtendedType → Bool
is_output_type (InputObject d) = false
is_output_type _ = true

-- an object type
abbrev pub is_object_type : ExtendedType → Bool
is_object_type (Object d) = true
is_object_type _ = false

-- an interface
abbrev pub is_interface_type : ExtendedType → Bool
is_interface_type (Interface d) = true
is_interface_type _ = false

-- the name is that of a type of which the test is true
abbrev pub NamesKind : Schema → (ExtendedType → Bool) → NameText → Type 0
NamesKind schema test name = (d : ExtendedType) × (type_definition schema name ≡ Some d) × IsTrue (test d)

-- where the definition is
abbrev pub location_of : ExtendedType → Option SourceSpan
location_of (Scalar d) = d.location
location_of (Object d) = d.location
location_of (Interface d) = d.location
location_of (Union d) = d.location
location_of (Enum d) = d.location
location_of (InputObject d) = d.location

-- one of the definitions that every schema has
abbrev pub is_built_in : ExtendedType → Bool
is_built_in definition = is_built_in_location (location_of definition)

-- the name that the definition itself has
abbrev pub own_name : ExtendedType → NameText
own_name (Scalar d) = d.value.value.name
own_name (Object d) = d.value.value.name
own_name (Interface d) = d.value.value.name
own_name (Union d) = d.value.value.name
own_name (Enum d) = d.value.value.name
own_name (InputObject d) = d.value.value.name

-- the interfaces that an object or interface lists. Specification: 3.6 Objects, 3.7 Interfaces
abbrev pub interfaces_of : ExtendedType → List ComponentName
interfaces_of (Object d) = d.value.value.implements_interfaces.keys
interfaces_of (Interface d) = d.value.value.implements_interfaces.keys
interfaces_of _ = []

-- the fields of an object or interface, by the names under which they are
abbrev pub fields_of : ExtendedType → List (NameText × Component FieldDefinition)
fields_of (Object d) = d.value.value.fields.entries
fields_of (Interface d) = d.value.value.fields.entries
fields_of _ = []

-- the fields of an input object. Specification: 3.10 Input Objects
abbrev pub input_fields_of : ExtendedType → List (NameText × Component InputValueDefinition)
input_fields_of (InputObject d) = d.value.value.fields.entries
input_fields_of _ = []

-- the name is in a list of a definition
abbrev pub IsListed : NameText → List ComponentName → Type 0
IsListed name names = Any (λ listed. SameName listed.name name) names

-- a field that a type itself defines. Specification: 3.6 Objects, 3.7 Interfaces
abbrev pub own_field : ExtendedType → NameText → Option (Component FieldDefinition)
own_field (Scalar d) field = None
own_field (Object d) field = get same_name d.value.value.fields field
own_field (Interface d) field = get same_name d.value.value.fields field
own_field (Union d) field = None
own_field (Enum d) field = None
own_field (InputObject d) field = None

-- the schema names this type as its query root. Specification: 3.3.1 Root Operation Types
abbrev pub is_query_root : Schema → NameText → Bool
is_query_root schema type_name =
    option_map_or (λ root. same_name root.name type_name) schema.schema_definition.value.value.query false

-- `__typename` on a composite type, and `__schema` and `__type` on a composite query root.
-- Specification: 4.1 Type Name Introspection, 4.2 Schema Introspection
abbrev pub meta_field : Schema → NameText → ExtendedType → NameText → Option (Component FieldDefinition)
meta_field schema type_name definition field =
    if is_composite definition
    then (if bytes_eq field.text (codes "__typename") then Some schema.meta_fields.typename
    else (if is_query_root schema type_name
    then (if bytes_eq field.text (codes "__schema") then Some schema.meta_fields.schema
    else (if bytes_eq field.text (codes "__type") then Some schema.meta_fields.type_by_name else None))
    else None))
    else None

-- the first of two definitions that is there
abbrev pub first_of : {T : Type 0} → Option T → Option T → Option T
first_of None other = other
first_of (Some d) other = Some d

-- the definition of a field of a type: its own field, else a meta-field
abbrev pub type_field : Schema → NameText → NameText → Result (Component FieldDefinition) FieldLookupError
type_field schema type_name field =
    option_map_or (λ definition.
    option_map_or Ok (first_of (own_field definition field) (meta_field schema type_name definition field)) (Err NoSuchField))
    (type_definition schema type_name) (Err NoSuchType)

-- an argument or input field that must be given: its type is non-null, and it has no default.
-- Specification: 5.4.2.1 Required Arguments
abbrev pub is_required : InputValueDefinition → Bool
is_required d = is_non_null d.ty.value.value && is_none d.default_value

-- a type definition as an interface
abbrev pub as_interface : ExtendedType → Option (Node InterfaceType)
as_interface (Interface d) = Some d
as_interface _ = None

-- the interface with this name, if the schema defines one
abbrev pub interface_named : Schema → NameText → Option (Node InterfaceType)
interface_named schema name = option_and_then as_interface (type_definition schema name)

-- the interface with this name. Specification: 3.7 Interfaces
abbrev pub IsInterface : Schema → NameText → Node InterfaceType → Type 0
IsInterface schema name d = type_definition schema name ≡ Some (Interface d)

-- the input object with this name. Specification: 3.10 Input Objects
abbrev pub IsInputObject : Schema → NameText → Node InputObjectType → Type 0
IsInputObject schema name d = type_definition schema name ≡ Some (InputObject d)

-- the root type of the operations of a kind. Specification: 3.3.1 Root Operation Types
abbrev pub root_operation : SchemaDefinition → OperationType → Option ComponentName
root_operation d Query = d.query
root_operation d Mutation = d.mutation
root_operation d Subscription = d.subscription

-- a root with its kind, if there is one
abbrev pub rooted : OperationType → Option ComponentName → List (OperationType × ComponentName)
rooted kind None = []
rooted kind (Some root) = (kind, root) ∷ []

-- the root types that the schema names, in order
abbrev pub roots_of : SchemaDefinition → List (OperationType × ComponentName)
roots_of d = rooted Query d.query ++ (rooted Mutation d.mutation ++ rooted Subscription d.subscription)

-- the type with this name lists the interface. Specification: 3.6 Objects, 3.7 Interfaces
pub record Implements (schema : Schema) (name interface : NameText) : Type 0 where
  pub definition : ExtendedType
  pub defined : type_definition schema name ≡ Some definition
  pub lists : IsListed interface (interfaces_of definition)

-- an object of this own name lists the interface
abbrev pub IsImplementedBy : Schema → NameText → NameText → Type 0
IsImplementedBy schema interface name =
    (key : NameText) × (d : Node ObjectType) × Contains schema.types.entries (key, Object d) ×
    SameName d.value.value.name name × IsListed interface d.value.value.implements_interfaces.keys

-- the same, of the definition of the first
abbrev pub IsSubtypeOf : Schema → NameText → Option ExtendedType → NameText → Type 0
IsSubtypeOf schema wide (Some (Union d)) narrow = IsListed narrow d.value.value.members.keys
IsSubtypeOf schema wide (Some (Interface d)) narrow = Implements schema narrow wide
IsSubtypeOf schema wide _ narrow = ⊥

-- each value of the second type is one of the first: a member of the union, or what lists the
-- interface. Specification: 3.6 Objects, IsValidImplementationFieldType
abbrev pub IsSubtype : Schema → NameText → NameText → Type 0
IsSubtype schema wide narrow = IsSubtypeOf schema wide (type_definition schema wide) narrow

-- objects of this name are values of the type. Specification: 5.5.2.3 Fragment Spread Is Possible, GetPossibleTypes
abbrev pub IsPossibleType : Schema → ExtendedType → NameText → Type 0
IsPossibleType schema (Object d) name = SameName d.value.value.name name
IsPossibleType schema (Interface d) name = IsImplementedBy schema d.value.value.name name
IsPossibleType schema (Union d) name = IsListed name d.value.value.members.keys
IsPossibleType schema _ name = ⊥

-- the type lists an interface of this name
abbrev pub lists_interface : NameText → ExtendedType → Bool
lists_interface interface d = list_any (λ listed. same_name listed.name interface) (interfaces_of d)

-- the names of the interfaces that some type lists, each once, in order of first listing
abbrev pub listed_interfaces : Schema → List NameText
listed_interfaces schema =
    different_names (flat_map (λ entry. map (λ listed. listed.name) (interfaces_of entry.1)) schema.types.entries)

-- the own names of the types of a kind that list the interface, each once, in order
abbrev pub implementers_of_kind : Schema → (ExtendedType → Bool) → NameText → List NameText
implementers_of_kind schema test interface =
    different_names (map (λ entry. own_name entry.1) (filter (λ entry. test entry.1 && lists_interface interface entry.1) schema.types.entries))

-- what implements an interface: objects, and interfaces
pub record ImplementerNames : Type 0 where
  pub objects : List NameText
  pub interfaces : List NameText

-- each interface that some type lists, with what implements it. Specification: 3.7 Interfaces
abbrev pub implementers_map : Schema → List (NameText × ImplementerNames)
implementers_map schema =
    map (λ interface. (
      interface,
      record {
        objects = implementers_of_kind schema is_object_type interface;
        interfaces = implementers_of_kind schema is_interface_type interface;
      },
    )) (listed_interfaces schema)

-- a type definition as an input object
abbrev pub as_input_object : ExtendedType → Option (Node InputObjectType)
as_input_object (InputObject d) = Some d
as_input_object _ = None

-- the input object with this name, if the schema defines one
abbrev pub input_object_named : Schema → NameText → Option (Node InputObjectType)
input_object_named schema name = option_and_then as_input_object (type_definition schema name)
