-- The definitions of the trees of texts, by their kinds. Specification: 2.2 Document, 3 Type System.
use Rattle.std.specs.Prelude.{ℕ, Bool, true, false, ◌&&◌, ◌||◌, not, List, [], ◌∷◌, Option, None, Some, codes, filter, filter_map, find, flat_map, map}
use Rattle.std.specs.Str.{bytes_eq}
use Rattle.graphql_nodes.specs.Names.{NameText, is_built_in_location, same_name}
use Rattle.graphql_nodes.specs.declared.spans.SourceSpan.{SourceSpan}
use Rattle.graphql_trees.specs.declared.documents.Definition.TheVariants as definition
use Rattle.graphql_trees.specs.declared.documents.Definition.{Definition}
use Rattle.graphql_trees.specs.declared.documents.Document.{Document}
use Rattle.graphql_trees.specs.declared.type_system.DirectiveDefinition.{DirectiveDefinition}
use Rattle.graphql_trees.specs.declared.type_system.SchemaDefinition.{SchemaDefinition}
use Rattle.graphql_trees.specs.declared.type_system.TypeDefinition.TheVariants.{Scalar, Object, Interface, Union, Enum, InputObject}
use Rattle.graphql_trees.specs.declared.type_system.TypeDefinition.{TypeDefinition}
use Rattle.graphql_building_reports.specs.declared.kinds.TypeKind.TheVariants as kind
use Rattle.graphql_building_reports.specs.declared.kinds.TypeKind.{TypeKind}

-- all definitions, in the order of the texts
abbrev pub definitions_in : List Document → List Definition
definitions_in trees = flat_map (λ tree. tree.definitions) trees

-- a definition that can be executed. Specification: 2.2 Document, ExecutableDefinition
abbrev pub is_executable : Definition → Bool
is_executable (definition.Operation d) = true
is_executable (definition.Fragment d) = true
is_executable _ = false

abbrev pub as_schema : Definition → Option SchemaDefinition
as_schema (definition.Schema d) = Some d
as_schema _ = None

abbrev pub as_schema_extension : Definition → Option SchemaDefinition
as_schema_extension (definition.SchemaExtension d) = Some d
as_schema_extension _ = None

abbrev pub as_type : Definition → Option TypeDefinition
as_type (definition.Type d) = Some d
as_type _ = None

abbrev pub as_type_extension : Definition → Option TypeDefinition
as_type_extension (definition.TypeExtension d) = Some d
as_type_extension _ = None

abbrev pub as_directive : Definition → Option DirectiveDefinition
as_directive (definition.Directive d) = Some d
as_directive _ = None

abbrev pub executables : List Definition → List Definition
executables definitions = filter is_executable definitions

-- the definitions of the schema itself. Specification: 3.3 Schema
abbrev pub schemas : List Definition → List SchemaDefinition
schemas definitions = filter_map as_schema definitions

-- its extensions. Specification: 3.3.2 Schema Extension
abbrev pub schema_extensions : List Definition → List SchemaDefinition
schema_extensions definitions = filter_map as_schema_extension definitions

-- the definitions of types. Specification: 3.4 Types
abbrev pub types : List Definition → List TypeDefinition
types definitions = filter_map as_type definitions

-- their extensions. Specification: 3.4.3 Type Extensions
abbrev pub type_extensions : List Definition → List TypeDefinition
type_extensions definitions = filter_map as_type_extension definitions

-- the definitions of directives. Specification: 3.13 Directives
abbrev pub directives : List Definition → List DirectiveDefinition
directives definitions = filter_map as_directive definitions

-- the name of the type that is defined or extended
abbrev pub name_of : TypeDefinition → NameText
name_of (Scalar d) = d.name
name_of (Object d) = d.name
name_of (Interface d) = d.name
name_of (Union d) = d.name
name_of (Enum d) = d.name
name_of (InputObject d) = d.name

-- where the definition or extension is
abbrev pub span_of : TypeDefinition → SourceSpan
span_of (Scalar d) = d.span
span_of (Object d) = d.span
span_of (Interface d) = d.span
span_of (Union d) = d.span
span_of (Enum d) = d.span
span_of (InputObject d) = d.span

-- the kind of the type
abbrev pub kind_of : TypeDefinition → TypeKind
kind_of (Scalar d) = kind.Scalar
kind_of (Object d) = kind.Object
kind_of (Interface d) = kind.Interface
kind_of (Union d) = kind.Union
kind_of (Enum d) = kind.Enum
kind_of (InputObject d) = kind.InputObject

-- the two are one kind
abbrev pub same_kind : TypeKind → TypeKind → Bool
same_kind kind.Scalar kind.Scalar = true
same_kind kind.Object kind.Object = true
same_kind kind.Interface kind.Interface = true
same_kind kind.Union kind.Union = true
same_kind kind.Enum kind.Enum = true
same_kind kind.InputObject kind.InputObject = true
same_kind _ _ = false

abbrev pub is_scalar : TypeDefinition → Bool
is_scalar (Scalar d) = true
is_scalar _ = false

abbrev pub is_interface : TypeDefinition → Bool
is_interface (Interface d) = true
is_interface _ = false

-- the names of its fields, of its members as a union, or of its values as an enum
abbrev pub member_names : TypeDefinition → List NameText
member_names (Scalar d) = []
member_names (Object d) = map (λ field. field.name) d.fields
member_names (Interface d) = map (λ field. field.name) d.fields
member_names (Union d) = d.members
member_names (Enum d) = map (λ value. value.name) d.values
member_names (InputObject d) = map (λ field. field.name) d.fields

-- the interfaces that it implements
abbrev pub interface_names : TypeDefinition → List NameText
interface_names (Object d) = d.interfaces
interface_names (Interface d) = d.interfaces
interface_names _ = []

-- the definition of a type of this name, the first if there are more
abbrev pub type_named : List TypeDefinition → NameText → Option TypeDefinition
type_named definitions name = find (λ d. same_name (name_of d) name) definitions

-- the second extends the first: it has its name, and is of its kind
abbrev pub extends : TypeDefinition → TypeDefinition → Bool
extends d e = same_name (name_of d) (name_of e) && same_kind (kind_of d) (kind_of e)

-- what a type is made of: its definition, then its extensions in the order of the texts.
-- Specification: 3.4.3 Type Extensions
abbrev pub parts_of : List Definition → TypeDefinition → List TypeDefinition
parts_of definitions d = d ∷ filter (extends d) (type_extensions definitions)

-- it is in the file of the definitions that every schema has
abbrev pub is_built_in_name : NameText → Bool
is_built_in_name name = is_built_in_location name.location

-- the names of the directives that are defined in texts
abbrev pub own_directive_names : List Definition → List NameText
own_directive_names definitions = filter (λ name. not (is_built_in_name name)) (map (λ d. d.name) (directives definitions))

-- the names of the directives that every schema has
abbrev pub built_in_directive_names : List Definition → List NameText
built_in_directive_names definitions = filter is_built_in_name (map (λ d. d.name) (directives definitions))

-- Specification: 3.5 Scalars, Built-in Scalars
abbrev pub is_built_in_scalar_text : List ℕ → Bool
is_built_in_scalar_text text =
    bytes_eq text (codes "Int") || bytes_eq text (codes "Float") || bytes_eq text (codes "String") ||
    bytes_eq text (codes "Boolean") || bytes_eq text (codes "ID")

-- a text defines a built-in scalar
abbrev pub redefines_scalar : TypeDefinition → Bool
redefines_scalar d = is_scalar d && is_built_in_scalar_text (name_of d).text && not (is_built_in_name (name_of d))
