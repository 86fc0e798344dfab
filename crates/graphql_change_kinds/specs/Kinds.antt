-- The kinds of types, their objects, and what is selected below them. Specification: 3.4 Types.
use Rattle.std.specs.Prelude.{◌≡◌, if◌then◌else◌, List, [], IsFalse}
use Rattle.graphql_nodes.specs.Names.{NameText, SameName}
use Rattle.graphql_documents.specs.Schemas.{IsSubtype, NamesKind, is_built_in, is_object_type}
use Rattle.graphql_documents.specs.TypeReferences.{inner_named_type}
use Rattle.graphql_documents.specs.declared.documents.components.ComponentName.{ComponentName}
use Rattle.graphql_documents.specs.declared.documents.type_references.Type.{«Type»}
use Rattle.graphql_documents.specs.declared.documents.schemas.ExtendedType.{ExtendedType}
use Rattle.graphql_documents.specs.declared.documents.schemas.ExtendedType.TheVariants.{Scalar, Object, Interface, Union, Enum, InputObject}
use Rattle.graphql_documents.specs.declared.documents.schemas.Schema.{Schema}
use Rattle.graphql_document_building.specs.Trees.{names_leaf_type}
use Rattle.graphql_change_kinds.specs.declared.changes.TypeKind.{TypeKind}
use Rattle.graphql_change_kinds.specs.declared.changes.TypeKind.TheVariants as kind

-- the kind of a type
abbrev pub kind_of : ExtendedType → TypeKind
kind_of (Scalar d) = if is_built_in (Scalar d) then kind.BuiltInScalar else kind.CustomScalar
kind_of (Object d) = kind.Object
kind_of (Interface d) = kind.Interface
kind_of (Union d) = kind.Union
kind_of (Enum d) = kind.Enum
kind_of (InputObject d) = kind.InputObject

-- an object type of this name is one of those of the type. Specification: 5.5.2.3 Fragment Spread Is Possible, GetPossibleTypes
abbrev pub IsObjectOf : Schema → NameText → NameText → Type 0
IsObjectOf schema ty object = IsSubtype schema ty object × NamesKind schema is_object_type object

-- the members of a union. Specification: 3.8 Unions
abbrev pub members_of : ExtendedType → List ComponentName
members_of (Union d) = d.value.value.members.keys
members_of _ = []

-- nothing is selected below both types, or fields of composite types of one name. Specification: 5.3.3 Leaf Field Selections
pub record KeepsSelections (old new : Schema) (from to : «Type») : Type 0 where
  pub leaf : names_leaf_type new (inner_named_type to) ≡ names_leaf_type old (inner_named_type from)
  pub composite : IsFalse (names_leaf_type old (inner_named_type from)) → SameName (inner_named_type from) (inner_named_type to)
