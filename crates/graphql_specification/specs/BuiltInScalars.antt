-- The built-in scalars that a schema keeps or gains by what it uses. Specification: 3.5 Scalars.
use Rattle.std.specs.Prelude.{ℕ, List, [], ◌∷◌, codes, Bool, map, ◌++◌, flat_map, ◌&&◌, not, filter, ◌≡◌, None, Some, true, false, All, IsTrue}
use Rattle.std.specs.List.{list_any, AllZip, list_all}
use Rattle.std.specs.Str.{bytes_eq}
use Rattle.graphql_nodes.specs.Names.{NameText}
use Rattle.graphql_documents.specs.TypeReferences.{inner_named_type}
use Rattle.graphql_documents.specs.Schemas.{fields_of, input_fields_of, is_built_in, own_name}
use Rattle.graphql_nodes.specs.declared.nodes.Node.{Node}
use Rattle.graphql_documents.specs.declared.documents.definitions.InputValueDefinition.{InputValueDefinition}
use Rattle.graphql_documents.specs.declared.documents.definitions.FieldDefinition.{FieldDefinition}
use Rattle.graphql_documents.specs.declared.documents.schemas.ExtendedType.{ExtendedType}
use Rattle.graphql_documents.specs.declared.documents.schemas.Schema.{Schema}
use Rattle.graphql_nodes.specs.declared.spans.SourceSpan.{SourceSpan}
use Rattle.graphql_documents.specs.declared.documents.schemas.ScalarType.{ScalarType}
use Rattle.graphql_documents.specs.declared.documents.schemas.ExtendedType.TheVariants.{Scalar}

-- the names of the scalars that every schema may use, in their order
abbrev pub built_in_scalar_names : List (List ℕ)
built_in_scalar_names = codes "Int" ∷ (codes "Float" ∷ (codes "String" ∷ (codes "Boolean" ∷ (codes "ID" ∷ []))))

-- the text is one of those names
abbrev pub names_built_in_scalar : List ℕ → Bool
names_built_in_scalar text = list_any (bytes_eq text) built_in_scalar_names

-- the types of arguments, without their wrappers
abbrev pub argument_types : List (Node InputValueDefinition) → List NameText
argument_types arguments = map (λ a. inner_named_type a.value.value.ty.value.value) arguments

-- the type of a field, and those of its arguments
abbrev pub field_types : FieldDefinition → List NameText
field_types d = inner_named_type d.ty ∷ argument_types d.arguments.items

-- the types to which a type definition refers by its fields, their arguments and its input fields
abbrev pub types_referred_by : ExtendedType → List NameText
types_referred_by d =
    flat_map (λ entry. field_types entry.1.node.value.value) (fields_of d) ++
    map (λ entry. inner_named_type entry.1.node.value.value.ty.value.value) (input_fields_of d)

-- the types to which the schema refers, by the arguments of directives and by its types
abbrev pub types_referred : Schema → List NameText
types_referred schema =
    flat_map (λ entry. argument_types entry.1.value.value.arguments.items) schema.directive_definitions.entries ++
    flat_map (λ entry. types_referred_by entry.1) schema.types.entries

-- the schema uses the type of this name
abbrev pub uses_type : Schema → List ℕ → Bool
uses_type schema text = list_any (λ name. bytes_eq name.text text) (types_referred schema)

-- a type is listed under the name
abbrev pub has_type : Schema → List ℕ → Bool
has_type schema text = list_any (λ entry. bytes_eq entry.0.text text) schema.types.entries

-- a definition that every schema has, under a built-in scalar's name that this one does not use
abbrev pub is_unused_built_in : Schema → NameText × ExtendedType → Bool
is_unused_built_in schema entry =
    is_built_in entry.1 && (names_built_in_scalar entry.0.text && not (uses_type schema entry.0.text))

-- the types that stay, in order
abbrev pub kept_types : Schema → List (NameText × ExtendedType)
kept_types schema = filter (λ entry. not (is_unused_built_in schema entry)) schema.types.entries

-- the built-in scalars that the schema uses and lacks, in order
abbrev pub missing_scalars : Schema → List (List ℕ)
missing_scalars schema = filter (λ text. uses_type schema text && not (has_type schema text)) built_in_scalar_names

-- a built-in scalar of this name, without directives, at the very start of the built-in file; its name, and the
-- key under which it is found, have no place
pub record IsAddedScalar (text : List ℕ) (entry : NameText × ExtendedType) : Type 0 where
  pub scalar : Node ScalarType
  pub location : SourceSpan
  pub is_scalar : entry.1 ≡ Scalar scalar
  pub key : entry.0.text ≡ text
  pub key_place : entry.0.location ≡ None
  pub name : scalar.value.value.name.text ≡ text
  pub name_place : scalar.value.value.name.location ≡ None
  pub no_directives : scalar.value.value.directives.items ≡ []
  pub is_at : scalar.location ≡ Some location
  pub in_built_in_file : location.file_id.0 ≡ 0
  pub starts : location.start ≡ 0
  pub ends : location.end ≡ 0

-- these are the types of the schema once its used built-in scalars are retained: without the unused built-in ones, and with the
-- used built-in scalars that it lacked behind them
abbrev pub RetainsUsedBuiltInScalars : Schema → List (NameText × ExtendedType) → Type 0
RetainsUsedBuiltInScalars schema retained =
    (added : List (NameText × ExtendedType)) × (retained ≡ kept_types schema ++ added) × AllZip IsAddedScalar (missing_scalars schema) added

-- a schema once its used built-in scalars are retained; nothing else of it changes
pub record SchemaRetainsUsedBuiltInScalars (schema retained : Schema) : Type 0 where
  pub types : RetainsUsedBuiltInScalars schema retained.types.entries
  pub definition : retained.schema_definition ≡ schema.schema_definition
  pub directives : retained.directive_definitions ≡ schema.directive_definitions
  pub meta_fields : retained.meta_fields ≡ schema.meta_fields

-- the text is that of a built-in scalar, and one of these names has it: what stays recorded of names that
-- are referred to
abbrev pub is_recorded : List NameText → List ℕ → Bool
is_recorded names text = names_built_in_scalar text && list_any (λ name. bytes_eq name.text text) names

-- each built-in scalar is recorded
abbrev pub all_recorded : List NameText → Bool
all_recorded names = list_all (is_recorded names) built_in_scalar_names

-- a scalar
abbrev pub is_scalar_type : ExtendedType → Bool
is_scalar_type (Scalar d) = true
is_scalar_type _ = false

-- only scalars are listed under the names of the built-in scalars
abbrev pub OnlyScalarsHaveBuiltInNames : Schema → Type 0
OnlyScalarsHaveBuiltInNames schema =
    All (λ entry. IsTrue (names_built_in_scalar entry.0.text) → IsTrue (is_scalar_type entry.1)) schema.types.entries

-- each scalar that every schema has is one of the built-in scalars
abbrev pub BuiltInScalarsHaveTheirNames : Schema → Type 0
BuiltInScalarsHaveTheirNames schema =
    All (λ entry. IsTrue (is_scalar_type entry.1) → IsTrue (is_built_in entry.1) → IsTrue (names_built_in_scalar (own_name entry.1).text)) schema.types.entries
