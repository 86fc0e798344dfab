-- The meta-fields that every schema has. Specification: 4.1 Type Name Introspection, 4.2 Schema Introspection.
use Rattle.std.specs.Prelude.{ℕ, Bool, List, is_some, ◌≡◌, length, map, sum_by, [], codes, false, ◌∷◌, None, All, IsTrue}
use Rattle.graphql_nodes.specs.Names.{NameText, is_name}
use Rattle.graphql_documents.specs.TypeReferences.{type_text, inner_named_type}
use Rattle.graphql_documents.specs.declared.documents.definitions.InputValueDefinition.{InputValueDefinition}
use Rattle.graphql_documents.specs.declared.documents.definitions.FieldDefinition.{FieldDefinition}
use Rattle.graphql_nodes.specs.declared.nodes.Node.{Node}
use Rattle.graphql_documents.specs.declared.documents.components.Component.{Component}
use Rattle.graphql_documents.specs.declared.documents.components.ComponentOrigin.TheVariants as origin

-- the name and the type of an argument, and whether it has a default
abbrev pub argument_signature : InputValueDefinition → List ℕ × List ℕ × Bool
argument_signature d = (d.name.text, type_text d.ty.value.value, is_some d.default_value)

-- the field has this name, these arguments and this type, and no directives, on its arguments neither
pub record HasSignature (d : FieldDefinition) (name : List ℕ) (arguments : List (List ℕ × List ℕ × Bool)) (ty : List ℕ) : Type 0 where
  pub named : d.name.text ≡ name
  pub takes : map (λ a. argument_signature a.value.value) d.arguments.items ≡ arguments
  pub gives : type_text d.ty ≡ ty
  pub no_directives : length d.directives.items ≡ 0
  pub no_argument_directives : sum_by (λ a. length a.value.value.directives.items) d.arguments.items ≡ 0

-- `__typename: String!`
abbrev pub IsTypename : FieldDefinition → Type 0
IsTypename d = HasSignature d (codes "__typename") [] (codes "String!")

-- `__schema: __Schema!`
abbrev pub IsSchemaField : FieldDefinition → Type 0
IsSchemaField d = HasSignature d (codes "__schema") [] (codes "__Schema!")

-- `__type(name: String!): __Type`
abbrev pub IsTypeField : FieldDefinition → Type 0
IsTypeField d = HasSignature d (codes "__type") ((codes "name", codes "String!", false) ∷ []) (codes "__Type")

-- a name that no text holds
pub record IsNameOfNoText (name : NameText) : Type 0 where
  pub text : IsTrue (is_name name.text)
  pub location : name.location ≡ None

-- no text holds the argument: it has no place, and neither have its name, its type and the name in that
pub record ArgumentHasNoPlace (argument : Node InputValueDefinition) : Type 0 where
  pub itself : argument.location ≡ None
  pub name : argument.value.value.name.location ≡ None
  pub ty : argument.value.value.ty.location ≡ None
  pub type_name : IsNameOfNoText (inner_named_type argument.value.value.ty.value.value)

-- no text holds the field: it has no place, and neither have its name, the name in its type and its arguments
pub record FieldHasNoPlace (field : Node FieldDefinition) : Type 0 where
  pub itself : field.location ≡ None
  pub name : field.value.value.name.location ≡ None
  pub type_name : IsNameOfNoText (inner_named_type field.value.value.ty)
  pub arguments : All ArgumentHasNoPlace field.value.value.arguments.items

-- no text holds the component, and no extension brings it
pub record ComponentHasNoPlace (field : Component FieldDefinition) : Type 0 where
  pub origin : field.origin ≡ origin.Definition
  pub node : FieldHasNoPlace field.node
