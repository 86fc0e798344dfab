-- What documents can give for arguments, input fields and enums of both schemas. Specification: 3.6.1 Field Arguments, 3.9 Enums, 3.10 Input Objects.
use Rattle.std.specs.Prelude.{Bool, true, List, Any, IsSome, IsSomeAnd, IsTrue}
use Rattle.indexmap.specs.IndexMap.{get}
use Rattle.graphql_nodes.specs.Names.{NameText, SameName, same_name}
use Rattle.graphql_nodes.specs.declared.nodes.Node.{Node}
use Rattle.graphql_documents.specs.Definitions.{definition_named}
use Rattle.graphql_documents.specs.Schemas.{is_required}
use Rattle.graphql_documents.specs.TypeReferences.{is_non_null}
use Rattle.graphql_documents.specs.declared.documents.components.Component.{Component}
use Rattle.graphql_documents.specs.declared.documents.definitions.InputValueDefinition.{InputValueDefinition}
use Rattle.graphql_documents.specs.declared.documents.schemas.InputObjectType.{InputObjectType}
use Rattle.graphql_documents.specs.declared.documents.schemas.EnumType.{EnumType}
use Rattle.graphql_schema_changes.specs.Keeps.{KeepsInputValue}
use Rattle.graphql_input_comparison.specs.declared.inputs.Owner.{Owner}
use Rattle.graphql_input_comparison.specs.declared.inputs.Owner.TheVariants as owner

-- documents can give values for the arguments or input fields
abbrev pub is_owner_given : Owner → Bool
is_owner_given (owner.Directive directive is_executable) = is_executable
is_owner_given _ = true

-- where the new type takes no null, there is a default if there was one. Specification: 3.6.1 Field Arguments
abbrev pub KeepsDefault : InputValueDefinition → InputValueDefinition → Type 0
KeepsDefault old new = IsTrue (is_non_null new.ty.value.value) → IsSome old.default_value → IsSome new.default_value

-- one of these arguments has the name of the old one, and takes what it took
abbrev pub KeepsArgument : List (Node InputValueDefinition) → Node InputValueDefinition → Type 0
KeepsArgument new a = IsSomeAnd (definition_named a.value.value.name new) (λ b. KeepsInputValue a.value.value b.value.value)

-- an argument that must be given is one of these that had to be given
abbrev pub WasRequired : List (Node InputValueDefinition) → Node InputValueDefinition → Type 0
WasRequired old b = IsTrue (is_required b.value.value) → Any (λ a. SameName a.value.value.name b.value.value.name × IsTrue (is_required a.value.value)) old

-- the same of a field of an input object, with its name
abbrev pub InputField : Type 0
InputField = NameText × Component InputValueDefinition

abbrev pub KeepsInputField : InputObjectType → InputField → Type 0
KeepsInputField new a = IsSomeAnd (get same_name new.fields a.0) (λ b. KeepsInputValue a.1.node.value.value b.node.value.value)

abbrev pub FieldWasRequired : InputObjectType → InputField → Type 0
FieldWasRequired old b = IsTrue (is_required b.1.node.value.value) → Any (λ a. SameName a.0 b.0 × IsTrue (is_required a.1.node.value.value)) old.fields.entries

-- the enum has the value of this name. Specification: 3.9 Enums
abbrev pub KeepsEnumValue : EnumType → NameText → Type 0
KeepsEnumValue new name = IsSome (get same_name new.values name)
