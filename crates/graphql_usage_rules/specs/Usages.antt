-- Where variables are used, and what the places of their uses expect. Specification: 5.8.5 All Variable Usages Are Allowed.
use Rattle.std.specs.Prelude.{◌≡◌, ◌⊎◌, Bool, false, IsTrue, List, [], Any, Contains, Option, Some, Vec, is_some}
use Rattle.std.specs.Option.{option_and_then}
use Rattle.std.specs.declared.alloc.Global.{Global}
use Rattle.indexmap.specs.IndexMap.{get}
use Rattle.graphql_nodes.specs.Names.{NameText, same_name}
use Rattle.graphql_nodes.specs.declared.nodes.Node.{Node}
use Rattle.graphql_nodes.specs.declared.spans.SourceSpan.{SourceSpan}
use Rattle.graphql_documents.specs.Definitions.{definition_named}
use Rattle.graphql_documents.specs.Directives.{directive_definition}
use Rattle.graphql_documents.specs.Schemas.{input_object_named}
use Rattle.graphql_documents.specs.Selections.{Fragments, Reachable, arguments_of, directives_of}
use Rattle.graphql_documents.specs.TypeReferences.{inner_named_type, is_list, item_type}
use Rattle.graphql_documents.specs.declared.documents.components.Component.{Component}
use Rattle.graphql_documents.specs.declared.documents.definitions.DirectiveDefinition.{DirectiveDefinition}
use Rattle.graphql_documents.specs.declared.documents.definitions.InputValueDefinition.{InputValueDefinition}
use Rattle.graphql_documents.specs.declared.documents.directives.Argument.{Argument}
use Rattle.graphql_documents.specs.declared.documents.directives.Directive.{Directive}
use Rattle.graphql_documents.specs.declared.documents.executables.Fragment.{Fragment}
use Rattle.graphql_documents.specs.declared.documents.executables.FragmentSpread.{FragmentSpread}
use Rattle.graphql_documents.specs.declared.documents.executables.Operation.{Operation}
use Rattle.graphql_documents.specs.declared.documents.executables.Selection.{Selection, out-Selection}
use Rattle.graphql_documents.specs.declared.documents.executables.Selection.TheOpen as Open
use Rattle.graphql_documents.specs.declared.documents.executables.Selection.TheVariants as kind
use Rattle.graphql_documents.specs.declared.documents.schemas.Schema.{Schema}
use Rattle.graphql_documents.specs.declared.documents.type_references.Type.{«Type»}
use Rattle.graphql_documents.specs.declared.documents.values.Value.{Value}
use Rattle.graphql_documents.specs.declared.documents.values.Value.TheVariants as literal

-- what is expected at the place of a value: its type, and whether a default value is there where none is given
pub record Location : Type 0 where
  pub ty : «Type»
  pub has_default : Bool

-- at the value of an argument or an input field: what its definition says
abbrev pub location_of : InputValueDefinition → Location
location_of d = record { ty = d.ty.value.value; has_default = is_some d.default_value }

-- at an item of a list: the type of the items, and no default
abbrev pub item_location : Location → Location
item_location location = record { ty = item_type location.ty; has_default = false }

-- a use of a variable: its name, where it is, and what is expected there
pub record Usage : Type 0 where
  pub name : NameText
  pub place : Option SourceSpan
  pub location : Location

-- the input field of this name, in values of a type that is an input object inside its wrappers. Specification: 3.10 Input Objects; 3.11 List, Input
-- Coercion, for an object value that stands for a list of one
abbrev pub input_field_at : Schema → «Type» → NameText → Option (Component InputValueDefinition)
input_field_at schema ty name = option_and_then (λ d. get same_name d.value.value.fields name) (input_object_named schema (inner_named_type ty))

-- the variable is so used in the value at this location: it is the value, or is in an item of a list value where a list is expected, or in an entry of
-- an object value that an input field of the name defines
pub data UsedIn (schema : Schema) : Location → Node Value → Usage → Type 0 where
  used_itself : {location : Location} {value : Node Value} (name : NameText) → value.value.value ≡ literal.Variable name →
      UsedIn schema location value (record { name = name; place = value.location; location = location })
  used_in_item : {location : Location} {value : Node Value} (items : Vec (Node Value) Global) (item : Node Value) {usage : Usage} →
      value.value.value ≡ literal.List items → IsTrue (is_list location.ty) → Contains items.items item →
      UsedIn schema (item_location location) item usage → UsedIn schema location value usage
  used_in_entry : {location : Location} {value : Node Value} (entries : Vec (NameText × Node Value) Global) (entry : NameText × Node Value)
      (field : Component InputValueDefinition) {usage : Usage} →
      value.value.value ≡ literal.Object entries → Contains entries.items entry → input_field_at schema location.ty entry.0 ≡ Some field →
      UsedIn schema (location_of field.node.value.value) entry.1 usage → UsedIn schema location value usage

-- it is so used in the value of one of these arguments, by the definition of its name; one that is not defined uses nothing
abbrev pub UsedInArguments : Schema → List (Node InputValueDefinition) → List (Node Argument) → Usage → Type 0
UsedInArguments schema definitions arguments usage =
    Any (λ a. (d : Node InputValueDefinition) × (definition_named a.value.value.name definitions ≡ Some d) ×
    UsedIn schema (location_of d.value.value) a.value.value.value usage) arguments

-- in the arguments of one of these directives; one that is not defined uses nothing
abbrev pub UsedInDirectives : Schema → List (Node Directive) → Usage → Type 0
UsedInDirectives schema directives usage =
    Any (λ applied. (d : Node DirectiveDefinition) × (directive_definition schema applied.value.value.name ≡ Some d) ×
    UsedInArguments schema d.value.value.arguments.items applied.value.value.arguments.items usage) directives

-- the definitions of the arguments of a selection: those of a field, by its own definition
abbrev pub argument_definitions_of : Selection → List (Node InputValueDefinition)
argument_definitions_of s = elim (out-Selection s) [
  | Open.Field f ↦ f.value.value.definition.value.value.arguments.items
  | Open.FragmentSpread p ↦ []
  | Open.InlineFragment i ↦ []
]

-- in the selection's own arguments or directives
abbrev pub UsedAtSelection : Schema → Selection → Usage → Type 0
UsedAtSelection schema s usage =
    UsedInArguments schema (argument_definitions_of s) (arguments_of s) usage ⊎ UsedInDirectives schema (directives_of s) usage

-- the usages in the scope of an operation: in its directives, at a selection that it reaches, or in the directives of a fragment that it reaches
pub data UsedInScope (schema : Schema) (fragments : Fragments) (operation : Operation) (usage : Usage) : Type 0 where
  in_operation : UsedInDirectives schema operation.directives.items usage → UsedInScope schema fragments operation usage
  at_selection : (s : Selection) → Reachable fragments operation.selection_set s → UsedAtSelection schema s usage →
      UsedInScope schema fragments operation usage
  in_fragment_definition : (p : Node FragmentSpread) (d : Node Fragment) →
      Reachable fragments operation.selection_set (kind.FragmentSpread p) → fragments p.value.value.fragment_name ≡ Some d →
      UsedInDirectives schema d.value.value.directives.items usage → UsedInScope schema fragments operation usage
