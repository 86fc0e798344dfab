-- The values that are written in a document. Specification: 2.6 Arguments, 2.9 Input Values, 2.10 Variables, 2.12 Directives.
use Rattle.std.specs.Prelude.{◌≡◌, ◌⊎◌, List, Any, Contains, Option, Some, Vec}
use Rattle.std.specs.declared.alloc.Global.{Global}
use Rattle.indexmap.specs.IndexMap.{values}
use Rattle.graphql_nodes.specs.Names.{NameText}
use Rattle.graphql_nodes.specs.declared.nodes.Node.{Node}
use Rattle.graphql_documents.specs.Executables.{operations_of}
use Rattle.graphql_documents.specs.Selections.{Written, arguments_of, directives_of}
use Rattle.graphql_documents.specs.declared.documents.definitions.VariableDefinition.{VariableDefinition}
use Rattle.graphql_documents.specs.declared.documents.directives.Argument.{Argument}
use Rattle.graphql_documents.specs.declared.documents.directives.Directive.{Directive}
use Rattle.graphql_documents.specs.declared.documents.executables.ExecutableDocument.{ExecutableDocument}
use Rattle.graphql_documents.specs.declared.documents.executables.Fragment.{Fragment}
use Rattle.graphql_documents.specs.declared.documents.executables.Operation.{Operation}
use Rattle.graphql_documents.specs.declared.documents.executables.Selection.{Selection}
use Rattle.graphql_documents.specs.declared.documents.executables.SelectionSet.{SelectionSet}
use Rattle.graphql_documents.specs.declared.documents.values.Value.{Value}
use Rattle.graphql_documents.specs.declared.documents.values.Value.TheVariants as literal

-- the value, and the values in it, at any depth of lists and objects
pub data ValueWritten : Value → Value → Type 0 where
  value_itself : {value : Value} → ValueWritten value value
  value_in_item : (items : Vec (Node Value) Global) (item : Node Value) {inner : Value} →
      Contains items.items item → ValueWritten item.value.value inner → ValueWritten (literal.List items) inner
  value_in_entry : (entries : Vec (NameText × Node Value) Global) (entry : NameText × Node Value) {inner : Value} →
      Contains entries.items entry → ValueWritten entry.1.value.value inner → ValueWritten (literal.Object entries) inner

-- one of these arguments writes the value
abbrev pub InArguments : List (Node Argument) → Value → Type 0
InArguments arguments value = Any (λ a. ValueWritten a.value.value.value.value.value value) arguments

-- an argument of one of these directives does
abbrev pub InDirectives : List (Node Directive) → Value → Type 0
InDirectives directives value = Any (λ d. InArguments d.value.value.arguments.items value) directives

-- the selection writes the value in its own arguments or directives
abbrev pub WritesItself : Selection → Value → Type 0
WritesItself s value = InArguments (arguments_of s) value ⊎ InDirectives (directives_of s) value

-- a selection does that is in the set or at any depth below it, spreads not followed
abbrev pub SetWrites : SelectionSet → Value → Type 0
SetWrites set value = (s : Selection) × Written set s × WritesItself s value

-- there is a default value, and it has the value
abbrev pub DefaultWrites : Option (Node Value) → Value → Type 0
DefaultWrites default_value value = (default : Node Value) × (default_value ≡ Some default) × ValueWritten default.value.value value

-- the variable has the value in its default value or its directives
abbrev pub VariableWrites : VariableDefinition → Value → Type 0
VariableWrites v value = DefaultWrites v.default_value value ⊎ InDirectives v.directives.items value

-- the operation has the value in its variables, its directives or its selections
abbrev pub OperationWrites : Operation → Value → Type 0
OperationWrites o value =
    Any (λ v. VariableWrites v.value.value value) o.variables.items ⊎ (InDirectives o.directives.items value ⊎ SetWrites o.selection_set value)

-- the fragment has the value in its directives or its selections
abbrev pub FragmentWrites : Fragment → Value → Type 0
FragmentWrites f value = InDirectives f.directives.items value ⊎ SetWrites f.selection_set value

-- the document has the value in an operation or a fragment
abbrev pub DocumentWrites : ExecutableDocument → Value → Type 0
DocumentWrites document value =
    Any (λ o. OperationWrites o.value.value value) (operations_of document) ⊎ Any (λ f. FragmentWrites f.value.value value) (values document.fragments)
