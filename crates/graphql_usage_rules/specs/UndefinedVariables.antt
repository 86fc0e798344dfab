-- The variables that an operation uses and does not define. Specification: 5.8.3 All Variable Uses Defined.
use Rattle.std.specs.Prelude.{◌≡◌, ◌⊎◌, All, Any, Contains, IsSome, List, None, Some, Vec}
use Rattle.std.specs.declared.alloc.Global.{Global}
use Rattle.graphql_nodes.specs.Names.{NameText}
use Rattle.graphql_nodes.specs.declared.nodes.Node.{Node}
use Rattle.graphql_documents.specs.Definitions.{variable_named}
use Rattle.graphql_documents.specs.Executables.{operations_of}
use Rattle.graphql_documents.specs.Selections.{Fragments, Reachable, arguments_of, directives_of, fragments_of}
use Rattle.graphql_documents.specs.VariableUses.{UsesVariable}
use Rattle.graphql_documents.specs.declared.documents.definitions.VariableDefinition.{VariableDefinition}
use Rattle.graphql_documents.specs.declared.documents.directives.Argument.{Argument}
use Rattle.graphql_documents.specs.declared.documents.directives.Directive.{Directive}
use Rattle.graphql_documents.specs.declared.documents.executables.ExecutableDocument.{ExecutableDocument}
use Rattle.graphql_documents.specs.declared.documents.executables.Fragment.{Fragment}
use Rattle.graphql_documents.specs.declared.documents.executables.FragmentSpread.{FragmentSpread}
use Rattle.graphql_documents.specs.declared.documents.executables.Operation.{Operation}
use Rattle.graphql_documents.specs.declared.documents.executables.Selection.{Selection}
use Rattle.graphql_documents.specs.declared.documents.executables.Selection.TheVariants as kind
use Rattle.graphql_documents.specs.declared.documents.values.Value.{Value}
use Rattle.graphql_documents.specs.declared.documents.values.Value.TheVariants as literal
use Rattle.graphql_diagnostics.specs.declared.data.DiagnosticData.TheVariants as report
use Rattle.graphql_diagnostics.specs.declared.details.Details.TheVariants as details
use Rattle.graphql_diagnostics.specs.declared.lists.DiagnosticEntry.{DiagnosticEntry}

-- the operation defines each variable that it uses: in its own parts and in those of each fragment that it reaches, at any depth of lists and objects
abbrev pub UsedVariablesAreDefined : Fragments → Operation → Type 0
UsedVariablesAreDefined fragments o = (name : NameText) → UsesVariable fragments o name → IsSome (variable_named name o.variables.items)

-- "All Variable Uses Defined": each operation of the document does
abbrev pub VariableUsesAreDefined : ExecutableDocument → Type 0
VariableUsesAreDefined document = All (λ o. UsedVariablesAreDefined (fragments_of document) o.value.value) (operations_of document)

-- the variable is in the value, at any depth of lists and objects. Specification: 2.10 Variables
pub data VariableIn (variable : Node Value) : Node Value → Type 0 where
  variable_itself : (name : NameText) → variable.value.value ≡ literal.Variable name → VariableIn variable variable
  variable_in_item : {value : Node Value} (items : Vec (Node Value) Global) (item : Node Value) →
      value.value.value ≡ literal.List items → Contains items.items item → VariableIn variable item → VariableIn variable value
  variable_in_entry : {value : Node Value} (entries : Vec (NameText × Node Value) Global) (entry : NameText × Node Value) →
      value.value.value ≡ literal.Object entries → Contains entries.items entry → VariableIn variable entry.1 → VariableIn variable value

-- it is in the value of one of these arguments
abbrev pub VariableInArguments : List (Node Argument) → Node Value → Type 0
VariableInArguments arguments variable = Any (λ a. VariableIn variable a.value.value.value) arguments

-- it is in an argument of one of these directives
abbrev pub VariableInDirectives : List (Node Directive) → Node Value → Type 0
VariableInDirectives directives variable = Any (λ d. VariableInArguments d.value.value.arguments.items variable) directives

-- it is in the selection's own arguments or directives
abbrev pub VariableAtSelection : Selection → Node Value → Type 0
VariableAtSelection s variable = VariableInArguments (arguments_of s) variable ⊎ VariableInDirectives (directives_of s) variable

-- it is in the scope of an operation: in its directives, at a selection that it reaches, or in the directives of a fragment that it reaches
pub data VariableInScope (fragments : Fragments) (operation : Operation) (variable : Node Value) : Type 0 where
  in_operation : VariableInDirectives operation.directives.items variable → VariableInScope fragments operation variable
  at_selection : (s : Selection) → Reachable fragments operation.selection_set s → VariableAtSelection s variable → VariableInScope fragments operation variable
  in_fragment_definition : (p : Node FragmentSpread) (d : Node Fragment) →
      Reachable fragments operation.selection_set (kind.FragmentSpread p) → fragments p.value.value.fragment_name ≡ Some d →
      VariableInDirectives d.value.value.directives.items variable → VariableInScope fragments operation variable

-- a value that is a variable is one of these
abbrev pub IsDefinedAmong : List (Node VariableDefinition) → Node Value → Type 0
IsDefinedAmong variables value = (name : NameText) → value.value.value ≡ literal.Variable name → IsSome (variable_named name variables)

-- the value is a variable that is none of these: reported at the value, with the variable's name
pub record IsUndefinedReport (variables : List (Node VariableDefinition)) (value : Node Value) (e : DiagnosticEntry) : Type 0 where
  pub name : NameText
  pub is_variable : value.value.value ≡ literal.Variable name
  pub undefined : variable_named name variables ≡ None
  pub details_are : e.details ≡ details.Diagnostic (report.UndefinedVariable name)
  pub location_is : e.location ≡ value.location

-- the report says so of a variable in the scope of the operation
abbrev pub OperationUndefinedReport : Fragments → Operation → DiagnosticEntry → Type 0
OperationUndefinedReport fragments o e = (variable : Node Value) × VariableInScope fragments o variable × IsUndefinedReport o.variables.items variable e

-- and of one of the operations of the document
abbrev pub DocumentUndefinedReport : ExecutableDocument → DiagnosticEntry → Type 0
DocumentUndefinedReport document e = Any (λ o. OperationUndefinedReport (fragments_of document) o.value.value e) (operations_of document)
