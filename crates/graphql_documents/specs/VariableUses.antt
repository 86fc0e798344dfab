-- Where an operation uses a variable. Specification: 5.8.4 All Variables Used.
use Rattle.std.specs.Prelude.{List, Any, ◌≡◌, Some}
use Rattle.graphql_nodes.specs.Names.{NameText}
use Rattle.graphql_documents.specs.Values.{StandsIn}
use Rattle.graphql_documents.specs.Selections.{Fragments, Reachable, directives_of, arguments_of}
use Rattle.graphql_nodes.specs.declared.nodes.Node.{Node}
use Rattle.graphql_documents.specs.declared.documents.directives.Argument.{Argument}
use Rattle.graphql_documents.specs.declared.documents.directives.Directive.{Directive}
use Rattle.graphql_documents.specs.declared.documents.executables.Operation.{Operation}
use Rattle.graphql_documents.specs.declared.documents.executables.Selection.{Selection}
use Rattle.graphql_documents.specs.declared.documents.executables.FragmentSpread.{FragmentSpread}
use Rattle.graphql_documents.specs.declared.documents.executables.Fragment.{Fragment}
use Rattle.graphql_documents.specs.declared.documents.executables.Selection.TheVariants as kind

-- the variable is in the value of one of these arguments
abbrev pub StandsInArguments : NameText → List (Node Argument) → Type 0
StandsInArguments name arguments = Any (λ a. StandsIn name a.value.value.value.value.value) arguments

-- the variable is in an argument of one of these directives
abbrev pub StandsInDirectives : NameText → List (Node Directive) → Type 0
StandsInDirectives name directives = Any (λ d. StandsInArguments name d.value.value.arguments.items) directives

-- the operation uses a variable of this name
pub data UsesVariable (fragments : Fragments) (operation : Operation) (name : NameText) : Type 0 where
  in_operation : StandsInDirectives name operation.directives.items → UsesVariable fragments operation name
  in_directives : {s : Selection} →
      Reachable fragments operation.selection_set s → StandsInDirectives name (directives_of s) →
      UsesVariable fragments operation name
  in_arguments : {s : Selection} →
      Reachable fragments operation.selection_set s → StandsInArguments name (arguments_of s) →
      UsesVariable fragments operation name
  in_fragment_definition : {p : Node FragmentSpread} {d : Node Fragment} →
      Reachable fragments operation.selection_set (kind.FragmentSpread p) →
      fragments p.value.value.fragment_name ≡ Some d →
      StandsInDirectives name d.value.value.directives.items →
      UsesVariable fragments operation name
