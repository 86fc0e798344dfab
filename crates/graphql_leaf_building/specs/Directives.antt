-- What arguments and directives say. Specification: 2.6 Arguments, 2.12 Directives.
use Rattle.std.specs.Prelude.{◌≡◌, List, Some}
use Rattle.std.specs.List.{AllZip}
use Rattle.graphql_nodes.specs.declared.nodes.Node.{Node}
use Rattle.graphql_documents.specs.declared.documents.directives.Argument.{Argument}
use Rattle.graphql_documents.specs.declared.documents.directives.Directive.{Directive}
use Rattle.graphql_trees.specs.declared.directives.Argument as argument_tree
use Rattle.graphql_trees.specs.declared.directives.Directive as directive_tree
use Rattle.graphql_leaf_building.specs.Values.{ValueSays}

-- the tree says this argument
pub record ArgumentSays (x : argument_tree.Argument) (y : Node Argument) : Type 0 where
  pub name : y.value.value.name ≡ x.name
  pub value : ValueSays x.value y.value.value.value
  pub location : y.location ≡ Some x.span

-- the trees say these arguments, in order
abbrev pub ArgumentsSay : List argument_tree.Argument → List (Node Argument) → Type 0
ArgumentsSay xs ys = AllZip ArgumentSays xs ys

-- the tree says this application of a directive
pub record DirectiveSays (x : directive_tree.Directive) (y : Node Directive) : Type 0 where
  pub name : y.value.value.name ≡ x.name
  pub arguments : ArgumentsSay x.arguments y.value.value.arguments.items
  pub location : y.location ≡ Some x.span

-- the trees say these directives, in order
abbrev pub DirectivesSay : List directive_tree.Directive → List (Node Directive) → Type 0
DirectivesSay xs ys = AllZip DirectiveSays xs ys
