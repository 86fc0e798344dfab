-- What definitions of variables, input values, fields, enum values and directives say. Specification: 2.10
-- Variables, 3.6 Objects, 3.6.1 Field Arguments, 3.9 Enums, 3.13 Directives.
use Rattle.std.specs.Prelude.{◌≡◌, List, Option, None, Some, map, ⊤}
use Rattle.std.specs.List.{AllZip}
use Rattle.graphql_nodes.specs.declared.nodes.Node.{Node}
use Rattle.graphql_documents.specs.TypeReferences.{as_written}
use Rattle.graphql_documents.specs.declared.documents.definitions.VariableDefinition.{VariableDefinition}
use Rattle.graphql_documents.specs.declared.documents.definitions.InputValueDefinition.{InputValueDefinition}
use Rattle.graphql_documents.specs.declared.documents.definitions.FieldDefinition.{FieldDefinition}
use Rattle.graphql_documents.specs.declared.documents.definitions.EnumValueDefinition.{EnumValueDefinition}
use Rattle.graphql_documents.specs.declared.documents.definitions.DirectiveDefinition.{DirectiveDefinition}
use Rattle.graphql_documents.specs.declared.documents.values.Value.{Value}
use Rattle.graphql_trees.specs.declared.executable.VariableDefinition as variable_tree
use Rattle.graphql_trees.specs.declared.type_system.InputValueDefinition as input_value_tree
use Rattle.graphql_trees.specs.declared.type_system.FieldDefinition as field_tree
use Rattle.graphql_trees.specs.declared.type_system.EnumValueDefinition as enum_value_tree
use Rattle.graphql_trees.specs.declared.type_system.DirectiveDefinition as directive_tree
use Rattle.graphql_leaf_building.specs.Directives.{DirectivesSay}
use Rattle.graphql_leaf_building.specs.Types.{TypeSays, written_type}
use Rattle.graphql_leaf_building.specs.Values.{ValueSays, ValueTree}

-- the default value that the tree says, if it says one
abbrev pub DefaultSays : Option ValueTree → Option (Node Value) → Type 0
DefaultSays None None = ⊤
DefaultSays (Some x) (Some y) = ValueSays x y
DefaultSays _ _ = ⊥

-- the tree says this variable
pub record VariableSays (x : variable_tree.VariableDefinition) (y : Node VariableDefinition) : Type 0 where
  pub name : y.value.value.name ≡ x.variable.name
  pub ty : TypeSays x.type_reference y.value.value.ty
  pub default_value : DefaultSays x.default_value y.value.value.default_value
  pub directives : DirectivesSay x.directives y.value.value.directives.items
  pub location : y.location ≡ Some x.span

-- the trees say these variables, in order
abbrev pub VariablesSay : List variable_tree.VariableDefinition → List (Node VariableDefinition) → Type 0
VariablesSay xs ys = AllZip VariableSays xs ys

-- the tree says this argument of a definition, or field of an input object
pub record InputValueSays (x : input_value_tree.InputValueDefinition) (y : Node InputValueDefinition) : Type 0 where
  pub name : y.value.value.name ≡ x.name
  pub ty : TypeSays x.type_reference y.value.value.ty
  pub default_value : DefaultSays x.default_value y.value.value.default_value
  pub directives : DirectivesSay x.directives y.value.value.directives.items
  pub location : y.location ≡ Some x.span

-- the trees say these arguments or fields, in order
abbrev pub InputValuesSay : List input_value_tree.InputValueDefinition → List (Node InputValueDefinition) → Type 0
InputValuesSay xs ys = AllZip InputValueSays xs ys

-- the tree says this field of an object or an interface
pub record FieldDefinitionSays (x : field_tree.FieldDefinition) (y : Node FieldDefinition) : Type 0 where
  pub name : y.value.value.name ≡ x.name
  pub arguments : InputValuesSay x.arguments y.value.value.arguments.items
  pub ty : as_written y.value.value.ty ≡ written_type x.type_reference
  pub directives : DirectivesSay x.directives y.value.value.directives.items
  pub location : y.location ≡ Some x.span

-- the tree says this value of an enum
pub record EnumValueSays (x : enum_value_tree.EnumValueDefinition) (y : Node EnumValueDefinition) : Type 0 where
  pub value : y.value.value.value ≡ x.name
  pub directives : DirectivesSay x.directives y.value.value.directives.items
  pub location : y.location ≡ Some x.span

-- the tree says this definition of a directive
pub record DirectiveDefinitionSays (x : directive_tree.DirectiveDefinition) (y : Node DirectiveDefinition) : Type 0 where
  pub name : y.value.value.name ≡ x.name
  pub arguments : InputValuesSay x.arguments y.value.value.arguments.items
  pub repeatable : y.value.value.repeatable ≡ x.repeatable
  pub locations : y.value.value.locations.items ≡ map (λ placed. placed.location) x.locations
  pub location : y.location ≡ Some x.span
