-- Leaves of schemas and documents that are the same: sameness goes both ways, and is that of a leaf with itself.
use Rattle.std.proofs.Common.{Option, None, Some, refl, sym}
use Rattle.graphql_nodes.specs.declared.nodes.Node.{Node}
use Rattle.graphql_documents.specs.declared.documents.type_references.Type.{«Type»}
use Rattle.graphql_documents.specs.declared.documents.directives.Argument.{Argument}
use Rattle.graphql_documents.specs.declared.documents.directives.Directive.{Directive}
use Rattle.graphql_documents.specs.declared.documents.definitions.VariableDefinition.{VariableDefinition}
use Rattle.graphql_documents.specs.declared.documents.definitions.InputValueDefinition.{InputValueDefinition}
use Rattle.graphql_documents.specs.declared.documents.definitions.FieldDefinition.{FieldDefinition}
use Rattle.graphql_documents.specs.declared.documents.definitions.EnumValueDefinition.{EnumValueDefinition}
use Rattle.graphql_documents.specs.declared.documents.definitions.DirectiveDefinition.{DirectiveDefinition}
use Rattle.graphql_documents.specs.declared.documents.values.Value.{Value}
use Rattle.graphql_document_building.specs.SameLeaves.{SameArgument, SameDefault, SameDirective, SameDirectiveDefinition, SameEnumValue, SameField, SameInputValue, SameTypeNode, SameVariable}
use Rattle.graphql_sameness_laws.proofs.ValueLemmas.{value_back, value_itself}
use Rattle.graphql_sameness_laws.proofs.ZipLemmas.{zip_back, zip_itself}

default_back : (a b : Option (Node Value)) → SameDefault a b → SameDefault b a
default_back None None p = tt
default_back None (Some b) p = absurd p
default_back (Some a) None p = absurd p
default_back (Some a) (Some b) p = value_back a b p

default_itself : (a : Option (Node Value)) → SameDefault a a
default_itself None = tt
default_itself (Some a) = value_itself a

pub type_node_back : (a b : Node «Type») → SameTypeNode a b → SameTypeNode b a
type_node_back a b p = record {
  written = sym p.written;
  location = sym p.location;
}

pub type_node_itself : (a : Node «Type») → SameTypeNode a a
type_node_itself a = record {
  written = refl;
  location = refl;
}

pub argument_back : (a b : Node Argument) → SameArgument a b → SameArgument b a
argument_back a b p = record {
  name = sym p.name;
  value = value_back _ _ p.value;
  location = sym p.location;
}

pub argument_itself : (a : Node Argument) → SameArgument a a
argument_itself a = record {
  name = refl;
  value = value_itself a.value.value.value;
  location = refl;
}

pub directive_back : (a b : Node Directive) → SameDirective a b → SameDirective b a
directive_back a b p = record {
  name = sym p.name;
  arguments = zip_back SameArgument SameArgument argument_back _ _ p.arguments;
  location = sym p.location;
}

pub directive_itself : (a : Node Directive) → SameDirective a a
directive_itself a = record {
  name = refl;
  arguments = zip_itself SameArgument argument_itself a.value.value.arguments.items;
  location = refl;
}

pub variable_back : (a b : Node VariableDefinition) → SameVariable a b → SameVariable b a
variable_back a b p = record {
  name = sym p.name;
  ty = type_node_back _ _ p.ty;
  default_value = default_back _ _ p.default_value;
  directives = zip_back SameDirective SameDirective directive_back _ _ p.directives;
  location = sym p.location;
}

pub variable_itself : (a : Node VariableDefinition) → SameVariable a a
variable_itself a = record {
  name = refl;
  ty = type_node_itself a.value.value.ty;
  default_value = default_itself a.value.value.default_value;
  directives = zip_itself SameDirective directive_itself a.value.value.directives.items;
  location = refl;
}

pub input_value_back : (a b : Node InputValueDefinition) → SameInputValue a b → SameInputValue b a
input_value_back a b p = record {
  name = sym p.name;
  ty = type_node_back _ _ p.ty;
  default_value = default_back _ _ p.default_value;
  directives = zip_back SameDirective SameDirective directive_back _ _ p.directives;
  location = sym p.location;
}

pub input_value_itself : (a : Node InputValueDefinition) → SameInputValue a a
input_value_itself a = record {
  name = refl;
  ty = type_node_itself a.value.value.ty;
  default_value = default_itself a.value.value.default_value;
  directives = zip_itself SameDirective directive_itself a.value.value.directives.items;
  location = refl;
}

pub field_back : (a b : Node FieldDefinition) → SameField a b → SameField b a
field_back a b p = record {
  name = sym p.name;
  arguments = zip_back SameInputValue SameInputValue input_value_back _ _ p.arguments;
  ty = sym p.ty;
  directives = zip_back SameDirective SameDirective directive_back _ _ p.directives;
  location = sym p.location;
}

pub field_itself : (a : Node FieldDefinition) → SameField a a
field_itself a = record {
  name = refl;
  arguments = zip_itself SameInputValue input_value_itself a.value.value.arguments.items;
  ty = refl;
  directives = zip_itself SameDirective directive_itself a.value.value.directives.items;
  location = refl;
}

pub enum_value_back : (a b : Node EnumValueDefinition) → SameEnumValue a b → SameEnumValue b a
enum_value_back a b p = record {
  value = sym p.value;
  directives = zip_back SameDirective SameDirective directive_back _ _ p.directives;
  location = sym p.location;
}

pub enum_value_itself : (a : Node EnumValueDefinition) → SameEnumValue a a
enum_value_itself a = record {
  value = refl;
  directives = zip_itself SameDirective directive_itself a.value.value.directives.items;
  location = refl;
}

pub directive_definition_back : (a b : Node DirectiveDefinition) → SameDirectiveDefinition a b → SameDirectiveDefinition b a
directive_definition_back a b p = record {
  name = sym p.name;
  arguments = zip_back SameInputValue SameInputValue input_value_back _ _ p.arguments;
  repeatable = sym p.repeatable;
  locations = sym p.locations;
  location = sym p.location;
}

pub directive_definition_itself : (a : Node DirectiveDefinition) → SameDirectiveDefinition a a
directive_definition_itself a = record {
  name = refl;
  arguments = zip_itself SameInputValue input_value_itself a.value.value.arguments.items;
  repeatable = refl;
  locations = refl;
  location = refl;
}
