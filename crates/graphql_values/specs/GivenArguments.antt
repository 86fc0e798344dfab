-- Arguments beside their definitions, for the calls that fields and directives share.
use Rattle.std.specs.Prelude.{◌≡◌, List, Option}
use Rattle.graphql_specification.specs.Arguments.{LacksArgument, MissesArgument, IsDefined, ValueHoldsBy, ArgumentValuesReport}
use Rattle.graphql_nodes.specs.Names.{NameText}
use Rattle.graphql_diagnostics.specs.declared.data.DiagnosticData.TheVariants as report
use Rattle.graphql_diagnostics.specs.declared.data.DiagnosticData.{DiagnosticData}
use Rattle.graphql_documents.specs.declared.documents.components.Component.{Component}
use Rattle.graphql_coordinates.specs.declared.coordinates.SchemaCoordinate.TheVariants as coordinate
use Rattle.graphql_coordinates.specs.declared.coordinates.SchemaCoordinate.{SchemaCoordinate}
use Rattle.graphql_documents.specs.declared.documents.definitions.DirectiveDefinition.{DirectiveDefinition}
use Rattle.graphql_documents.specs.declared.documents.definitions.FieldDefinition.{FieldDefinition}
use Rattle.graphql_documents.specs.declared.documents.definitions.InputValueDefinition.{InputValueDefinition}
use Rattle.graphql_documents.specs.declared.documents.definitions.VariableDefinition.{VariableDefinition}
use Rattle.graphql_documents.specs.declared.documents.directives.Argument.{Argument}
use Rattle.graphql_documents.specs.declared.documents.directives.Directive.{Directive}
use Rattle.graphql_documents.specs.declared.documents.executables.Field.{Field}
use Rattle.graphql_nodes.specs.declared.nodes.Node.{Node}
use Rattle.graphql_documents.specs.declared.documents.schemas.Schema.{Schema}
use Rattle.graphql_nodes.specs.declared.spans.SourceSpan.{SourceSpan}
use Rattle.graphql_documents.specs.declared.documents.type_references.Type.{«Type»}
use Rattle.graphql_values.specs.declared.argument.owners.ArgumentOwner.TheVariants as owner
use Rattle.graphql_values.specs.declared.argument.owners.ArgumentOwner.{ArgumentOwner}
use Rattle.graphql_values.specs.declared.argument.owners.GivenArguments.{GivenArguments}

-- the coordinate of what the arguments are given to
abbrev pub owner_coordinate : ArgumentOwner → SchemaCoordinate
owner_coordinate (owner.Field parent field) = coordinate.TypeAttribute (record { ty = parent.now; attribute = field.now })
owner_coordinate (owner.Directive application definition) = coordinate.Directive (record { directive = application.now })

-- the coordinate of an argument of it
abbrev pub argument_coordinate_of : ArgumentOwner → NameText → SchemaCoordinate
argument_coordinate_of (owner.Field parent field) argument =
    coordinate.FieldArgument (record { ty = parent.now; field = field.now; argument = argument })
argument_coordinate_of (owner.Directive application definition) argument =
    coordinate.DirectiveArgument (record { directive = definition.now; argument = argument })

-- these are the arguments of a field that is on this type, with this definition
pub record AreOfField (parent : NameText) (f : Node Field) (d : Component FieldDefinition) (arguments : GivenArguments) : Type 0 where
  pub coordinate_is : owner_coordinate arguments.owner ≡ coordinate.TypeAttribute (record { ty = parent; attribute = f.value.value.name })
  pub argument_coordinate_is : argument_coordinate_of arguments.owner ≡
      (λ argument. coordinate.FieldArgument (record { ty = parent; field = f.value.value.name; argument = argument }))
  pub location_is : arguments.location ≡ f.location
  pub given_is : arguments.given.now ≡ f.value.value.arguments.items
  pub definitions_are : arguments.definitions.now ≡ d.node.value.value.arguments.items
  pub definition_location_is : arguments.definition_location ≡ d.node.location

-- these are the arguments of an applied directive with this definition
pub record AreOfDirective (d : Node Directive) (definition : Node DirectiveDefinition) (arguments : GivenArguments) : Type 0 where
  pub coordinate_is : owner_coordinate arguments.owner ≡ coordinate.Directive (record { directive = d.value.value.name })
  pub argument_coordinate_is : argument_coordinate_of arguments.owner ≡
      (λ argument. coordinate.DirectiveArgument (record { directive = definition.value.value.name; argument = argument }))
  pub location_is : arguments.location ≡ d.location
  pub given_is : arguments.given.now ≡ d.value.value.arguments.items
  pub definitions_are : arguments.definitions.now ≡ definition.value.value.arguments.items
  pub definition_location_is : arguments.definition_location ≡ definition.location

-- an argument is defined, and its value holds by the first definition with its name
pub record GivenArgumentHolds (schema : Schema) (variables : List (Node VariableDefinition)) (definitions : List (Node InputValueDefinition)) (a : Node Argument) : Type 0 where
  pub defined : IsDefined definitions a
  pub value_holds : ValueHoldsBy schema variables definitions a

-- the diagnostic names an argument that is not defined, or what is wrong with the value of one
pub data GivenArgumentReport (schema : Schema) (variables : List (Node VariableDefinition)) (arguments : GivenArguments) : DiagnosticData → Option SourceSpan → Type 0 where
  of_unknown_argument : {name : NameText} {reported : SchemaCoordinate} {definition_location at : Option SourceSpan} →
      LacksArgument arguments.definitions.now arguments.given.now (owner_coordinate arguments.owner) arguments.definition_location
      name reported definition_location at →
      GivenArgumentReport schema variables arguments (report.UndefinedArgument name reported definition_location) at
  of_argument_values : {r : DiagnosticData} {at : Option SourceSpan} →
      ArgumentValuesReport schema variables arguments.definitions.now arguments.given.now r at →
      GivenArgumentReport schema variables arguments r at

-- the diagnostic names a required argument that is not given
pub data MissingArgumentReport (arguments : GivenArguments) : DiagnosticData → Option SourceSpan → Type 0 where
  of_missing_argument : {name : NameText} {reported : SchemaCoordinate} {expected : Node «Type»} {definition_location at : Option SourceSpan} →
      MissesArgument arguments.definitions.now arguments.given.now (argument_coordinate_of arguments.owner) arguments.location
      name reported expected definition_location at →
      MissingArgumentReport arguments (report.RequiredArgument name reported expected definition_location) at
