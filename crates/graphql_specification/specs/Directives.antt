-- When applied directives hold, and what a diagnostic says of one. Specification: 5.7 Directives.
use Rattle.std.specs.Prelude.{◌≡◌, List, Option, Some, Contains, IsTrue, AllPairs, All, None, ◌∷◌, ◌++◌, find, Vec}
use Rattle.std.specs.declared.alloc.Global.{Global}
use Rattle.graphql_specification.specs.Arguments.{ArgumentsHold, LacksArgument, MissesArgument, RepeatsArgument, ArgumentValuesReport}
use Rattle.graphql_nodes.specs.Names.{NameText, SameName, same_name}
use Rattle.graphql_documents.specs.Directives.{directive_definition, directive_in}
use Rattle.graphql_nodes.specs.Spans.{recompose}
use Rattle.graphql_nodes.specs.declared.nodes.Node.{Node}
use Rattle.graphql_documents.specs.declared.documents.directives.Directive.{Directive}
use Rattle.graphql_documents.specs.declared.documents.definitions.DirectiveDefinition.{DirectiveDefinition}
use Rattle.graphql_nodes.specs.declared.directive_locations.DirectiveLocation.{DirectiveLocation}
use Rattle.graphql_documents.specs.declared.documents.definitions.VariableDefinition.{VariableDefinition}
use Rattle.graphql_documents.specs.declared.documents.schemas.Schema.{Schema}
use Rattle.graphql_nodes.specs.declared.spans.SourceSpan.{SourceSpan}
use Rattle.graphql_diagnostics.specs.declared.data.DiagnosticData.{DiagnosticData}
use Rattle.graphql_coordinates.specs.declared.coordinates.SchemaCoordinate.{SchemaCoordinate}
use Rattle.graphql_documents.specs.declared.documents.type_references.Type.{«Type»}
use Rattle.graphql_coordinates.specs.declared.coordinates.SchemaCoordinate.TheVariants as coordinate
use Rattle.graphql_diagnostics.specs.declared.data.DiagnosticData.TheVariants as report

-- a directive is applied as its definition asks: in a schema that defines it, at one of its
-- locations, with arguments that hold. Specification: 5.7.1 Directives Are Defined, 5.7.2 Directives
-- Are in Valid Locations, 5.4 Arguments
pub record ApplicationHolds (schema : Option Schema) (variables : List (Node VariableDefinition)) (location : DirectiveLocation) (d : Directive) : Type 0 where
  pub against : Schema
  pub definition : Node DirectiveDefinition
  pub has_schema : schema ≡ Some against
  pub defined : directive_definition against d.name ≡ Some definition
  pub allowed : Contains definition.value.value.locations.items location
  pub arguments : ArgumentsHold against variables definition.value.value.arguments.items d.arguments.items

-- the directive may be applied again at one place; an unknown directive may too
abbrev pub IsRepeatable : Option Schema → NameText → Type 0
IsRepeatable schema name =
    (definition : Node DirectiveDefinition) → directive_in schema name ≡ Some definition →
    IsTrue definition.value.value.repeatable

-- only repeatable directives are repeated. Specification: 5.7.3 Directives Are Unique per Location
abbrev pub RepetitionsHold : Option Schema → List (Node Directive) → Type 0
RepetitionsHold schema directives =
    AllPairs (λ earlier later. SameName earlier.value.value.name later.value.value.name → IsRepeatable schema later.value.value.name) directives

-- the directives applied at one place hold; without a schema there may be none
pub record ApplicationsHold (schema : Option Schema) (variables : List (Node VariableDefinition)) (location : DirectiveLocation) (directives : List (Node Directive)) : Type 0 where
  pub each : All (λ d. ApplicationHolds schema variables location d.value.value) directives
  pub repetitions : RepetitionsHold schema directives

-- one of these directives, and its definition
pub record IsApplied (schema : Option Schema) (directives : List (Node Directive)) (against : Schema) (d : Node Directive) (definition : Node DirectiveDefinition) : Type 0 where
  pub applied : Contains directives d
  pub has_schema : schema ≡ Some against
  pub defined : directive_definition against d.value.value.name ≡ Some definition

-- a directive is not defined: reported at the application
pub record IsUndefinedDirective (schema : Option Schema) (directives : List (Node Directive)) (name : NameText) (at : Option SourceSpan) : Type 0 where
  pub d : Node Directive
  pub applied : Contains directives d
  pub undefined : directive_in schema d.value.value.name ≡ None
  pub name_is : name ≡ d.value.value.name
  pub at_is : at ≡ d.location

-- a directive that is not repeatable is repeated: reported at the repetition, with the place of the
-- first application
pub record RepeatsDirective (schema : Option Schema) (directives : List (Node Directive)) (name : NameText) (original at : Option SourceSpan) : Type 0 where
  pub before : List (Node Directive)
  pub first : Node Directive
  pub again : Node Directive
  pub after : List (Node Directive)
  pub split : directives ≡ before ++ again ∷ after
  pub first_is : find (λ d. same_name d.value.value.name again.value.value.name) before ≡ Some first
  pub not_repeatable : ¬ IsRepeatable schema again.value.value.name
  pub name_is : name ≡ again.value.value.name
  pub original_is : original ≡ recompose first.location first.value.value.name.location
  pub at_is : at ≡ again.location

-- a directive is applied where its definition does not allow it: reported at the application, with the
-- allowed locations
pub record IsMisplaced (schema : Option Schema) (directives : List (Node Directive)) (location : DirectiveLocation) (name : NameText) (reported : DirectiveLocation) (valid : List DirectiveLocation) (definition_location at : Option SourceSpan) : Type 0 where
  pub against : Schema
  pub d : Node Directive
  pub definition : Node DirectiveDefinition
  pub is_applied : IsApplied schema directives against d definition
  pub misplaced : ¬ Contains definition.value.value.locations.items location
  pub name_is : name ≡ d.value.value.name
  pub reported_is : reported ≡ location
  pub valid_is : valid ≡ definition.value.value.locations.items
  pub definition_location_is : definition_location ≡ definition.location
  pub at_is : at ≡ d.location

-- the diagnostic names what is wrong with the arguments of this application, repeated ones apart
pub data ApplicationReport (schema : Schema) (variables : List (Node VariableDefinition)) (d : Node Directive) (definition : Node DirectiveDefinition) : DiagnosticData → Option SourceSpan → Type 0 where
  of_unknown_argument : {name : NameText} {owner : SchemaCoordinate} {definition_location at : Option SourceSpan} →
      LacksArgument definition.value.value.arguments.items d.value.value.arguments.items
      (coordinate.Directive (record { directive = d.value.value.name })) definition.location name owner definition_location at →
      ApplicationReport schema variables d definition (report.UndefinedArgument name owner definition_location) at
  of_missing_argument : {name : NameText} {owner : SchemaCoordinate} {expected : Node «Type»} {definition_location at : Option SourceSpan} →
      MissesArgument definition.value.value.arguments.items d.value.value.arguments.items
      (λ argument. coordinate.DirectiveArgument (record { directive = definition.value.value.name; argument = argument })) d.location
      name owner expected definition_location at →
      ApplicationReport schema variables d definition (report.RequiredArgument name owner expected definition_location) at
  of_argument_values : {r : DiagnosticData} {at : Option SourceSpan} →
      ArgumentValuesReport schema variables definition.value.value.arguments.items d.value.value.arguments.items r at →
      ApplicationReport schema variables d definition r at

-- the diagnostic names what is wrong with the directives applied at one place
pub data DirectivesReport (schema : Option Schema) (variables : List (Node VariableDefinition)) (location : DirectiveLocation) (directives : List (Node Directive)) : DiagnosticData → Option SourceSpan → Type 0 where
  of_repeated_argument : (d : Node Directive) {name : NameText} {original redefined at : Option SourceSpan} →
      Contains directives d → RepeatsArgument d.value.value.arguments.items name original redefined at →
      DirectivesReport schema variables location directives (report.UniqueArgument name original redefined) at
  of_undefined_directive : {name : NameText} {at : Option SourceSpan} →
      IsUndefinedDirective schema directives name at →
      DirectivesReport schema variables location directives (report.UndefinedDirective name) at
  of_repeated_directive : {name : NameText} {original at : Option SourceSpan} →
      RepeatsDirective schema directives name original at →
      DirectivesReport schema variables location directives (report.UniqueDirective name original) at
  of_misplaced_directive : {name : NameText} {reported : DirectiveLocation} {valid : Vec DirectiveLocation Global} {definition_location at : Option SourceSpan} →
      IsMisplaced schema directives location name reported valid.items definition_location at →
      DirectivesReport schema variables location directives (report.UnsupportedLocation name reported valid definition_location) at
  of_application : {against : Schema} {d : Node Directive} {definition : Node DirectiveDefinition} {r : DiagnosticData} {at : Option SourceSpan} →
      IsApplied schema directives against d definition → ApplicationReport against variables d definition r at →
      DirectivesReport schema variables location directives r at
