-- The steps of the checks of applied directives, for the contracts of their private functions.
use Rattle.std.specs.Prelude.{◌≡◌, List, Option, Some, Contains, Result, find}
use Rattle.std.specs.Option.{option_map}
use Rattle.graphql_specification.specs.Arguments.{ArgumentNamesHold, ArgumentValuesHold, HasDistinctNames}
use Rattle.graphql_diagnostics.specs.Diagnostics.{IsDiagnostic}
use Rattle.graphql_specification.specs.Directives.{DirectivesReport, IsRepeatable}
use Rattle.graphql_documents.specs.Directives.{directive_definition}
use Rattle.graphql_nodes.specs.Names.{NameText, same_name}
use Rattle.graphql_diagnostics.specs.Reports.{Checks}
use Rattle.graphql_nodes.specs.Spans.{recompose}
use Rattle.graphql_diagnostics.specs.declared.lists.DiagnosticList.{DiagnosticList}
use Rattle.graphql_documents.specs.declared.documents.definitions.DirectiveDefinition.{DirectiveDefinition}
use Rattle.graphql_nodes.specs.declared.directive_locations.DirectiveLocation.{DirectiveLocation}
use Rattle.graphql_documents.specs.declared.documents.definitions.VariableDefinition.{VariableDefinition}
use Rattle.graphql_documents.specs.declared.documents.directives.Directive.{Directive}
use Rattle.graphql_nodes.specs.declared.nodes.Node.{Node}
use Rattle.graphql_documents.specs.declared.documents.schemas.Schema.{Schema}
use Rattle.graphql_nodes.specs.declared.spans.SourceSpan.{SourceSpan}
use Rattle.graphql_variables.specs.FirstPlaces.{IsNext}

-- the head of an application: up to the end of its name
abbrev pub head_place : Node Directive → Option SourceSpan
head_place d = recompose d.location d.value.value.name.location

-- the name of an application beside its head
abbrev pub visited_directive : Node Directive → NameText × Option SourceSpan
visited_directive d = (d.value.value.name, head_place d)

-- the first application of the directive with this name
abbrev pub directive_named : NameText → List (Node Directive) → Option (Node Directive)
directive_named name directives = find (λ d. same_name d.value.value.name name) directives

-- the head of the first application of the directive with this name
abbrev pub head_in : List (Node Directive) → NameText → Option (Option SourceSpan)
head_in directives name = option_map head_place (directive_named name directives)

-- a directive has the name of one of these only if it is repeatable
abbrev pub RepetitionHolds : Option Schema → List (Node Directive) → Node Directive → Type 0
RepetitionHolds schema before d =
    (first : Node Directive) → directive_named d.value.value.name before ≡ Some first → IsRepeatable schema d.value.value.name

-- a directive is applied as its definition asks; but its arguments may repeat their names
pub record IsAppliedWell (schema : Option Schema) (variables : List (Node VariableDefinition)) (location : DirectiveLocation) (d : Directive) : Type 0 where
  pub against : Schema
  pub definition : Node DirectiveDefinition
  pub has_schema : schema ≡ Some against
  pub defined : directive_definition against d.name ≡ Some definition
  pub allowed : Contains definition.value.value.locations.items location
  pub names : ArgumentNamesHold definition.value.value.arguments.items d.arguments.items
  pub values : ArgumentValuesHold against variables definition.value.value.arguments.items d.arguments.items

-- a call that checks a rule for one of the directives applied at a place, whatever the others are
abbrev pub ChecksApplication : {T E : Type 0} → Result T E → Type 0 → Option Schema → List (Node VariableDefinition) → DirectiveLocation → Node Directive → DiagnosticList → DiagnosticList → Type 0
ChecksApplication result Holds schema variables location d old new =
    (directives : List (Node Directive)) → Contains directives d →
    Checks result Holds (IsDiagnostic (DirectivesReport schema variables location directives)) old new

-- a call that checks a rule for one of the directives applied at a place, behind these
abbrev pub ChecksNext : {T E : Type 0} → Result T E → Type 0 → Option Schema → List (Node VariableDefinition) → DirectiveLocation → List (Node Directive) → Node Directive → DiagnosticList → DiagnosticList → Type 0
ChecksNext result Holds schema variables location before d old new =
    (directives : List (Node Directive)) → IsNext directives before d →
    Checks result Holds (IsDiagnostic (DirectivesReport schema variables location directives)) old new

-- a call that checks whether a directive repeats one that is applied before it
abbrev pub ChecksRepetition : {T E : Type 0} → Result T E → Option Schema → List (Node Directive) → Node Directive → DiagnosticList → DiagnosticList → Type 0
ChecksRepetition result schema before d old new =
    (variables : List (Node VariableDefinition)) (location : DirectiveLocation) →
    ChecksNext result (RepetitionHolds schema before d) schema variables location before d old new

-- a directive may be behind these, and is applied as its definition asks
abbrev pub FollowsWell : Option Schema → List (Node VariableDefinition) → DirectiveLocation → List (Node Directive) → Node Directive → Type 0
FollowsWell schema variables location before d =
    HasDistinctNames d.value.value.arguments.items × (RepetitionHolds schema before d × IsAppliedWell schema variables location d.value.value)
