-- The steps of the checks of the definitions of variables, for the contracts of their private functions.
use Rattle.std.specs.Prelude.{◌≡◌, List, [], Option, None, Some, Contains, Result}
use Rattle.std.specs.Option.{option_map}
use Rattle.graphql_diagnostics.specs.Diagnostics.{IsDiagnostic}
use Rattle.graphql_specification.specs.Directives.{ApplicationsHold}
use Rattle.graphql_nodes.specs.Names.{NameText}
use Rattle.graphql_diagnostics.specs.Reports.{Checks}
use Rattle.graphql_specification.specs.Variables.{VariablesReport, DefaultHolds, HasInputType}
use Rattle.graphql_documents.specs.Definitions.{variable_named}
use Rattle.graphql_diagnostics.specs.declared.lists.DiagnosticList.{DiagnosticList}
use Rattle.graphql_nodes.specs.declared.directive_locations.DirectiveLocation.TheVariants as at
use Rattle.graphql_documents.specs.declared.documents.definitions.VariableDefinition.{VariableDefinition}
use Rattle.graphql_nodes.specs.declared.nodes.Node.{Node}
use Rattle.graphql_documents.specs.declared.documents.schemas.Schema.{Schema}
use Rattle.graphql_nodes.specs.declared.spans.SourceSpan.{SourceSpan}
use Rattle.graphql_variables.specs.FirstPlaces.{IsNext}

-- the name of a variable
abbrev pub variable_name : Node VariableDefinition → NameText
variable_name v = v.value.value.name

-- the name of a variable beside its location
abbrev pub visited_variable : Node VariableDefinition → NameText × Option SourceSpan
visited_variable v = (v.value.value.name, v.location)

-- the location of the first variable with this name
abbrev pub variable_place_in : List (Node VariableDefinition) → NameText → Option (Option SourceSpan)
variable_place_in variables name = option_map (λ v. v.location) (variable_named name variables)

-- with a schema, the type of a variable and its default hold
pub record TypeHolds (schema : Option Schema) (v : VariableDefinition) : Type 0 where
  pub type_holds : (s : Schema) → schema ≡ Some s → HasInputType s v
  pub default_holds : (s : Schema) → schema ≡ Some s → DefaultHolds s v

-- a call that checks a rule for one of the variables, whatever the others are
abbrev pub ChecksVariable : {T E : Type 0} → Result T E → Type 0 → Option Schema → Node VariableDefinition → DiagnosticList → DiagnosticList → Type 0
ChecksVariable result Holds schema v old new =
    (variables : List (Node VariableDefinition)) → Contains variables v →
    Checks result Holds (IsDiagnostic (VariablesReport schema variables)) old new

-- a call that checks a rule for one of the variables, behind these
abbrev pub ChecksNext : {T E : Type 0} → Result T E → Type 0 → Option Schema → List (Node VariableDefinition) → Node VariableDefinition → DiagnosticList → DiagnosticList → Type 0
ChecksNext result Holds schema before v old new =
    (variables : List (Node VariableDefinition)) → IsNext variables before v →
    Checks result Holds (IsDiagnostic (VariablesReport schema variables)) old new

-- no variable before it has the name of this one
abbrev pub IsNewName : List (Node VariableDefinition) → Node VariableDefinition → Type 0
IsNewName before v = variable_named v.value.value.name before ≡ None

-- the definition of a variable holds behind these
abbrev pub FollowsWell : Option Schema → List (Node VariableDefinition) → Node VariableDefinition → Type 0
FollowsWell schema before v =
    ApplicationsHold schema [] at.VariableDefinition v.value.value.directives.items × (TypeHolds schema v.value.value × IsNewName before v)
