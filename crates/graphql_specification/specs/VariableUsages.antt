-- When a variable may be used, and what a diagnostic says where it may not. Specification: 5.8.5 All Variable Usages Are Allowed.
use Rattle.std.specs.Prelude.{◌≢◌, IsSomeAnd, Bool, ◌&&◌, not, IsTrue, IsSome, MatchBool, ◌⊎◌, ◌≡◌, List, Some, Option}
use Rattle.graphql_documents.specs.TypeReferences.{is_non_null, nullable, is_assignable, IsTypeCopy}
use Rattle.graphql_nodes.specs.Names.{NameText}
use Rattle.graphql_documents.specs.Definitions.{variable_named}
use Rattle.graphql_documents.specs.declared.documents.definitions.VariableDefinition.{VariableDefinition}
use Rattle.graphql_documents.specs.declared.documents.definitions.InputValueDefinition.{InputValueDefinition}
use Rattle.graphql_nodes.specs.declared.nodes.Node.{Node}
use Rattle.graphql_documents.specs.declared.documents.values.Value.{Value}
use Rattle.graphql_documents.specs.declared.documents.directives.Argument.{Argument}
use Rattle.graphql_nodes.specs.declared.spans.SourceSpan.{SourceSpan}
use Rattle.graphql_documents.specs.declared.documents.type_references.Type.{«Type»}
use Rattle.graphql_diagnostics.specs.declared.data.DiagnosticData.{DiagnosticData}
use Rattle.graphql_documents.specs.declared.documents.values.Value.TheVariants as literal
use Rattle.graphql_diagnostics.specs.declared.data.DiagnosticData.TheVariants as report

-- the variable has a default that is not null
abbrev pub HasNonNullDefault : VariableDefinition → Type 0
HasNonNullDefault v = IsSomeAnd v.default_value (λ value. value.value.value ≢ literal.Null)

-- the place takes no null, but the variable may be null
abbrev pub needs_default : VariableDefinition → InputValueDefinition → Bool
needs_default v definition = is_non_null definition.ty.value.value && not (is_non_null v.ty.value.value)

-- the variable may be at the place: its type can be there; or the place is non-null, one of the two has a default, and the variable's type can be
-- where null is taken too
abbrev pub IsUsageAllowed : VariableDefinition → InputValueDefinition → Type 0
IsUsageAllowed v definition = MatchBool (needs_default v definition)
    ((HasNonNullDefault v ⊎ IsSome definition.default_value) × IsTrue (is_assignable v.ty.value.value (nullable definition.ty.value.value)))
    (IsTrue (is_assignable v.ty.value.value definition.ty.value.value))

-- the whole value is this variable, as it is first defined
abbrev pub IsVariable : List (Node VariableDefinition) → Value → Node VariableDefinition → Type 0
IsVariable variables value v =
    (name : NameText) × (value ≡ literal.Variable name) × (variable_named name variables ≡ Some v)

-- a value that is a defined variable is allowed at the place
abbrev pub UsageHolds : List (Node VariableDefinition) → InputValueDefinition → Value → Type 0
UsageHolds variables definition value =
    (v : Node VariableDefinition) → IsVariable variables value v → IsUsageAllowed v.value.value definition

-- an argument is a variable that is not allowed there, by the definition of the argument: reported at the argument, with both types and places
pub record IsMisuse (variables : List (Node VariableDefinition)) (definition : Node InputValueDefinition) (a : Node Argument) (variable : NameText) (variable_type : «Type») (argument : NameText) (argument_type : «Type») (variable_location argument_location at : Option SourceSpan) : Type 0 where
  pub v : Node VariableDefinition
  pub is_variable : IsVariable variables a.value.value.value.value.value v
  pub disallowed : ¬ IsUsageAllowed v.value.value definition.value.value
  pub variable_is : variable ≡ v.value.value.name
  pub variable_type_is : IsTypeCopy v.value.value.ty.value.value variable_type
  pub argument_is : argument ≡ a.value.value.name
  pub argument_type_is : IsTypeCopy definition.value.value.ty.value.value argument_type
  pub variable_location_is : variable_location ≡ v.location
  pub argument_location_is : argument_location ≡ a.location
  pub at_is : at ≡ a.location

-- the diagnostic says so of this argument
abbrev pub UsageReport : List (Node VariableDefinition) → Node InputValueDefinition → Node Argument → DiagnosticData → Option SourceSpan → Type 0
UsageReport variables definition a (report.DisallowedVariableUsage variable variable_type argument argument_type variable_location argument_location) at =
    IsMisuse variables definition a variable variable_type argument argument_type variable_location argument_location at
UsageReport variables definition a r at = ⊥
