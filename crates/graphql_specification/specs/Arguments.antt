-- Arguments against their definitions: when they hold, and what a diagnostic says of one. Specification: 5.4 Arguments.
use Rattle.std.specs.Prelude.{◌≡◌, false, List, AllPairs, IsSome, ◌≢◌, IsSomeAnd, true, All, Some, ◌∷◌, ◌++◌, Option, [], Contains}
use Rattle.std.specs.List.{cons_option, AllZip}
use Rattle.std.specs.Option.{option_map}
use Rattle.graphql_nodes.specs.Names.{same_name, NameText}
use Rattle.graphql_documents.specs.Schemas.{is_required}
use Rattle.graphql_specification.specs.VariableUsages.{UsageHolds, IsMisuse}
use Rattle.graphql_specification.specs.Values.{Accepts, ValueReport}
use Rattle.graphql_documents.specs.Directives.{argument_named}
use Rattle.graphql_documents.specs.Definitions.{definition_named}
use Rattle.graphql_diagnostics.specs.Diagnostics.{IsDiagnostic}
use Rattle.graphql_nodes.specs.Nodes.{SameNode}
use Rattle.graphql_documents.specs.TypeReferences.{reference_of}
use Rattle.graphql_nodes.specs.declared.nodes.Node.{Node}
use Rattle.graphql_documents.specs.declared.documents.directives.Argument.{Argument}
use Rattle.graphql_documents.specs.declared.documents.definitions.InputValueDefinition.{InputValueDefinition}
use Rattle.graphql_documents.specs.declared.documents.values.Value.TheVariants.{Null}
use Rattle.graphql_documents.specs.declared.documents.definitions.VariableDefinition.{VariableDefinition}
use Rattle.graphql_documents.specs.declared.documents.values.Value.{Value}
use Rattle.graphql_documents.specs.declared.documents.schemas.Schema.{Schema}
use Rattle.graphql_nodes.specs.declared.spans.SourceSpan.{SourceSpan}
use Rattle.graphql_diagnostics.specs.declared.data.DiagnosticData.{DiagnosticData}
use Rattle.graphql_diagnostics.specs.declared.lists.DiagnosticEntry.{DiagnosticEntry}
use Rattle.graphql_coordinates.specs.declared.coordinates.SchemaCoordinate.{SchemaCoordinate}
use Rattle.graphql_documents.specs.declared.documents.type_references.Type.{«Type»}
use Rattle.graphql_diagnostics.specs.declared.data.DiagnosticData.TheVariants as report

-- no two arguments have one name. Specification: 5.4.2 Argument Uniqueness
abbrev pub HasDistinctNames : List (Node Argument) → Type 0
HasDistinctNames given = AllPairs (λ a b. same_name a.value.value.name b.value.value.name ≡ false) given

-- a is an argument that is defined. Specification: 5.4.1 Argument Names
abbrev pub IsDefined : List (Node InputValueDefinition) → Node Argument → Type 0
IsDefined definitions a = IsSome (definition_named a.value.value.name definitions)

-- the first argument with this name is there, and is not literally null
abbrev pub IsProvided : List (Node Argument) → NameText → Type 0
IsProvided given name = IsSomeAnd (argument_named name given) (λ a. a.value.value.value.value.value ≢ Null)

-- where d must be given, it is. Specification: 5.4.2.1 Required Arguments
abbrev pub RequiredArgumentIsProvided : List (Node Argument) → Node InputValueDefinition → Type 0
RequiredArgumentIsProvided given d = is_required d.value.value ≡ true → IsProvided given d.value.value.name

-- the names of the arguments agree with the definitions: each is defined, and each required one is given
pub record ArgumentNamesHold (definitions : List (Node InputValueDefinition)) (given : List (Node Argument)) : Type 0 where
  pub defined : All (IsDefined definitions) given
  pub required : All (RequiredArgumentIsProvided given) definitions

-- the value of a defined argument is accepted; where it is a variable, this may be used there
pub record ArgumentValueHolds (schema : Schema) (variables : List (Node VariableDefinition)) (definition : InputValueDefinition) (value : Value) : Type 0 where
  pub usage : UsageHolds variables definition value
  pub accepted : Accepts schema variables definition.ty.value.value value

-- the value of the argument holds, by the first definition with its name
abbrev pub ValueHoldsBy : Schema → List (Node VariableDefinition) → List (Node InputValueDefinition) → Node Argument → Type 0
ValueHoldsBy schema variables definitions a =
    (d : Node InputValueDefinition) → definition_named a.value.value.name definitions ≡ Some d →
    ArgumentValueHolds schema variables d.value.value a.value.value.value.value.value

-- each argument's value holds. Specification: 5.6 Values
abbrev pub ArgumentValuesHold : Schema → List (Node VariableDefinition) → List (Node InputValueDefinition) → List (Node Argument) → Type 0
ArgumentValuesHold schema variables definitions given = All (ValueHoldsBy schema variables definitions) given

-- the arguments agree with the definitions
pub record ArgumentsHold (schema : Schema) (variables : List (Node VariableDefinition)) (definitions : List (Node InputValueDefinition)) (given : List (Node Argument)) : Type 0 where
  pub distinct : HasDistinctNames given
  pub names : ArgumentNamesHold definitions given
  pub values : ArgumentValuesHold schema variables definitions given

-- `again` is behind `first`, the first argument with its name
pub record IsRepetition (given : List (Node Argument)) (first again : Node Argument) : Type 0 where
  pub before : List (Node Argument)
  pub after : List (Node Argument)
  pub split : given ≡ before ++ again ∷ after
  pub first_is : argument_named again.value.value.name before ≡ Some first

-- what is said of a repetition: it is reported there, with the place of the first
pub record RepeatedArgumentReport (first again : Node Argument) (name : NameText) (original redefined at : Option SourceSpan) : Type 0 where
  pub name_is : name ≡ again.value.value.name
  pub original_is : original ≡ first.location
  pub redefined_is : redefined ≡ again.location
  pub at_is : at ≡ again.location

-- an argument repeats a name
pub record RepeatsArgument (given : List (Node Argument)) (name : NameText) (original redefined at : Option SourceSpan) : Type 0 where
  pub first : Node Argument
  pub again : Node Argument
  pub repetition : IsRepetition given first again
  pub says : RepeatedArgumentReport first again name original redefined at

-- the diagnostic says that one of these arguments repeats a name
abbrev pub RepetitionReport : List (Node Argument) → DiagnosticData → Option SourceSpan → Type 0
RepetitionReport given (report.UniqueArgument name original redefined) at = RepeatsArgument given name original redefined at
RepetitionReport given r at = ⊥

-- what an argument repeats, if one with its name is before it, behind the first of them
abbrev pub repetition_after : List (Node Argument) → Node Argument → List (Node Argument × Node Argument)
repetition_after before a = cons_option (option_map (λ first. (first, a)) (argument_named a.value.value.name before)) []

-- the arguments whose names are before them, in order, each behind the first of its name
abbrev pub repetitions_after : List (Node Argument) → List (Node Argument) → List (Node Argument × Node Argument)
repetitions_after before [] = []
repetitions_after before (a ∷ given) = repetition_after before a ++ repetitions_after (before ++ a ∷ []) given

-- the diagnostic is of this repetition
abbrev pub ArgumentRepetitionReport : Node Argument × Node Argument → DiagnosticData → Option SourceSpan → Type 0
ArgumentRepetitionReport pair (report.UniqueArgument name original redefined) at = RepeatedArgumentReport pair.0 pair.1 name original redefined at
ArgumentRepetitionReport pair r at = ⊥

-- the diagnostics are of these repetitions, one for each, in order
abbrev pub AreReportsOf : List (Node Argument × Node Argument) → List DiagnosticEntry → Type 0
AreReportsOf pairs reports = AllZip (λ pair. IsDiagnostic (ArgumentRepetitionReport pair)) pairs reports

-- the diagnostics are of the repetitions among these arguments, one for each, in order
abbrev pub AreRepetitionReports : List (Node Argument) → List DiagnosticEntry → Type 0
AreRepetitionReports given reports = AreReportsOf (repetitions_after [] given) reports

-- an argument is not defined: reported at the argument, with the coordinate and the place of the
-- definition that lacks it
pub record LacksArgument (definitions : List (Node InputValueDefinition)) (given : List (Node Argument)) (owner : SchemaCoordinate) (owner_location : Option SourceSpan) (name : NameText) (coordinate : SchemaCoordinate) (definition_location at : Option SourceSpan) : Type 0 where
  pub argument : Node Argument
  pub is_given : Contains given argument
  pub undefined : ¬ IsDefined definitions argument
  pub name_is : name ≡ argument.value.value.name
  pub coordinate_is : coordinate ≡ owner
  pub definition_location_is : definition_location ≡ owner_location
  pub at_is : at ≡ argument.location

-- a required argument is not given: reported at what should give it, with its definition's type
-- and place
pub record MissesArgument (definitions : List (Node InputValueDefinition)) (given : List (Node Argument)) (coordinate_of : NameText → SchemaCoordinate) (owner_location : Option SourceSpan) (name : NameText) (coordinate : SchemaCoordinate) (expected : Node «Type») (definition_location at : Option SourceSpan) : Type 0 where
  pub definition : Node InputValueDefinition
  pub is_defined : Contains definitions definition
  pub required : is_required definition.value.value ≡ true
  pub missing : ¬ IsProvided given definition.value.value.name
  pub name_is : name ≡ definition.value.value.name
  pub coordinate_is : coordinate ≡ coordinate_of definition.value.value.name
  pub expected_is : SameNode definition.value.value.ty expected
  pub definition_location_is : definition_location ≡ definition.location
  pub at_is : at ≡ owner_location

-- one of these arguments is a variable that is not allowed there
pub record MisusesVariable (variables : List (Node VariableDefinition)) (definitions : List (Node InputValueDefinition)) (given : List (Node Argument)) (variable : NameText) (variable_type : «Type») (argument : NameText) (argument_type : «Type») (variable_location argument_location at : Option SourceSpan) : Type 0 where
  pub a : Node Argument
  pub definition : Node InputValueDefinition
  pub is_given : Contains given a
  pub defined : definition_named a.value.value.name definitions ≡ Some definition
  pub misuse : IsMisuse variables definition a variable variable_type argument argument_type variable_location argument_location at

-- the value of an argument is wrong
pub record ArgumentValueReport (schema : Schema) (variables : List (Node VariableDefinition)) (definitions : List (Node InputValueDefinition)) (given : List (Node Argument)) (r : DiagnosticData) (at : Option SourceSpan) : Type 0 where
  pub a : Node Argument
  pub definition : Node InputValueDefinition
  pub is_given : Contains given a
  pub defined : definition_named a.value.value.name definitions ≡ Some definition
  pub broken : ValueReport schema variables (reference_of definition.value.value.ty) a.value.value.value r at

-- the diagnostic names what is wrong with the values of these arguments
pub data ArgumentValuesReport (schema : Schema) (variables : List (Node VariableDefinition)) (definitions : List (Node InputValueDefinition)) (given : List (Node Argument)) : DiagnosticData → Option SourceSpan → Type 0 where
  of_usage : {variable argument : NameText} {variable_type argument_type : «Type»} {variable_location argument_location at : Option SourceSpan} →
      MisusesVariable variables definitions given variable variable_type argument argument_type variable_location argument_location at →
      ArgumentValuesReport schema variables definitions given (report.DisallowedVariableUsage variable variable_type argument argument_type variable_location argument_location) at
  of_value : {r : DiagnosticData} {at : Option SourceSpan} →
      ArgumentValueReport schema variables definitions given r at → ArgumentValuesReport schema variables definitions given r at
