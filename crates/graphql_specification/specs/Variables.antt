-- Variables of operations: when their definitions hold and they are used, and what a diagnostic says of one. Specification: 5.8 Variables.
use Rattle.std.specs.Prelude.{◌≡◌, [], Some, Option, List, All, map, ◌∷◌, ◌++◌, ℕ, IsFalse, None, Contains}
use Rattle.std.specs.Borrow.{Bor}
use Rattle.graphql_documents.specs.TypeReferences.{inner_named_type, reference_of}
use Rattle.graphql_documents.specs.Schemas.{NamesKind, is_input_type, kind_text, type_definition}
use Rattle.graphql_specification.specs.Values.{Accepts, ValueReport}
use Rattle.graphql_specification.specs.Directives.{ApplicationsHold, DirectivesReport}
use Rattle.graphql_nodes.specs.Names.{AreDistinct, NameText, SameName, different_names}
use Rattle.graphql_documents.specs.Selections.{Fragments}
use Rattle.graphql_documents.specs.Definitions.{variable_named}
use Rattle.graphql_nodes.specs.Nodes.{SameNode}
use Rattle.graphql_nodes.specs.Spans.{recompose}
use Rattle.graphql_documents.specs.VariableUses.{UsesVariable}
use Rattle.graphql_diagnostics.specs.Diagnostics.{IsDiagnostic}
use Rattle.graphql_documents.specs.Walks.{PassesDepth, full_walk}
use Rattle.graphql_documents.specs.declared.documents.definitions.VariableDefinition.{VariableDefinition}
use Rattle.graphql_documents.specs.declared.documents.schemas.Schema.{Schema}
use Rattle.graphql_nodes.specs.declared.nodes.Node.{Node}
use Rattle.graphql_documents.specs.declared.documents.values.Value.{Value}
use Rattle.graphql_documents.specs.declared.documents.executables.Operation.{Operation}
use Rattle.graphql_nodes.specs.declared.spans.SourceSpan.{SourceSpan}
use Rattle.graphql_documents.specs.declared.documents.schemas.ExtendedType.{ExtendedType}
use Rattle.graphql_documents.specs.declared.documents.type_references.Type.{«Type»}
use Rattle.graphql_diagnostics.specs.declared.data.DiagnosticData.{DiagnosticData}
use Rattle.graphql_diagnostics.specs.declared.lists.DiagnosticEntry.{DiagnosticEntry}
use Rattle.graphql_nodes.specs.declared.directive_locations.DirectiveLocation.TheVariants as allowed_at
use Rattle.graphql_diagnostics.specs.declared.data.DiagnosticData.TheVariants as report

-- the variable's type is a defined input type. Specification: 5.8.2 Variables Are Input Types
abbrev pub HasInputType : Schema → VariableDefinition → Type 0
HasInputType schema v = NamesKind schema is_input_type (inner_named_type v.ty.value.value)

-- the variable's default is accepted for its type, without variables
abbrev pub DefaultHolds : Schema → VariableDefinition → Type 0
DefaultHolds schema v =
    (value : Node Value) → v.default_value ≡ Some value → Accepts schema [] v.ty.value.value value.value.value

-- a variable is defined as it should be: its directives hold without variables, and with a schema
-- its type and its default do
pub record VariableDefinitionHolds (schema : Option Schema) (v : VariableDefinition) : Type 0 where
  pub directives : ApplicationsHold schema [] allowed_at.VariableDefinition v.directives.items
  pub type_holds : (s : Schema) → schema ≡ Some s → HasInputType s v
  pub default_holds : (s : Schema) → schema ≡ Some s → DefaultHolds s v

-- the variables are defined as they should be, and their names are distinct. Specification: 5.8.1
-- Variable Uniqueness
pub record VariableDefinitionsHold (schema : Option Schema) (variables : List (Node VariableDefinition)) : Type 0 where
  pub each : All (λ v. VariableDefinitionHolds schema v.value.value) variables
  pub distinct : AreDistinct (map (λ v. v.value.value.name) variables)

-- every variable of the operation is used. Specification: 5.8.4 All Variables Used
abbrev pub VariablesAreUsed : Fragments → Operation → Type 0
VariablesAreUsed fragments operation =
    All (λ v. UsesVariable fragments operation v.value.value.name) operation.variables.items

-- the variables of the operation hold
pub record VariablesHold (schema : Option Schema) (fragments : Fragments) (operation : Operation) : Type 0 where
  pub definitions : VariableDefinitionsHold schema operation.variables.items
  pub used : VariablesAreUsed fragments operation

-- a variable has the name of an earlier one: reported at the later, with the place of the first
pub record RepeatsVariable (variables : List (Node VariableDefinition)) (name : NameText) (original redefined at : Option SourceSpan) : Type 0 where
  pub before : List (Node VariableDefinition)
  pub first : Node VariableDefinition
  pub again : Node VariableDefinition
  pub after : List (Node VariableDefinition)
  pub split : variables ≡ before ++ again ∷ after
  pub first_is : variable_named again.value.value.name before ≡ Some first
  pub name_is : name ≡ again.value.value.name
  pub original_is : original ≡ first.location
  pub redefined_is : redefined ≡ again.location
  pub at_is : at ≡ again.location

-- a variable is not of an input type: reported at the variable
pub record HasNoInputType (schema : Option Schema) (v : Node VariableDefinition) (name : NameText) (ty : Node «Type») (describe : List ℕ) (at : Option SourceSpan) : Type 0 where
  pub against : Schema
  pub definition : ExtendedType
  pub has_schema : schema ≡ Some against
  pub defined : type_definition against (inner_named_type v.value.value.ty.value.value) ≡ Some definition
  pub no_input : IsFalse (is_input_type definition)
  pub name_is : name ≡ v.value.value.name
  pub type_is : SameNode v.value.value.ty ty
  pub describe_is : describe ≡ kind_text definition
  pub at_is : at ≡ v.location

-- the type of a variable is not defined: reported at the variable
pub record HasUndefinedType (schema : Option Schema) (v : Node VariableDefinition) (name : NameText) (at : Option SourceSpan) : Type 0 where
  pub against : Schema
  pub has_schema : schema ≡ Some against
  pub undefined : type_definition against (inner_named_type v.value.value.ty.value.value) ≡ None
  pub name_is : name ≡ inner_named_type v.value.value.ty.value.value
  pub at_is : at ≡ v.location

-- a variable is not used: reported at the last variable of its name
pub record IsUnusedVariable (fragments : Fragments) (o : Operation) (name : NameText) (at : Option SourceSpan) : Type 0 where
  pub before : List (Node VariableDefinition)
  pub v : Node VariableDefinition
  pub after : List (Node VariableDefinition)
  pub split : o.variables.items ≡ before ++ v ∷ after
  pub is_last : variable_named v.value.value.name after ≡ None
  pub unused : ¬ UsesVariable fragments o v.value.value.name
  pub name_is : name ≡ v.value.value.name
  pub at_is : at ≡ recompose v.location v.value.value.name.location

-- the default of a variable is wrong
pub record VariableDefaultReport (schema : Option Schema) (v : Node VariableDefinition) (r : DiagnosticData) (at : Option SourceSpan) : Type 0 where
  pub against : Schema
  pub value : Node Value
  pub has_schema : schema ≡ Some against
  pub is_default : v.value.value.default_value ≡ Some value
  pub broken : ValueReport against [] (reference_of v.value.value.ty) value r at

-- the diagnostic names what is wrong with the definition of a variable, its directives apart
pub data VariableReport (schema : Option Schema) (v : Node VariableDefinition) : DiagnosticData → Option SourceSpan → Type 0 where
  of_no_input_type : {name : NameText} {ty : Node «Type»} {describe : Bor (List ℕ)} {at : Option SourceSpan} →
      HasNoInputType schema v name ty describe.now at → VariableReport schema v (report.VariableInputType name ty describe) at
  of_undefined_type : {name : NameText} {at : Option SourceSpan} →
      HasUndefinedType schema v name at → VariableReport schema v (report.UndefinedDefinition name) at
  of_default : {r : DiagnosticData} {at : Option SourceSpan} → VariableDefaultReport schema v r at → VariableReport schema v r at

-- the diagnostic names what is wrong with the definitions of variables
pub data VariablesReport (schema : Option Schema) (variables : List (Node VariableDefinition)) : DiagnosticData → Option SourceSpan → Type 0 where
  of_variable_directives : {v : Node VariableDefinition} {r : DiagnosticData} {at : Option SourceSpan} →
      Contains variables v → DirectivesReport schema [] allowed_at.VariableDefinition v.value.value.directives.items r at →
      VariablesReport schema variables r at
  of_variable : {v : Node VariableDefinition} {r : DiagnosticData} {at : Option SourceSpan} →
      Contains variables v → VariableReport schema v r at → VariablesReport schema variables r at
  of_repetition : {name : NameText} {original redefined at : Option SourceSpan} →
      RepeatsVariable variables name original redefined at →
      VariablesReport schema variables (report.UniqueVariable name original redefined) at

-- the diagnostic is of the unused variable of this name
abbrev pub UnusedVariableReport : Fragments → Operation → NameText → DiagnosticData → Option SourceSpan → Type 0
UnusedVariableReport fragments o name (report.UnusedVariable reported) at = SameName reported name × IsUnusedVariable fragments o reported at
UnusedVariableReport fragments o name r at = ⊥

-- the diagnostics are of the unused ones among these names, one for each, in order
pub data AreUnusedReports (fragments : Fragments) (o : Operation) : List NameText → List DiagnosticEntry → Type 0 where
  no_name : AreUnusedReports fragments o [] []
  used_name : {name : NameText} {names : List NameText} {reports : List DiagnosticEntry} →
      UsesVariable fragments o name → AreUnusedReports fragments o names reports → AreUnusedReports fragments o (name ∷ names) reports
  unused_name : {name : NameText} {names : List NameText} {entry : DiagnosticEntry} {reports : List DiagnosticEntry} →
      IsDiagnostic (UnusedVariableReport fragments o name) entry → AreUnusedReports fragments o names reports →
      AreUnusedReports fragments o (name ∷ names) (entry ∷ reports)

-- the variables that the operation defines, each name once, in order of first definition
abbrev pub defined_names : Operation → List NameText
defined_names o = different_names (map (λ v. v.value.value.name) o.variables.items)

-- the operation passes the limit of the walk that seeks the uses of its variables: reported without a
-- place
abbrev pub UsesLimitReport : Fragments → Operation → DiagnosticData → Option SourceSpan → Type 0
UsesLimitReport fragments o report.RecursionError at = (at ≡ None) × PassesDepth fragments full_walk o.selection_set
UsesLimitReport fragments o r at = ⊥

-- the diagnostic names an unused variable, or is that of the limit
abbrev pub UsesReport : Fragments → Operation → DiagnosticData → Option SourceSpan → Type 0
UsesReport fragments o (report.UnusedVariable name) at = IsUnusedVariable fragments o name at
UsesReport fragments o r at = UsesLimitReport fragments o r at

-- the diagnostics are those of each unused variable of the operation, or the one of the limit
pub data AreUsesReports (fragments : Fragments) (o : Operation) : List DiagnosticEntry → Type 0 where
  are_unused : {reports : List DiagnosticEntry} → AreUnusedReports fragments o (defined_names o) reports → AreUsesReports fragments o reports
  is_bound : {entry : DiagnosticEntry} → IsDiagnostic (UsesLimitReport fragments o) entry → AreUsesReports fragments o (entry ∷ [])
