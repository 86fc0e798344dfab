-- The steps of the walk over selections, for contracts.
use Rattle.std.specs.Prelude.{◌≡◌, ◌↔◌, ◌⊎◌, true, List, [], ◌++◌, Option, None, Some, Result, All, MatchResult}
use Rattle.graphql_specification.specs.Arguments.{RequiredArgumentIsProvided}
use Rattle.graphql_diagnostics.specs.Diagnostics.{IsDiagnostic, IsLimitEntry}
use Rattle.graphql_specification.specs.Directives.{ApplicationsHold}
use Rattle.graphql_specification.specs.Fields.{HasDefinition, HasNeededSelection}
use Rattle.graphql_specification.specs.Selections.{ReachableSelectionsHold, SelectionReport}
use Rattle.graphql_specification.specs.Fragments.{FragmentHolds, IsPossibleIn, TargetHolds, FragmentLimit, SpreadLimit, FragmentReport}
use Rattle.graphql_nodes.specs.Names.{NameText}
use Rattle.graphql_diagnostics.specs.Reports.{KeepsReports, ReportsWithin}
use Rattle.graphql_documents.specs.Schemas.{is_composite}
use Rattle.graphql_documents.specs.Selections.{Fragments, Visits, HasVisited, IsSubselectionParent, selections_of, type_under}
use Rattle.graphql_documents.specs.TypeReferences.{inner_named_type}
use Rattle.graphql_diagnostics.specs.declared.data.DiagnosticData.TheVariants as report
use Rattle.graphql_diagnostics.specs.declared.data.DiagnosticData.{DiagnosticData}
use Rattle.graphql_diagnostics.specs.declared.lists.DiagnosticEntry.{DiagnosticEntry}
use Rattle.graphql_nodes.specs.declared.directive_locations.DirectiveLocation.TheVariants as at
use Rattle.graphql_documents.specs.declared.documents.definitions.VariableDefinition.{VariableDefinition}
use Rattle.graphql_documents.specs.declared.documents.definitions.FieldDefinition.{FieldDefinition}
use Rattle.graphql_documents.specs.declared.documents.executables.Field.{Field}
use Rattle.graphql_documents.specs.declared.documents.executables.Fragment.{Fragment}
use Rattle.graphql_documents.specs.declared.documents.executables.FragmentSpread.{FragmentSpread}
use Rattle.graphql_documents.specs.declared.documents.executables.Selection.{Selection}
use Rattle.graphql_nodes.specs.declared.nodes.Node.{Node}
use Rattle.graphql_documents.specs.declared.documents.schemas.ExtendedType.{ExtendedType}
use Rattle.graphql_documents.specs.declared.documents.schemas.Schema.{Schema}
use Rattle.graphql_nodes.specs.declared.spans.SourceSpan.{SourceSpan}
use Rattle.graphql_documents.specs.declared.documents.type_references.Type.{«Type»}
use Rattle.graphql_values.specs.GivenArguments.{GivenArgumentHolds}
use Rattle.graphql_operations.specs.Contexts.{IsAgainst, parent_of}
use Rattle.graphql_rules.specs.declared.operations.fields.SubselectionParent.{SubselectionParent}
use Rattle.graphql_rules.specs.declared.operations.fields.SubselectionParent.TheVariants.{Nowhere, On}

-- a diagnostic names a broken rule at a selection that is reached from these, or a fragment that nests too deep
abbrev pub SelectionEntryReport : Option Schema → Fragments → List (Node VariableDefinition) → Option NameText → List Selection → DiagnosticEntry → Type 0
SelectionEntryReport schema fragments variables parent selections e =
    IsDiagnostic (SelectionReport schema fragments variables parent selections) e ⊎ SpreadLimit fragments e.details e.location

-- a walk over these selections has answered: where no limit is reported, nothing is reported exactly where each
-- selection holds that is reached from them without going through fragments visited before; and it has
-- visited fragments, where nothing is reported into all that are so reached
pub record WalkAnswers (schema : Option Schema) (fragments : Fragments) (variables : List (Node VariableDefinition)) (parent : Option NameText) (selections : List Selection) (visited_fragments further : List NameText) (old new : List DiagnosticEntry) : Type 0 where
  pub reports : ReportsWithin IsLimitEntry (ReachableSelectionsHold schema visited_fragments fragments variables parent selections)
      (SelectionEntryReport schema fragments variables parent selections) old new
  pub goes : Visits schema fragments parent selections visited_fragments further
  pub gone : new ≡ old → HasVisited schema fragments parent selections visited_fragments further

-- it was refused memory: what was reported is true, and what was visited stays so
pub record WalkStops (schema : Option Schema) (fragments : Fragments) (variables : List (Node VariableDefinition)) (parent : Option NameText) (selections : List Selection) (visited_fragments further : List NameText) (old new : List DiagnosticEntry) : Type 0 where
  pub reports : KeepsReports (SelectionEntryReport schema fragments variables parent selections) old new
  pub more : List NameText
  pub grown : further ≡ visited_fragments ++ more

-- what a call says that walks over these selections
abbrev pub Walks : {T E : Type 0} → Result T E → Option Schema → Fragments → List (Node VariableDefinition) → Option NameText → List Selection → List NameText → List NameText → List DiagnosticEntry → List DiagnosticEntry → Type 0
Walks result schema fragments variables parent selections visited_fragments further old new =
    MatchResult result
    (λ _. WalkAnswers schema fragments variables parent selections visited_fragments further old new)
    (λ _. WalkStops schema fragments variables parent selections visited_fragments further old new)

-- where the selections of the field's set are
abbrev pub IsParentOfSubselections : Option Schema → Option NameText → Field → SubselectionParent → Type 0
IsParentOfSubselections schema parent f Nowhere = (below : Option NameText) → IsSubselectionParent schema parent f.name below → selections_of f.selection_set ≡ []
IsParentOfSubselections schema parent f (On against) =
    IsAgainst schema against × ((below : Option NameText) → IsSubselectionParent schema parent f.name below ↔ (parent_of against ≡ below))

-- the field's type is this composite one, and the field selects nothing
pub record IsUnselected (schema : Option Schema) (f : Field) (ty : «Type») (definition : ExtendedType) : Type 0 where
  pub is_defined : HasDefinition schema (inner_named_type ty) definition
  pub composite : is_composite definition ≡ true
  pub empty : selections_of f.selection_set ≡ []

-- the arguments of the field hold by this definition
pub record FieldArgumentsHold (schema : Schema) (variables : List (Node VariableDefinition)) (f : Field) (definition : FieldDefinition) : Type 0 where
  pub given : All (GivenArgumentHolds schema variables definition.arguments.items) f.arguments.items
  pub required : All (RequiredArgumentIsProvided f.arguments.items) definition.arguments.items

-- the field does what this definition asks
pub record DefinedFieldHolds (schema : Schema) (variables : List (Node VariableDefinition)) (f : Field) (definition : FieldDefinition) : Type 0 where
  pub arguments : FieldArgumentsHold schema variables f definition
  pub selection : HasNeededSelection (Some schema) f definition.ty

-- the condition of an inline fragment holds on this type
pub record ConditionHolds (schema : Option Schema) (parent : Option NameText) (condition : NameText) : Type 0 where
  pub target : TargetHolds schema condition
  pub possible : IsPossibleIn schema condition parent

-- a spread holds where it is, its fragment apart
pub record SpreadStands (schema : Option Schema) (fragments : Fragments) (variables : List (Node VariableDefinition)) (parent : Option NameText) (p : FragmentSpread) : Type 0 where
  pub directives : ApplicationsHold schema variables at.FragmentSpread p.directives.items
  pub definition : Node Fragment
  pub defined : fragments p.fragment_name ≡ Some definition
  pub possible : IsPossibleIn schema definition.value.value.selection_set.ty parent

-- the diagnostic says that the spread names no fragment
pub data IsUndefined (p : Node FragmentSpread) : DiagnosticData → Option SourceSpan → Type 0 where
  is_undefined : IsUndefined p (report.UndefinedFragment p.value.value.fragment_name) p.location

-- a diagnostic names what is wrong with a fragment by itself, or at a selection that is reached from it, or a
-- fragment that nests too deep
abbrev pub FragmentEntryReport : Option Schema → Fragments → List (Node VariableDefinition) → Node Fragment → DiagnosticEntry → Type 0
FragmentEntryReport schema fragments variables d e =
    (IsDiagnostic (FragmentReport schema fragments variables d) e ⊎ FragmentLimit fragments d e.details e.location) ⊎
    SelectionEntryReport schema fragments variables (type_under schema None (Some d.value.value.selection_set.ty)) (selections_of d.value.value.selection_set) e

-- what a call has said that walks over the selections of a fragment, after the fragment itself
pub record FragmentWalkAnswers (schema : Option Schema) (fragments : Fragments) (variables : List (Node VariableDefinition)) (d : Node Fragment) (visited_fragments further : List NameText) (old new : List DiagnosticEntry) : Type 0 where
  pub reports : ReportsWithin IsLimitEntry (FragmentHolds schema fragments variables d ×
      ReachableSelectionsHold schema visited_fragments fragments variables (type_under schema None (Some d.value.value.selection_set.ty)) (selections_of d.value.value.selection_set))
      (FragmentEntryReport schema fragments variables d) old new
  pub goes : Visits schema fragments (type_under schema None (Some d.value.value.selection_set.ty)) (selections_of d.value.value.selection_set) visited_fragments further
  pub gone : new ≡ old → HasVisited schema fragments (type_under schema None (Some d.value.value.selection_set.ty)) (selections_of d.value.value.selection_set) visited_fragments further

-- it was refused memory
pub record FragmentWalkStops (schema : Option Schema) (fragments : Fragments) (variables : List (Node VariableDefinition)) (d : Node Fragment) (visited_fragments further : List NameText) (old new : List DiagnosticEntry) : Type 0 where
  pub reports : KeepsReports (FragmentEntryReport schema fragments variables d) old new
  pub more : List NameText
  pub grown : further ≡ visited_fragments ++ more

-- what a call says that walks over a fragment
abbrev pub FragmentWalks : {T E : Type 0} → Result T E → Option Schema → Fragments → List (Node VariableDefinition) → Node Fragment → List NameText → List NameText → List DiagnosticEntry → List DiagnosticEntry → Type 0
FragmentWalks result schema fragments variables d visited_fragments further old new =
    MatchResult result
    (λ _. FragmentWalkAnswers schema fragments variables d visited_fragments further old new)
    (λ _. FragmentWalkStops schema fragments variables d visited_fragments further old new)
