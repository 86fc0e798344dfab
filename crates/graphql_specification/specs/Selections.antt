-- When all selections hold that are reached, each on its type, and what a diagnostic says of one. Specification: 5.3 Fields, 5.5
-- Fragments.
use Rattle.std.specs.Prelude.{Option, List, ◌≡◌, Some}
use Rattle.graphql_nodes.specs.Names.{NameText}
use Rattle.graphql_documents.specs.Selections.{Fragments, ReachableOn, without}
use Rattle.graphql_specification.specs.Fragments.{InlineFragmentHolds, SpreadHolds, InlineFragmentReport, SpreadReport, FragmentReport}
use Rattle.graphql_specification.specs.Fields.{FieldHolds, FieldReport}
use Rattle.graphql_nodes.specs.declared.nodes.Node.{Node}
use Rattle.graphql_documents.specs.declared.documents.definitions.VariableDefinition.{VariableDefinition}
use Rattle.graphql_documents.specs.declared.documents.schemas.Schema.{Schema}
use Rattle.graphql_documents.specs.declared.documents.executables.Selection.{Selection}
use Rattle.graphql_documents.specs.declared.documents.executables.Field.{Field}
use Rattle.graphql_documents.specs.declared.documents.executables.InlineFragment.{InlineFragment}
use Rattle.graphql_documents.specs.declared.documents.executables.FragmentSpread.{FragmentSpread}
use Rattle.graphql_diagnostics.specs.declared.data.DiagnosticData.{DiagnosticData}
use Rattle.graphql_documents.specs.declared.documents.executables.Fragment.{Fragment}
use Rattle.graphql_nodes.specs.declared.spans.SourceSpan.{SourceSpan}
use Rattle.graphql_documents.specs.declared.documents.executables.Selection.TheVariants as kind

-- every selection reached from these, which are on this type, holds at its place; what is reached through fragments that were visited before is left
-- out. Specification: 5.3 Fields, 5.4 Arguments, 5.5 Fragments
pub record ReachableSelectionsHold (schema : Option Schema) (visited_fragments : List NameText) (fragments : Fragments) (variables : List (Node VariableDefinition)) (parent : Option NameText) (selections : List Selection) : Type 0 where
  pub fields : (f : Node Field) (here : Option NameText) →
      ReachableOn schema (without visited_fragments fragments) parent selections (kind.Field f) here → FieldHolds schema variables here f.value.value
  pub inline_fragments : (i : Node InlineFragment) (here : Option NameText) →
      ReachableOn schema (without visited_fragments fragments) parent selections (kind.InlineFragment i) here → InlineFragmentHolds schema variables here i.value.value
  pub spreads : (p : Node FragmentSpread) (here : Option NameText) →
      ReachableOn schema (without visited_fragments fragments) parent selections (kind.FragmentSpread p) here → SpreadHolds schema visited_fragments fragments variables here p.value.value

-- the diagnostic names a rule that is broken at a selection that is reachable from these, or by the fragment that it spreads
pub data SelectionReport (schema : Option Schema) (fragments : Fragments) (variables : List (Node VariableDefinition)) (parent : Option NameText) (selections : List Selection) : DiagnosticData → Option SourceSpan → Type 0 where
  of_field : (f : Node Field) {here : Option NameText} {r : DiagnosticData} {at : Option SourceSpan} →
      ReachableOn schema fragments parent selections (kind.Field f) here → FieldReport schema variables here f r at →
      SelectionReport schema fragments variables parent selections r at
  of_inline_fragment : (i : Node InlineFragment) {here : Option NameText} {r : DiagnosticData} {at : Option SourceSpan} →
      ReachableOn schema fragments parent selections (kind.InlineFragment i) here → InlineFragmentReport schema variables here i r at →
      SelectionReport schema fragments variables parent selections r at
  of_spread : (p : Node FragmentSpread) {here : Option NameText} {r : DiagnosticData} {at : Option SourceSpan} →
      ReachableOn schema fragments parent selections (kind.FragmentSpread p) here → SpreadReport schema fragments variables here p r at →
      SelectionReport schema fragments variables parent selections r at
  of_fragment : (p : Node FragmentSpread) {d : Node Fragment} {here : Option NameText} {r : DiagnosticData} {at : Option SourceSpan} →
      ReachableOn schema fragments parent selections (kind.FragmentSpread p) here → fragments p.value.value.fragment_name ≡ Some d →
      FragmentReport schema fragments variables d r at →
      SelectionReport schema fragments variables parent selections r at
