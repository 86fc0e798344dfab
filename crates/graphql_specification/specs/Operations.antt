-- When an operation holds, and what a diagnostic says of it. Specification: 5.2 Operations.
use Rattle.std.specs.Prelude.{Option, option_map, [], Contains, None}
use Rattle.std.specs.Option.{option_and_then}
use Rattle.graphql_nodes.specs.Names.{NameText}
use Rattle.graphql_documents.specs.Schemas.{root_operation}
use Rattle.graphql_specification.specs.Directives.{ApplicationsHold, DirectivesReport}
use Rattle.graphql_documents.specs.Selections.{fragments_of, selections_of}
use Rattle.graphql_specification.specs.Selections.{ReachableSelectionsHold, SelectionReport}
use Rattle.graphql_specification.specs.Variables.{VariablesHold, IsUnusedVariable, VariablesReport}
use Rattle.graphql_documents.specs.Executables.{operations_of}
use Rattle.graphql_documents.specs.Walks.{PassesDepth, full_walk}
use Rattle.graphql_specification.specs.Fragments.{SpreadLimit}
use Rattle.graphql_nodes.specs.declared.operation_types.OperationType.{OperationType}
use Rattle.graphql_nodes.specs.declared.operation_types.OperationType.TheVariants.{Query, Mutation, Subscription}
use Rattle.graphql_nodes.specs.declared.directive_locations.DirectiveLocation.{DirectiveLocation}
use Rattle.graphql_documents.specs.declared.documents.schemas.Schema.{Schema}
use Rattle.graphql_documents.specs.declared.documents.executables.Operation.{Operation}
use Rattle.graphql_documents.specs.declared.documents.executables.ExecutableDocument.{ExecutableDocument}
use Rattle.graphql_diagnostics.specs.declared.data.DiagnosticData.{DiagnosticData}
use Rattle.graphql_nodes.specs.declared.spans.SourceSpan.{SourceSpan}
use Rattle.graphql_nodes.specs.declared.nodes.Node.{Node}
use Rattle.graphql_diagnostics.specs.declared.details.Details.{Details}
use Rattle.graphql_nodes.specs.declared.directive_locations.DirectiveLocation.TheVariants as at
use Rattle.graphql_diagnostics.specs.declared.data.DiagnosticData.TheVariants as report
use Rattle.graphql_diagnostics.specs.declared.details.Details.TheVariants as details

-- where the directives of an operation are. Specification: 3.13 Directives, ExecutableDirectiveLocation
abbrev pub operation_location : OperationType → DirectiveLocation
operation_location Query = at.Query
operation_location Mutation = at.Mutation
operation_location Subscription = at.Subscription

-- the type on which the selections of an operation are: none without a schema, or without that root
abbrev pub root_type : Option Schema → Operation → Option NameText
root_type schema o =
    option_and_then (λ s. option_map (λ root. root.name) (root_operation s.schema_definition.value.value o.operation_type)) schema

-- an operation holds, merging and the rules of subscriptions apart: its directives do, its variables, and
-- every selection that it reaches
pub record OperationHolds (schema : Option Schema) (document : ExecutableDocument) (o : Operation) : Type 0 where
  pub directives : ApplicationsHold schema o.variables.items (operation_location o.operation_type) o.directives.items
  pub variables : VariablesHold schema (fragments_of document) o
  pub selections : ReachableSelectionsHold schema [] (fragments_of document) o.variables.items (root_type schema o) (selections_of o.selection_set)

-- the diagnostic names a rule that an operation breaks, those of subscriptions, `@defer` and merging apart
pub data OperationReport (schema : Option Schema) (document : ExecutableDocument) (o : Operation) : DiagnosticData → Option SourceSpan → Type 0 where
  of_directives : {r : DiagnosticData} {at : Option SourceSpan} →
      DirectivesReport schema o.variables.items (operation_location o.operation_type) o.directives.items r at →
      OperationReport schema document o r at
  of_variables : {r : DiagnosticData} {at : Option SourceSpan} →
      VariablesReport schema o.variables.items r at → OperationReport schema document o r at
  of_unused_variable : {name : NameText} {at : Option SourceSpan} →
      IsUnusedVariable (fragments_of document) o name at → OperationReport schema document o (report.UnusedVariable name) at
  of_selection : {r : DiagnosticData} {at : Option SourceSpan} →
      SelectionReport schema (fragments_of document) o.variables.items (root_type schema o) (selections_of o.selection_set) r at →
      OperationReport schema document o r at

-- the diagnostic names a rule that one of the operations of the document breaks
pub data OperationsReport (schema : Option Schema) (document : ExecutableDocument) : DiagnosticData → Option SourceSpan → Type 0 where
  of_one : {o : Node Operation} {r : DiagnosticData} {at : Option SourceSpan} →
      Contains (operations_of document) o → OperationReport schema document o.value.value r at → OperationsReport schema document r at

-- a diagnostic of a limit is true of an operation: of the walk that seeks the uses of its variables, reported without
-- a place, or of a fragment
pub data OperationLimit (document : ExecutableDocument) (o : Operation) : Details → Option SourceSpan → Type 0 where
  variable_walk_passes : PassesDepth (fragments_of document) full_walk o.selection_set →
      OperationLimit document o (details.Diagnostic report.RecursionError) None
  spread_passes : {said : Details} {at : Option SourceSpan} →
      SpreadLimit (fragments_of document) said at → OperationLimit document o said at

-- the same of one of the operations of a document
pub data OperationsLimit (document : ExecutableDocument) : Details → Option SourceSpan → Type 0 where
  one_passes : {o : Node Operation} {said : Details} {at : Option SourceSpan} →
      Contains (operations_of document) o → OperationLimit document o.value.value said at → OperationsLimit document said at
