-- When an executable document holds, and what a diagnostic says of one. Specification: 5 Validation.
use Rattle.std.specs.Prelude.{◌≡◌, Option, Some, All, Contains, ◌≢◌, ℕ, List, ◌∷◌, ◌++◌, None}
use Rattle.std.specs.Borrow.{Bor}
use Rattle.indexmap.specs.IndexMap.{values}
use Rattle.graphql_documents.specs.Selections.{fragments_of}
use Rattle.graphql_specification.specs.Defer.{DeferHolds, DeferErrorReport, LabelsStandTooDeep}
use Rattle.graphql_documents.specs.Executables.{operations_of}
use Rattle.graphql_specification.specs.Merging.{FieldsCanMerge, MergingErrorReport}
use Rattle.graphql_nodes.specs.Names.{NameText}
use Rattle.graphql_specification.specs.Subscriptions.{SubscriptionErrorReport, OperationSubscriptionHolds}
use Rattle.graphql_documents.specs.Walks.{PassesDepth, full_walk, open_walk, root_walk}
use Rattle.graphql_specification.specs.Operations.{OperationHolds, OperationReport}
use Rattle.graphql_specification.specs.FragmentsUsed.{IsFragmentUsed, IsUnusedFragment}
use Rattle.graphql_specification.specs.Fragments.{FragmentNestsTooDeep}
use Rattle.graphql_specification.specs.MergedSets.{MergingNestsTooDeep}
use Rattle.graphql_documents.specs.declared.documents.schemas.Schema.{Schema}
use Rattle.graphql_documents.specs.declared.documents.executables.ExecutableDocument.{ExecutableDocument}
use Rattle.graphql_diagnostics.specs.declared.build_errors.BuildError.{BuildError}
use Rattle.graphql_diagnostics.specs.declared.data.DiagnosticData.{DiagnosticData}
use Rattle.graphql_diagnostics.specs.declared.details.Details.{Details}
use Rattle.graphql_documents.specs.declared.documents.executables.Operation.{Operation}
use Rattle.graphql_nodes.specs.declared.nodes.Node.{Node}
use Rattle.graphql_nodes.specs.declared.spans.SourceSpan.{SourceSpan}
use Rattle.graphql_nodes.specs.declared.errors.RecursionLimitError.{RecursionLimitError}
use Rattle.graphql_documents.specs.declared.documents.executables.Fragment.{Fragment}
use Rattle.graphql_diagnostics.specs.declared.details.Details.TheVariants as details
use Rattle.graphql_diagnostics.specs.declared.data.DiagnosticData.TheVariants as report
use Rattle.graphql_nodes.specs.declared.operation_types.OperationType.TheVariants as operation

-- every written rule holds for the document, and at each place reached; without a schema, every rule
-- that needs none
pub record DocumentHolds (schema : Option Schema) (document : ExecutableDocument) : Type 0 where
  pub operations : All (λ o. OperationHolds schema document o.value.value) (operations_of document)
  pub fragments : All (λ d. IsFragmentUsed document d.value.value) (values document.fragments)
  pub defer : DeferHolds document
  pub subscriptions : (s : Schema) → schema ≡ Some s → All (λ o. OperationSubscriptionHolds document o.value.value) (operations_of document)
  pub merging : (s : Schema) → schema ≡ Some s → All (λ o. FieldsCanMerge s (fragments_of document) o.value.value.selection_set) (operations_of document)

-- the diagnostic names a rule that the document breaks
pub data DocumentReport (schema : Option Schema) (document : ExecutableDocument) : Details → Option SourceSpan → Type 0 where
  of_operation : {o : Node Operation} {r : DiagnosticData} {at : Option SourceSpan} →
      Contains (operations_of document) o → OperationReport schema document o.value.value r at →
      DocumentReport schema document (details.Diagnostic r) at
  of_unused_fragment : {name : NameText} {at : Option SourceSpan} →
      IsUnusedFragment document name at → DocumentReport schema document (details.Diagnostic (report.UnusedFragment name)) at
  of_defer : {e : BuildError} {at : Option SourceSpan} →
      DeferErrorReport document e at → DocumentReport schema document (details.Build e) at
  of_subscription : {s : Schema} {o : Node Operation} {e : BuildError} {at : Option SourceSpan} →
      schema ≡ Some s → Contains (operations_of document) o → o.value.value.operation_type ≡ operation.Subscription →
      SubscriptionErrorReport (fragments_of document) o e at → DocumentReport schema document (details.Build e) at
  of_merging : {s : Schema} {o : Node Operation} {e : BuildError} {at : Option SourceSpan} →
      schema ≡ Some s → Contains (operations_of document) o →
      MergingErrorReport s (fragments_of document) o.value.value.selection_set e at →
      DocumentReport schema document (details.Build e) at

-- a diagnostic of a limit is true of a document: reported without a place, but for merging
pub data DocumentLimit (schema : Option Schema) (document : ExecutableDocument) : Details → Option SourceSpan → Type 0 where
  fragment_nests : {d : Node Fragment} {name : NameText} {describe : Bor (List ℕ)} {at : Option SourceSpan} →
      Contains (values document.fragments) d → FragmentNestsTooDeep (fragments_of document) d name describe.now at →
      DocumentLimit schema document (details.Diagnostic (report.DeeplyNestedType name describe)) at
  walk_of_variables : {o : Node Operation} →
      Contains (operations_of document) o → PassesDepth (fragments_of document) full_walk o.value.value.selection_set →
      DocumentLimit schema document (details.Diagnostic report.RecursionError) None
  walk_of_root : {o : Node Operation} →
      Contains (operations_of document) o → o.value.value.operation_type ≢ operation.Query →
      PassesDepth (fragments_of document) root_walk o.value.value.selection_set →
      DocumentLimit schema document (details.Diagnostic report.RecursionError) None
  walk_of_labels : LabelsStandTooDeep document →
      DocumentLimit schema document (details.Diagnostic report.RecursionError) None
  walk_of_conditions : {o : Node Operation} →
      Contains (operations_of document) o → o.value.value.operation_type ≡ operation.Subscription →
      PassesDepth (fragments_of document) open_walk o.value.value.selection_set →
      DocumentLimit schema document (details.Diagnostic report.RecursionError) None
  walk_of_fragments : {o : Node Operation} {limit : RecursionLimitError} →
      Contains (operations_of document) o → PassesDepth (fragments_of document) full_walk o.value.value.selection_set →
      DocumentLimit schema document (details.RecursionLimit limit) None
  merging_limit : {s : Schema} {before : List (Node Operation)} (after : List (Node Operation)) {o : Node Operation} {limit : RecursionLimitError} {at : Option SourceSpan} →
      schema ≡ Some s → operations_of document ≡ before ++ o ∷ after →
      MergingNestsTooDeep s (fragments_of document) before o at →
      DocumentLimit schema document (details.RecursionLimit limit) at
