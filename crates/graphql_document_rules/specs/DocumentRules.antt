-- When an executable document holds by the rules of validation, if a subscription may have several fields of one response key at its root,
-- and what a diagnostic says of it. Specification: 5 Validation; 5.2.3.1 Single Root Field.
use Rattle.std.specs.Prelude.{◌≡◌, Option, Some, All, Bool, Contains, IsFalse, true, false}
use Rattle.indexmap.specs.IndexMap.{values}
use Rattle.graphql_documents.specs.Executables.{operations_of}
use Rattle.graphql_documents.specs.Selections.{fragments_of}
use Rattle.graphql_specification.specs.Defer.{DeferHolds}
use Rattle.graphql_specification.specs.Documents.{DocumentReport}
use Rattle.graphql_specification.specs.FragmentsUsed.{IsFragmentUsed}
use Rattle.graphql_specification.specs.Merging.{FieldsCanMerge}
use Rattle.graphql_specification.specs.Operations.{OperationHolds}
use Rattle.graphql_validation.specs.RuleSets.{IsNeverOff, OperationHoldsBut, RuleSet}
use Rattle.graphql_documents.specs.declared.documents.executables.ExecutableDocument.{ExecutableDocument}
use Rattle.graphql_documents.specs.declared.documents.executables.Operation.{Operation}
use Rattle.graphql_documents.specs.declared.documents.schemas.Schema.{Schema}
use Rattle.graphql_nodes.specs.declared.nodes.Node.{Node}
use Rattle.graphql_nodes.specs.declared.spans.SourceSpan.{SourceSpan}
use Rattle.graphql_diagnostics.specs.declared.build_errors.BuildError.TheVariants as build
use Rattle.graphql_diagnostics.specs.declared.details.Details.TheVariants as details
use Rattle.graphql_diagnostics.specs.declared.details.Details.{Details}
use Rattle.graphql_diagnostics.specs.declared.lists.DiagnosticEntry.{DiagnosticEntry}
use Rattle.graphql_document_rules.specs.SingleRootField.{OperationRootHolds, SubscriptionRootReport}

-- every rule holds for the document, at each place that is reached; without a schema, every rule that needs none
pub record DocumentRulesHold (schema : Option Schema) (document : ExecutableDocument) : Type 0 where
  pub operations : All (λ o. OperationHolds schema document o.value.value) (operations_of document)
  pub fragments : All (λ d. IsFragmentUsed document d.value.value) (values document.fragments)
  pub defer : DeferHolds document
  pub subscriptions : (s : Schema) → schema ≡ Some s → All (λ o. OperationRootHolds s document o.value.value) (operations_of document)
  pub merging : (s : Schema) → schema ≡ Some s → All (λ o. FieldsCanMerge s (fragments_of document) o.value.value.selection_set) (operations_of document)

-- the same, except for rules that are off
pub record DocumentRulesHoldBut (off : RuleSet) (schema : Option Schema) (document : ExecutableDocument) : Type 0 where
  pub operations : All (λ o. OperationHoldsBut off schema document o.value.value) (operations_of document)
  pub fragments : IsFalse off.unused_fragments → All (λ d. IsFragmentUsed document d.value.value) (values document.fragments)
  pub defer : DeferHolds document
  pub subscriptions : (s : Schema) → schema ≡ Some s → All (λ o. OperationRootHolds s document o.value.value) (operations_of document)
  pub merging : (s : Schema) → schema ≡ Some s → All (λ o. FieldsCanMerge s (fragments_of document) o.value.value.selection_set) (operations_of document)

-- the diagnostic says that a subscription has several root fields
abbrev pub counts_root_fields : Details → Bool
counts_root_fields (details.Build (build.SubscriptionUsesMultipleFields name fields)) = true
counts_root_fields _ = false

-- the diagnostic names a rule that the document breaks: one that counts root fields is of the response keys of a subscription
pub data DocumentRuleReport (schema : Option Schema) (document : ExecutableDocument) : Details → Option SourceSpan → Type 0 where
  of_document : {d : Details} {at : Option SourceSpan} →
      IsFalse (counts_root_fields d) → DocumentReport schema document d at → DocumentRuleReport schema document d at
  of_subscription_root : {s : Schema} {o : Node Operation} {d : Details} {at : Option SourceSpan} →
      schema ≡ Some s → Contains (operations_of document) o → SubscriptionRootReport s (fragments_of document) o d at →
      DocumentRuleReport schema document d at

-- the same of an entry; and the rule is never off
abbrev pub FixedRuleReport : Option Schema → ExecutableDocument → DiagnosticEntry → Type 0
FixedRuleReport schema document e = DocumentRuleReport schema document e.details e.location × IsNeverOff e.details
