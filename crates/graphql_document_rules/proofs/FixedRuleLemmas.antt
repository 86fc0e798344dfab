-- Which diagnostics of documents name rules that are never off, and how a document holds by the others.
use Rattle.std.proofs.Common.{◌⊎◌, inl, inr, Some, IsFalse, subst, All}
use Rattle.std.proofs.lemmas.Option.{same_Some}
use Rattle.indexmap.specs.IndexMap.{values}
use Rattle.graphql_diagnostics.specs.declared.details.Details.{Details}
use Rattle.graphql_diagnostics.specs.declared.lists.DiagnosticEntry.{DiagnosticEntry}
use Rattle.graphql_document_rules.specs.DocumentRules.{DocumentRulesHoldBut, FixedRuleReport}
use Rattle.graphql_document_rules.specs.SingleRootField.{OperationRootHolds}
use Rattle.graphql_documents.specs.Executables.{operations_of}
use Rattle.graphql_documents.specs.Selections.{fragments_of}
use Rattle.graphql_documents.specs.declared.documents.executables.ExecutableDocument.{ExecutableDocument}
use Rattle.graphql_documents.specs.declared.documents.schemas.Schema.{Schema}
use Rattle.graphql_nodes.specs.declared.spans.SourceSpan.{SourceSpan}
use Rattle.graphql_specification.specs.Defer.{DeferHolds, DeferLimit, DeferReport, condition_walk_passes, defer_root_walk_passes, label_walk_passes, of_defer}
use Rattle.graphql_specification.specs.Documents.{DocumentLimit}
use Rattle.graphql_specification.specs.FragmentsUsed.{FragmentUseReport, FragmentWalkLimit, IsFragmentUsed, fragment_walk_passes, of_unused}
use Rattle.graphql_specification.specs.Merging.{FieldsCanMerge}
use Rattle.graphql_validation.specs.RuleSets.{IsNeverOff, NamesRuleIn, OperationHoldsBut, RuleSet}
use Rattle.graphql_validation.proofs.LimitLemmas.{limit_is_one}
use Rattle.graphql_validation.proofs.RuleSetLemmas.{limit_is_never_off}
use Rattle.std.specs.Prelude.{Option}

-- unused fragments, if they are not off
use_is_not_off : {document : ExecutableDocument} {d : Details} {at : Option SourceSpan} (off : RuleSet) → IsFalse off.unused_fragments →
    FragmentUseReport document d at → ¬ NamesRuleIn off d
use_is_not_off off on (of_unused unused) is = let h : ⊥ = cc in h

walk_is_not_off : {document : ExecutableDocument} {d : Details} {at : Option SourceSpan} (off : RuleSet) → FragmentWalkLimit document d at → ¬ NamesRuleIn off d
walk_is_not_off off (fragment_walk_passes in' passes) is = is

pub used_fragments_are_not_off : (document : ExecutableDocument) (off : RuleSet) → IsFalse off.unused_fragments → (e : DiagnosticEntry) →
    FragmentUseReport document e.details e.location ⊎ FragmentWalkLimit document e.details e.location → ¬ NamesRuleIn off e.details
used_fragments_are_not_off document off on e (inl says) = use_is_not_off off on says
used_fragments_are_not_off document off on e (inr limit) = walk_is_not_off off limit

-- the rules of `@defer`
defer_never : {document : ExecutableDocument} {d : Details} {at : Option SourceSpan} → DeferReport document d at → IsNeverOff d
defer_never (of_defer says) = tt

defer_limit_never : {document : ExecutableDocument} {d : Details} {at : Option SourceSpan} → DeferLimit document d at → IsNeverOff d
defer_limit_never (label_walk_passes deep) = tt
defer_limit_never (defer_root_walk_passes in' other passes) = tt
defer_limit_never (condition_walk_passes in' is passes) = tt

pub defer_is_never_off : (document : ExecutableDocument) (e : DiagnosticEntry) →
    DeferReport document e.details e.location ⊎ DeferLimit document e.details e.location → IsNeverOff e.details
defer_is_never_off document e (inl says) = defer_never says
defer_is_never_off document e (inr limit) = defer_limit_never limit

-- the rules that need a schema
pub fixed_is_never_off : (schema : Schema) (document : ExecutableDocument) (e : DiagnosticEntry) →
    FixedRuleReport (Some schema) document e ⊎ DocumentLimit (Some schema) document e.details e.location → IsNeverOff e.details
fixed_is_never_off schema document e (inl says) = says.1
fixed_is_never_off schema document e (inr limit) = limit_is_never_off e.details (limit_is_one limit)

-- a document holds by the rules that are not off, if its parts do
pub document_holds_but : (schema : Schema) (document : ExecutableDocument) (off : RuleSet) →
    (All (λ o. OperationHoldsBut off (Some schema) document o.value.value) (operations_of document) ×
    (IsFalse off.unused_fragments → All (λ d. IsFragmentUsed document d.value.value) (values document.fragments)) × DeferHolds document) ×
    (All (λ o. OperationRootHolds schema document o.value.value) (operations_of document) ×
    All (λ o. FieldsCanMerge schema (fragments_of document) o.value.value.selection_set) (operations_of document)) →
    DocumentRulesHoldBut off (Some schema) document
document_holds_but schema document off p = record {
  operations = p.0.0;
  fragments = p.0.1;
  defer = p.0.2;
  subscriptions = λ s is. subst (λ z. All (λ o. OperationRootHolds z document o.value.value) (operations_of document)) (same_Some schema s is) p.1.0;
  merging = λ s is. subst (λ z. All (λ o. FieldsCanMerge z (fragments_of document) o.value.value.selection_set) (operations_of document)) (same_Some schema s is) p.1.1;
}
