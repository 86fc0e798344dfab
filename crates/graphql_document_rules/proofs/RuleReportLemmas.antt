-- What is said of operations, of fragments, of `@defer` and of subscriptions, as what is said of the document.
use Rattle.std.proofs.Common.{◌≡◌, ◌⊎◌, inl, inr, false, Option, Some, refl, sym, ◌∙◌, Contains}
use Rattle.graphql_documents.specs.Executables.{operations_of}
use Rattle.graphql_documents.specs.Selections.{Fragments, fragments_of}
use Rattle.graphql_specification.specs.Defer.{DeferErrorReport, DeferLimit, DeferReport, condition_walk_passes, defer_root_walk_passes, label_walk_passes, of_defer}
use Rattle.graphql_diagnostics.specs.Diagnostics.{DiagnosticReport, IsLimit, IsLimitEntry}
use Rattle.graphql_specification.specs.Documents.{DocumentReport, DocumentLimit, of_merging, walk_of_root}
use Rattle.graphql_specification.specs.Fragments.{FragmentLimit, spreads_nest}
use Rattle.graphql_specification.specs.FragmentsUsed.{FragmentUseReport, FragmentWalkLimit, fragment_walk_passes, of_unused}
use Rattle.graphql_specification.specs.Merging.{Conflict, FieldSelection, MergingReport, Pass, field_pass, of_conflict, shape_pass}
use Rattle.graphql_specification.specs.Operations.{OperationsLimit, OperationsReport, one_passes, spread_passes, variable_walk_passes}
use Rattle.graphql_validation.specs.RuleSets.{IsNeverOff}
use Rattle.graphql_specification.specs.Subscriptions.{SubscriptionLimit, subscription_walk_passes}
use Rattle.graphql_diagnostics.specs.declared.build_errors.BuildError.TheVariants as build
use Rattle.graphql_diagnostics.specs.declared.build_errors.BuildError.{BuildError}
use Rattle.graphql_diagnostics.specs.declared.details.Details.TheVariants as details
use Rattle.graphql_diagnostics.specs.declared.details.Details.{Details}
use Rattle.graphql_diagnostics.specs.declared.lists.DiagnosticEntry.{DiagnosticEntry}
use Rattle.graphql_documents.specs.declared.documents.executables.ExecutableDocument.{ExecutableDocument}
use Rattle.graphql_documents.specs.declared.documents.executables.Operation.{Operation}
use Rattle.graphql_documents.specs.declared.documents.executables.Fragment.{Fragment}
use Rattle.graphql_documents.specs.declared.documents.executables.SelectionSet.{SelectionSet}
use Rattle.graphql_documents.specs.declared.documents.schemas.Schema.{Schema}
use Rattle.graphql_nodes.specs.declared.nodes.Node.{Node}
use Rattle.graphql_nodes.specs.declared.operation_types.OperationType.TheVariants as operation
use Rattle.graphql_nodes.specs.declared.spans.SourceSpan.{SourceSpan}
use Rattle.graphql_validation.proofs.OperationLemmas.{OperationsEntryReport}
use Rattle.graphql_validation.proofs.DocumentLemmas as validation
use Rattle.graphql_validation.proofs.DocumentLemmas.{DocumentEntryReport}
use Rattle.graphql_validation.proofs.LimitLemmas.{limit_is_one, limit_says, report_is_no_limit, says_limit}
use Rattle.graphql_document_rules.specs.DocumentRules.{DocumentRuleReport, FixedRuleReport, counts_root_fields, of_document, of_subscription_root}
use Rattle.graphql_document_rules.specs.RootSteps.{RootEntryReport}
use Rattle.graphql_document_rules.specs.SingleRootField.{SubscriptionRootReport, of_condition, of_introspection, of_response_keys}

-- which diagnostics count no root fields: those of limits, and those of operations, of fragments, of `@defer` and of merging
no_fragment_limit_counts : {fragments : Fragments} {f : Node Fragment} {d : Details} {at : Option SourceSpan} → FragmentLimit fragments f d at → counts_root_fields d ≡ false
no_fragment_limit_counts (spreads_nest nests) = refl

no_operation_limit_counts : {document : ExecutableDocument} {d : Details} {at : Option SourceSpan} → OperationsLimit document d at → counts_root_fields d ≡ false
no_operation_limit_counts (one_passes in' (variable_walk_passes passes)) = refl
no_operation_limit_counts (one_passes in' (spread_passes limit)) = no_fragment_limit_counts limit.passes

no_walk_limit_counts : {document : ExecutableDocument} {d : Details} {at : Option SourceSpan} → FragmentWalkLimit document d at → counts_root_fields d ≡ false
no_walk_limit_counts (fragment_walk_passes stands passes) = refl

no_defer_limit_counts : {document : ExecutableDocument} {d : Details} {at : Option SourceSpan} → DeferLimit document d at → counts_root_fields d ≡ false
no_defer_limit_counts (label_walk_passes passes) = refl
no_defer_limit_counts (defer_root_walk_passes in' other passes) = refl
no_defer_limit_counts (condition_walk_passes in' is passes) = refl

no_operation_counts : (schema : Option Schema) (document : ExecutableDocument) (d : Details) (at : Option SourceSpan) →
    DiagnosticReport (OperationsReport schema document) d at → counts_root_fields d ≡ false
no_operation_counts schema document (details.Diagnostic r) at says = refl
no_operation_counts schema document (details.Build b) at says = absurd says
no_operation_counts schema document (details.RecursionLimit l) at says = refl

no_use_counts : {document : ExecutableDocument} {d : Details} {at : Option SourceSpan} → FragmentUseReport document d at → counts_root_fields d ≡ false
no_use_counts (of_unused unused) = refl

no_defer_counts : (document : ExecutableDocument) (b : BuildError) (at : Option SourceSpan) → DeferErrorReport document b at → counts_root_fields (details.Build b) ≡ false
no_defer_counts document (build.SubscriptionUsesMultipleFields name fields) at says = absurd says
no_defer_counts document b at says = refl

no_deferred_counts : {document : ExecutableDocument} {d : Details} {at : Option SourceSpan} → DeferReport document d at → counts_root_fields d ≡ false
no_deferred_counts {document} (of_defer {e = b} {at = at} says) = no_defer_counts document b at says

no_conflict_counts : (schema : Schema) (pass : Pass) (x y : FieldSelection) (b : BuildError) (at : Option SourceSpan) → Conflict schema pass x y b at →
    counts_root_fields (details.Build b) ≡ false
no_conflict_counts schema field_pass x y (build.SubscriptionUsesMultipleFields name fields) at says = absurd says
no_conflict_counts schema shape_pass x y (build.SubscriptionUsesMultipleFields name fields) at says = absurd says
no_conflict_counts schema pass x y b at says = refl

no_merging_counts : {schema : Schema} {fragments : Fragments} {set : SelectionSet} {d : Details} {at : Option SourceSpan} →
    MergingReport schema fragments set d at → counts_root_fields d ≡ false
no_merging_counts {schema} (of_conflict {e = b} {at = at} broken) = no_conflict_counts schema broken.pass broken.x broken.y b at broken.conflict

module _ (schema : Option Schema) (document : ExecutableDocument) where
  abbrev pub RuleEntryReport : DiagnosticEntry → Type 0
  RuleEntryReport e = DocumentRuleReport schema document e.details e.location ⊎ DocumentLimit schema document e.details e.location

  -- what is said of a document, and counts no root fields
  as_rule : (e : DiagnosticEntry) → counts_root_fields e.details ≡ false → DocumentEntryReport schema document e → RuleEntryReport e
  as_rule e counts (inl says) = inl (of_document counts says)
  as_rule e counts (inr limit) = inr limit

  pub of_operations : (e : DiagnosticEntry) → OperationsEntryReport schema document e → RuleEntryReport e
  of_operations e (inl says) = as_rule e (no_operation_counts schema document e.details e.location says) (validation.of_operations schema document e (inl says))
  of_operations e (inr limit) = as_rule e (no_operation_limit_counts limit) (validation.of_operations schema document e (inr limit))

  pub of_used_fragments : (e : DiagnosticEntry) →
      FragmentUseReport document e.details e.location ⊎ FragmentWalkLimit document e.details e.location → RuleEntryReport e
  of_used_fragments e (inl unused) = as_rule e (no_use_counts unused) (validation.of_used_fragments schema document e (inl unused))
  of_used_fragments e (inr limit) = as_rule e (no_walk_limit_counts limit) (validation.of_used_fragments schema document e (inr limit))

  pub of_all_defer : (e : DiagnosticEntry) → DeferReport document e.details e.location ⊎ DeferLimit document e.details e.location → RuleEntryReport e
  of_all_defer e (inl says) = as_rule e (no_deferred_counts says) (validation.of_all_defer schema document e (inl says))
  of_all_defer e (inr limit) = as_rule e (no_defer_limit_counts limit) (validation.of_all_defer schema document e (inr limit))

-- what is said of subscriptions and of merging names no rule that may be off
root_never : {schema : Schema} {fragments : Fragments} {o : Node Operation} {d : Details} {at : Option SourceSpan} → SubscriptionRootReport schema fragments o d at → IsNeverOff d
root_never (of_introspection is says) = tt
root_never (of_condition is says) = tt
root_never (of_response_keys is says) = tt

merging_never : {schema : Schema} {fragments : Fragments} {set : SelectionSet} {d : Details} {at : Option SourceSpan} → MergingReport schema fragments set d at → IsNeverOff d
merging_never (of_conflict broken) = tt

abbrev pub FixedEntryReport : Schema → ExecutableDocument → DiagnosticEntry → Type 0
FixedEntryReport schema document e = FixedRuleReport (Some schema) document e ⊎ DocumentLimit (Some schema) document e.details e.location

pub rule_of_fixed : (schema : Schema) (document : ExecutableDocument) (e : DiagnosticEntry) → FixedEntryReport schema document e → RuleEntryReport (Some schema) document e
rule_of_fixed schema document e (inl says) = inl says.0
rule_of_fixed schema document e (inr limit) = inr limit

-- what is said of merging, with a schema
module _ (schema : Schema) (document : ExecutableDocument) (o : Node Operation) (in' : Contains (operations_of document) o) where
  by_merging : {d : Details} {at : Option SourceSpan} → MergingReport schema (fragments_of document) o.value.value.selection_set d at → DocumentReport (Some schema) document d at
  by_merging (of_conflict broken) = of_merging refl in' broken

  pub of_merging_rule : (e : DiagnosticEntry) → MergingReport schema (fragments_of document) o.value.value.selection_set e.details e.location → FixedEntryReport schema document e
  of_merging_rule e says = inl (of_document (no_merging_counts says) (by_merging says), merging_never says)

  -- what is said of a subscription
  by_subscription_limit : {d : Details} {at : Option SourceSpan} → SubscriptionLimit (fragments_of document) o.value.value d at → DocumentLimit (Some schema) document d at
  by_subscription_limit (subscription_walk_passes is passes) =
      walk_of_root in' (λ query. let both : operation.Query ≡ operation.Subscription = sym query ∙ is in let no : ⊥ = cc in no) passes

  pub of_a_root : (e : DiagnosticEntry) → RootEntryReport schema (fragments_of document) o e → FixedEntryReport schema document e
  of_a_root e (inl says) = inl (of_subscription_root refl in' says, root_never says)
  of_a_root e (inr limit) = inr (by_subscription_limit limit)

-- no report of a root says that a limit is passed
no_root_says : {schema : Schema} {fragments : Fragments} {o : Node Operation} {d : Details} {at : Option SourceSpan} → SubscriptionRootReport schema fragments o d at → says_limit d ≡ false
no_root_says (of_introspection is says) = refl
no_root_says (of_condition is says) = refl
no_root_says (of_response_keys is says) = refl

rule_is_no_limit : {schema : Option Schema} {document : ExecutableDocument} {d : Details} {at : Option SourceSpan} → DocumentRuleReport schema document d at → ¬ IsLimit d
rule_is_no_limit (of_document counts says) limit = report_is_no_limit says limit
rule_is_no_limit (of_subscription_root {d = d} is in' says) limit =
    let is_one = limit_says d limit in
    let is_none = no_root_says says in
    let no' : ⊥ = cc in no'

-- what is true of an entry, where it is no limit, and where it is one
module _ (schema : Option Schema) (document : ExecutableDocument) where
  pub rule_unless_limit : (e : DiagnosticEntry) → RuleEntryReport schema document e → ¬ IsLimitEntry e → DocumentRuleReport schema document e.details e.location
  rule_unless_limit e (inl says) no' = says
  rule_unless_limit e (inr limit) no' = absurd (no' (limit_is_one limit))

  pub limit_if_one : (e : DiagnosticEntry) → RuleEntryReport schema document e → IsLimitEntry e → DocumentLimit schema document e.details e.location
  limit_if_one e (inl says) is = absurd (rule_is_no_limit says is)
  limit_if_one e (inr limit) is = limit
