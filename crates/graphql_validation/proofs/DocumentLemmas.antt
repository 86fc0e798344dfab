-- What is said of operations, of fragments and of `@defer`, as what is said of the document.
use Rattle.std.proofs.Common.{◌≡◌, ◌⊎◌, inl, inr, Bool, true, false, List, [], ◌∷◌, Option, Some, refl, sym, ◌∙◌, subst, Contains}
use Rattle.std.specs.Map.{lookup, values_of}
use Rattle.std.proofs.lemmas.List.Elements.{Contains-append_left, Contains-append_right, Contains-push}
use Rattle.graphql_documents.specs.Executables.{operations_of}
use Rattle.graphql_specification.specs.Defer as defer
use Rattle.graphql_diagnostics.specs.Diagnostics.{DiagnosticReport}
use Rattle.graphql_specification.specs.Documents.{DocumentReport, of_defer, of_operation, of_subscription, DocumentLimit, fragment_nests, walk_of_conditions, walk_of_labels, walk_of_root, walk_of_variables}
use Rattle.graphql_specification.specs.FragmentsUsed.{FragmentUseReport, FragmentWalkLimit}
use Rattle.graphql_specification.specs.Operations.{OperationsReport, of_one, OperationsLimit, one_passes, spread_passes, variable_walk_passes}
use Rattle.graphql_specification.specs.Defer.{DeferLimit, condition_walk_passes, defer_root_walk_passes, label_walk_passes}
use Rattle.graphql_specification.specs.Fragments.{FragmentLimit, spreads_nest}
use Rattle.graphql_specification.specs.Subscriptions.{SubscriptionLimit, subscription_walk_passes}
use Rattle.graphql_nodes.specs.Names.{NameText, same_name}
use Rattle.graphql_documents.specs.Selections.{fragments_of}
use Rattle.graphql_specification.specs.Subscriptions as subscription
use Rattle.graphql_documents.specs.declared.documents.executables.Fragment.{Fragment}
use Rattle.graphql_nodes.specs.declared.nodes.Node.{Node}
use Rattle.graphql_diagnostics.specs.declared.details.Details.{Details}
use Rattle.graphql_diagnostics.specs.declared.details.Details.TheVariants as details
use Rattle.graphql_diagnostics.specs.declared.lists.DiagnosticEntry.{DiagnosticEntry}
use Rattle.graphql_nodes.specs.declared.operation_types.OperationType.TheVariants as operation
use Rattle.graphql_documents.specs.declared.documents.executables.ExecutableDocument.{ExecutableDocument}
use Rattle.graphql_documents.specs.declared.documents.executables.Operation.{Operation}
use Rattle.graphql_documents.specs.declared.documents.schemas.Schema.{Schema}
use Rattle.graphql_nodes.specs.declared.spans.SourceSpan.{SourceSpan}
use Rattle.graphql_rules.proofs.OperationLemmas.{OperationsEntryReport}
use Rattle.graphql_operations.proofs.UsedFragmentLemmas.{is_document_limit, is_document_report}

-- what a look-up finds is among the values
found_value : (test : NameText → Bool) (es : List (NameText × Node Fragment)) (d : Node Fragment) → lookup test es ≡ Some d → Contains (values_of es) d
found_value test [] d found = absurd (let no' : ⊥ = cc in no')
found_value test (e ∷ es) d found = at_first (test e.0) refl (λ later. found_value test es d later) where
  at_first : (b : Bool) → test e.0 ≡ b → (lookup test es ≡ Some d → Contains (values_of es) d) → Contains (values_of (e ∷ es)) d
  at_first true is later =
      let same : e.1 ≡ d = let f : Some e.1 ≡ Some d = rw is at found in cc in
      subst (Contains (values_of (e ∷ es))) same (Contains-append_left (e.1 ∷ []) (values_of es) e.1 (Contains-push [] e.1))
  at_first false is later = Contains-append_right (e.1 ∷ []) (values_of es) d (later (rw is at found))

module _ (schema : Option Schema) (document : ExecutableDocument) where
  abbrev pub DocumentEntryReport : DiagnosticEntry → Type 0
  DocumentEntryReport e = DocumentReport schema document e.details e.location ⊎ DocumentLimit schema document e.details e.location

  by_details : (d : Details) (at : Option SourceSpan) → DiagnosticReport (OperationsReport schema document) d at → DocumentReport schema document d at
  by_details (details.Diagnostic r) at (of_one in' b) = of_operation in' b
  by_details (details.Build b) at says = absurd says
  by_details (details.RecursionLimit l) at says = absurd says

  of_nesting : (d : Node Fragment) (name : NameText) → fragments_of document name ≡ Some d → {said : Details} {at : Option SourceSpan} →
      FragmentLimit (fragments_of document) d said at → DocumentLimit schema document said at
  of_nesting d name found (spreads_nest nests) = fragment_nests (found_value (same_name name) document.fragments.entries d found) nests

  by_limit : (d : Details) (at : Option SourceSpan) → OperationsLimit document d at → DocumentLimit schema document d at
  by_limit d at (one_passes in' (variable_walk_passes passes)) = walk_of_variables in' passes
  by_limit d at (one_passes in' (spread_passes limit)) = of_nesting limit.d limit.name limit.found limit.passes

  pub of_operations : (e : DiagnosticEntry) → OperationsEntryReport schema document e → DocumentEntryReport e
  of_operations e (inl says) = inl (by_details e.details e.location says)
  of_operations e (inr limit) = inr (by_limit e.details e.location limit)

  pub of_used_fragments : (e : DiagnosticEntry) →
      FragmentUseReport document e.details e.location ⊎ FragmentWalkLimit document e.details e.location → DocumentEntryReport e
  of_used_fragments e (inl unused) = inl (is_document_report unused)
  of_used_fragments e (inr limit) = inr (is_document_limit limit)

  by_defer : {d : Details} {at : Option SourceSpan} → defer.DeferReport document d at → DocumentReport schema document d at
  by_defer (defer.of_defer b) = of_defer b

  by_defer_limit : {d : Details} {at : Option SourceSpan} → DeferLimit document d at → DocumentLimit schema document d at
  by_defer_limit (label_walk_passes passes) = walk_of_labels passes
  by_defer_limit (defer_root_walk_passes in' other passes) = walk_of_root in' other passes
  by_defer_limit (condition_walk_passes in' is passes) = walk_of_conditions in' is passes

  pub of_all_defer : (e : DiagnosticEntry) → defer.DeferReport document e.details e.location ⊎ DeferLimit document e.details e.location → DocumentEntryReport e
  of_all_defer e (inl says) = inl (by_defer says)
  of_all_defer e (inr limit) = inr (by_defer_limit limit)

-- what is said of a subscription, with a schema
module _ (schema : Schema) (document : ExecutableDocument) (o : Node Operation) (in' : Contains (operations_of document) o) where
  by_subscription : {d : Details} {at : Option SourceSpan} → subscription.SubscriptionReport (fragments_of document) o d at → DocumentReport (Some schema) document d at
  by_subscription (subscription.of_subscription is b) = of_subscription refl in' is b

  by_subscription_limit : {d : Details} {at : Option SourceSpan} → SubscriptionLimit (fragments_of document) o.value.value d at → DocumentLimit (Some schema) document d at
  by_subscription_limit (subscription_walk_passes is passes) = walk_of_root in' (λ query. let both : operation.Query ≡ operation.Subscription = sym query ∙ is in let no : ⊥ = cc in no) passes

  pub of_a_subscription : (e : DiagnosticEntry) →
      subscription.SubscriptionReport (fragments_of document) o e.details e.location ⊎ SubscriptionLimit (fragments_of document) o.value.value e.details e.location →
      DocumentEntryReport (Some schema) document e
  of_a_subscription e (inl says) = inl (by_subscription says)
  of_a_subscription e (inr limit) = inr (by_subscription_limit limit)
