-- The root of a subscription holds in documents that are the same. Specification: 5.2.3 Subscription Operation Definitions.
use Rattle.std.proofs.Common.{◌≡◌, ◌∙◌, Option, None, sym, ap, subst, subst₂}
use Rattle.std.specs.Prelude.{All}
use Rattle.graphql_nodes.specs.Names.{SameName}
use Rattle.graphql_documents.specs.Contents.{SameIfAny}
use Rattle.graphql_documents.specs.Executables.{operations_of}
use Rattle.graphql_documents.specs.Selections.{Fragments, InExpandedSet, directives_of, fragments_of}
use Rattle.graphql_documents.specs.declared.documents.executables.ExecutableDocument.{ExecutableDocument}
use Rattle.graphql_documents.specs.declared.documents.executables.Selection.{Selection}
use Rattle.graphql_documents.specs.declared.documents.executables.Selection.TheVariants as kind
use Rattle.graphql_documents.specs.declared.documents.executables.SelectionSet.{SelectionSet}
use Rattle.graphql_documents.specs.declared.documents.schemas.Schema.{Schema}
use Rattle.graphql_specification.specs.CollectFields.{CollectedFrom}
use Rattle.graphql_specification.specs.Subscriptions.{has_condition, is_conditional, is_introspection}
use Rattle.graphql_document_building.specs.SameDocuments.{SameDocument, SameOperation, SameSelection}
use Rattle.graphql_document_building.specs.SameLeaves.{SameDirective}
use Rattle.graphql_building_laws.specs.SameSchemas.{SameSchema}
use Rattle.graphql_document_rules.specs.DocumentRules.{DocumentRulesHold}
use Rattle.graphql_document_rules.specs.SingleRootField.{OperationRootHolds, SubscriptionRootHolds}
use Rattle.graphql_sameness_laws.proofs.DeferLemmas.{defer_holds_too}
use Rattle.graphql_sameness_laws.proofs.DirectiveLemmas.{schemas_back}
use Rattle.graphql_sameness_laws.proofs.DocumentRuleLemmas.{all_fields_merge_too, fragments_used_too, operations_hold_too}
use Rattle.graphql_sameness_laws.proofs.FragmentLemmas.{fragments_back}
use Rattle.graphql_sameness_laws.proofs.MergingLemmas.{collected_too, one_key}
use Rattle.graphql_sameness_laws.proofs.ReachLemmas.{inside_too}
use Rattle.graphql_sameness_laws.proofs.SchemaLookupLemmas.{schema_too}
use Rattle.graphql_sameness_laws.proofs.SchemaSamenessLemmas.{schema_back}
use Rattle.graphql_sameness_laws.proofs.SelectionLemmas.{SameFragments, SameSet, fragments_alike, operation_set, operations_alike, own_directives, same_field_node, set_back}
use Rattle.graphql_sameness_laws.proofs.ZipLemmas.{zip_all, zip_list_any}

both_conditional : (s t : Selection) → SameSelection None s t → has_condition (directives_of s) ≡ has_condition (directives_of t)
both_conditional s t same = zip_list_any SameDirective (λ d. is_conditional d.value.value.name) (λ d. is_conditional d.value.value.name)
    (λ x y p. ap is_conditional p.name) (directives_of s) (directives_of t) (own_directives same)

module _ (a b : Schema) (schemas : SameSchema a b) (before after : Fragments) (alike : SameFragments before after) where
  subscription_root_too : (s t : SelectionSet) → SameSet s t → SubscriptionRootHolds a before s → SubscriptionRootHolds b after t
  subscription_root_too s t same h =
      let back = fragments_back before after alike in
      record {
        no_introspection = λ g inside.
            let found = inside_too after before back t (kind.Field g) inside s (set_back same) in
            let f = same_field_node g found.0 found.2 in
            ap is_introspection f.1.head.name ∙ h.no_introspection f.0 (subst (InExpandedSet before s) f.2 found.1);
        no_condition = λ y inside.
            let found = inside_too after before back t y inside s (set_back same) in
            both_conditional y found.0 found.2 ∙ h.no_condition found.0 found.1;
        one_response_key = λ u v first second.
            let x = collected_too b a (schema_back a b schemas) t.ty after before back first s (set_back same) in
            let y = collected_too b a (schema_back a b schemas) t.ty after before back second s (set_back same) in
            subst₂ SameName (sym (one_key u x.0 x.2)) (sym (one_key v y.0 y.2))
            (h.one_response_key x.0 y.0 (subst (λ n. CollectedFrom a before n s x.0) (sym same.ty) x.1) (subst (λ n. CollectedFrom a before n s y.0) (sym same.ty) y.1));
      }

module _ (a b : Schema) (schemas : SameSchema a b) (d e : ExecutableDocument) (same : SameDocument None d e) where
  roots_too : All (λ o. OperationRootHolds a d o.value.value) (operations_of d) → All (λ o. OperationRootHolds b e o.value.value) (operations_of e)
  roots_too = zip_all (SameOperation None) (λ o. OperationRootHolds a d o.value.value) (λ o. OperationRootHolds b e o.value.value)
      (λ o p q h is. subscription_root_too a b schemas (fragments_of d) (fragments_of e) (fragments_alike d e same)
      o.value.value.selection_set p.value.value.selection_set (operation_set o p q) (h (q.operation_type ∙ is))) _ _ (operations_alike d e same)

pub document_rules_too : (a b : Option Schema) → SameIfAny SameSchema a b → (d e : ExecutableDocument) → SameDocument None d e →
    DocumentRulesHold a d → DocumentRulesHold b e
document_rules_too a b schemas d e same h = record {
  operations = operations_hold_too a b schemas d e same h.operations;
  fragments = fragments_used_too d e same h.fragments;
  defer = defer_holds_too d e same h.defer;
  subscriptions = λ s is.
      let r = schema_too b a s (schemas_back a b schemas) is in
      roots_too r.0 s (schema_back s r.0 r.2) d e same (h.subscriptions r.0 r.1);
  merging = λ s is.
      let r = schema_too b a s (schemas_back a b schemas) is in
      all_fields_merge_too r.0 s (schema_back s r.0 r.2) d e same (h.merging r.0 r.1);
}
