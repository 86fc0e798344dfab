-- Every rule holds of a document against a schema that keeps what an older one had. Specification: 5 Validation.
use Rattle.std.proofs.Common.{◌≡◌, ◌∙◌, Some, refl, subst}
use Rattle.std.specs.Prelude.{All}
use Rattle.std.proofs.lemmas.List.Elements.{All-contains}
use Rattle.graphql_documents.proofs.ListLemmas.{each_standing}
use Rattle.graphql_documents.specs.Executables.{operations_of}
use Rattle.graphql_documents.specs.Selections.{fragments_of}
use Rattle.graphql_documents.specs.declared.documents.executables.ExecutableDocument.{ExecutableDocument}
use Rattle.graphql_documents.specs.declared.documents.schemas.Schema.{Schema}
use Rattle.graphql_trees.specs.declared.documents.Document.{Document}
use Rattle.graphql_document_building.proofs.BuiltLemmas.{document_is_built}
use Rattle.graphql_document_building.specs.BuildingRules.{DocumentBuilds}
use Rattle.graphql_document_building.specs.Documents.{DocumentSays}
use Rattle.graphql_document_building.specs.Trees.{root_name}
use Rattle.graphql_frontend.specs.DocumentRules.{DocumentRulesHold}
use Rattle.graphql_frontend.specs.SingleRootField.{OperationRootHolds}
use Rattle.graphql_frontend.specs.Documents.{EveryRuleHolds}
use Rattle.graphql_frontend.specs.Schemas.{IsAccepted, IsUsable}
use Rattle.graphql_lone_fields.specs.LoneFields.{HasLoneFields}
use Rattle.graphql_lone_fields.proofs.LoneFieldLemmas.{lone_merge}
use Rattle.graphql_sameness_laws.proofs.ZipLemmas.{zip_all}
use Rattle.graphql_kept_rules.specs.Keeps.{KeepsDocumentsValid, KeepsLoneFieldsValid}
use Rattle.graphql_schema_laws.specs.InputFields.{InputObjectsHaveFieldsOfMaps}
use Rattle.graphql_specification.specs.Merging.{FieldsCanMerge}
use Rattle.graphql_specification.specs.Operations.{OperationHolds}
use Rattle.graphql_kept_rules.proofs.AcceptedSchemaLemmas.{input_types}
use Rattle.graphql_kept_rules.proofs.KeptBuildingLemmas.{document_builds_still}
use Rattle.graphql_kept_rules.proofs.KeptDocumentLemmas.{all_fields_merge_still, all_operations_still, all_usages_still, each_both}
use Rattle.graphql_kept_rules.proofs.KeptOperationLemmas.{operation_spot}
use Rattle.graphql_kept_rules.proofs.PairedDocumentLemmas.{PairedOperation, fragments_paired, operations_paired}
use Rattle.graphql_kept_rules.proofs.SaidTextLemmas.{said_text}
use Rattle.graphql_kept_rules.proofs.SchemasKeptLemmas.{SchemasKept}
use Rattle.graphql_kept_rules.proofs.TextDeferLemmas.{defer_holds_too}
use Rattle.graphql_kept_rules.proofs.TextOperationLemmas.{fragments_used_too}
use Rattle.graphql_kept_rules.proofs.TextSelectionLemmas.{fragments_alike, operation_set}
use Rattle.graphql_kept_rules.proofs.TextVariableLemmas.{variable_uses_too}
use Rattle.graphql_kept_rules.proofs.TextWrittenLemmas.{input_fields_unique_too}
use Rattle.graphql_kept_rules.specs.InputTypes.{HasCompositeRoots, HasMetaArgumentTypes}
use Rattle.graphql_change_laws.proofs.SubscriptionLemmas.{subscription_still}

one_schema : (new s : Schema) → Some new ≡ Some s → new ≡ s
one_schema new s e = cc

-- the fields of all operations can merge
abbrev AllMerge : Schema → ExecutableDocument → Type 0
AllMerge schema document = All (λ o. FieldsCanMerge schema (fragments_of document) o.value.value.selection_set) (operations_of document)

module _ (old new : Schema) (k : SchemasKept old new) (t : Document) (builds : DocumentBuilds (Some old) t) (d e : ExecutableDocument)
    (before : DocumentSays (Some old) t d) (after : DocumentSays (Some new) t e) where
  all_roots_still : All (λ o. OperationHolds (Some old) d o.value.value) (operations_of d) →
      All (λ o. OperationRootHolds old d o.value.value) (operations_of d) → All (λ o. OperationRootHolds new e o.value.value) (operations_of e)
  all_roots_still hold roots =
      let text = said_text old new t d e before after in
      let fragments = fragments_paired old new k.keeps t builds d e before after in
      zip_all (PairedOperation old new k.keeps)
      (λ o. OperationHolds (Some old) d o.value.value × OperationRootHolds old d o.value.value)
      (λ o. OperationRootHolds new e o.value.value)
      (λ o p pair h is.
      let was = pair.text.operation_type ∙ is in
      subscription_still old new k (fragments_of d) (fragments_of e) fragments o.value.value.variables.items (fragments_alike d e text)
      o.value.value.selection_set p.value.value.selection_set (subst (λ kind. root_name old kind ≡ Some o.value.value.selection_set.ty) was pair.was_root)
      (operation_spot old new k d e text fragments o p pair h.0) (operation_set o p pair.text) (h.1 was))
      _ _ (operations_paired old new k.keeps t builds d e before after)
      (each_both (λ o. OperationHolds (Some old) d o.value.value) (λ o. OperationRootHolds old d o.value.value) (operations_of d) hold roots)

  rules_still : DocumentRulesHold (Some old) d → AllMerge new e → DocumentRulesHold (Some new) e
  rules_still h merge =
      let text = said_text old new t d e before after in
      record {
        operations = all_operations_still old new k t builds d e before after h.operations;
        fragments = fragments_used_too d e text h.fragments;
        defer = defer_holds_too d e text h.defer;
        subscriptions = λ s is. subst (λ s. All (λ o. OperationRootHolds s e o.value.value) (operations_of e)) (one_schema new s is)
            (all_roots_still h.operations (h.subscriptions old refl));
        merging = λ s is. subst (λ s. AllMerge s e) (one_schema new s is) merge;
      }

  pub every_rule_still : EveryRuleHolds (Some old) d → AllMerge new e → EveryRuleHolds (Some new) e
  every_rule_still h merge =
      let text = said_text old new t d e before after in
      record {
        rules = rules_still h.rules merge;
        variables = variable_uses_too d e text h.variables;
        input_fields = input_fields_unique_too d e text h.input_fields;
        usages = all_usages_still old new k t builds d e before after h.input_fields h.rules.operations h.usages;
      }

schemas_kept : (said old new : Schema) → IsAccepted said old → IsUsable old → HasCompositeRoots old → HasMetaArgumentTypes old → InputObjectsHaveFieldsOfMaps new →
    KeepsLoneFieldsValid old new → SchemasKept old new
schemas_kept said old new accepted usable roots metas unique keeps = record {
  keeps = keeps;
  outputs = usable.output_fields;
  inputs = input_types said old accepted.holds accepted.retains metas;
  roots = roots;
  unique = unique;
}

pub documents_stay_valid : (said old new : Schema) → IsAccepted said old → IsUsable old → HasCompositeRoots old → HasMetaArgumentTypes old →
    IsUsable new → InputObjectsHaveFieldsOfMaps new → KeepsDocumentsValid old new →
    (t : Document) (d : ExecutableDocument) → DocumentBuilds (Some old) t → DocumentSays (Some old) t d → EveryRuleHolds (Some old) d →
    DocumentBuilds (Some new) t × ((e : ExecutableDocument) → DocumentSays (Some new) t e → EveryRuleHolds (Some new) e)
documents_stay_valid said old new accepted usable roots metas sound unique keeps t d builds before h =
    let k = schemas_kept said old new accepted usable roots metas unique keeps.rules in (
      document_builds_still old new keeps.rules t builds,
      λ e after. every_rule_still old new k t builds d e before after h
          (all_fields_merge_still old new k t builds d e before after sound.names keeps.merging h.rules.operations (h.rules.merging old refl)),
    )

pub lone_documents_stay_valid : (said old new : Schema) → IsAccepted said old → IsUsable old → HasCompositeRoots old → HasMetaArgumentTypes old →
    IsUsable new → InputObjectsHaveFieldsOfMaps new → KeepsLoneFieldsValid old new →
    (t : Document) (d : ExecutableDocument) → DocumentBuilds (Some old) t → DocumentSays (Some old) t d → EveryRuleHolds (Some old) d →
    DocumentBuilds (Some new) t × ((e : ExecutableDocument) → DocumentSays (Some new) t e →
    All (λ o. HasLoneFields (fragments_of e) o.value.value.selection_set) (operations_of e) → EveryRuleHolds (Some new) e)
lone_documents_stay_valid said old new accepted usable roots metas sound unique keeps t d builds before h =
    let k = schemas_kept said old new accepted usable roots metas unique keeps in (
      document_builds_still old new keeps t builds,
      λ e after lone. every_rule_still old new k t builds d e before after h
          (each_standing (λ o. FieldsCanMerge new (fragments_of e) o.value.value.selection_set) (operations_of e) (λ o c.
          lone_merge new e (document_is_built new t e after sound.names sound.output_fields) o c
          (All-contains (λ o. HasLoneFields (fragments_of e) o.value.value.selection_set) (operations_of e) o lone c))),
    )
