-- A document holds against a schema that keeps what an older one had. Specification: 5 Validation.
use Rattle.std.proofs.Common.{List, Some}
use Rattle.std.specs.Prelude.{All, Contains}
use Rattle.std.proofs.lemmas.List.Elements.{All-contains_itself}
use Rattle.graphql_documents.specs.Built.{StandsUnderOwnNames}
use Rattle.graphql_documents.specs.Executables.{operations_of}
use Rattle.graphql_documents.specs.Selections.{fragments_of}
use Rattle.graphql_documents.specs.declared.documents.executables.ExecutableDocument.{ExecutableDocument}
use Rattle.graphql_documents.specs.declared.documents.schemas.Schema.{Schema}
use Rattle.graphql_trees.specs.declared.documents.Document.{Document}
use Rattle.graphql_document_building.specs.BuildingRules.{DocumentBuilds}
use Rattle.graphql_document_building.specs.Documents.{DocumentSays}
use Rattle.graphql_input_rules.specs.InputFields.{InputFieldsAreUnique}
use Rattle.graphql_sameness_laws.proofs.ZipLemmas.{zip_all}
use Rattle.graphql_usage_rules.specs.VariableMisuses.{OperationUsagesAreAllowed, VariableUsagesAreAllowed}
use Rattle.graphql_kept_rules.proofs.KeptScopeLemmas.{operation_usages_still}
use Rattle.graphql_schema_changes.specs.Keeps.{AnyPlaces, KeepsMerging}
use Rattle.graphql_specification.specs.Fragments.{NamesComposite}
use Rattle.graphql_specification.specs.Merging.{FieldsCanMerge}
use Rattle.graphql_specification.specs.Operations.{OperationHolds}
use Rattle.graphql_kept_rules.proofs.KeptMergingLemmas.{fields_merge_still}
use Rattle.graphql_kept_rules.proofs.KeptOperationLemmas.{operation_spot, operations_still}
use Rattle.graphql_kept_rules.proofs.PairedDocumentLemmas.{PairedOperation, fragments_paired, operations_paired}
use Rattle.graphql_kept_rules.proofs.SaidTextLemmas.{said_text}
use Rattle.graphql_kept_rules.proofs.SchemasKeptLemmas.{SchemasKept}

pub each_both : {X : Type 0} (P Q : X → Type 0) (xs : List X) → All P xs → All Q xs → All (λ x. P x × Q x) xs
each_both P Q xs first second i d within = (first i d within, second i d within)

module _ (old new : Schema) (k : SchemasKept old new) (t : Document) (builds : DocumentBuilds (Some old) t) (d e : ExecutableDocument)
    (before : DocumentSays (Some old) t d) (after : DocumentSays (Some new) t e) where
  pub all_operations_still : All (λ o. OperationHolds (Some old) d o.value.value) (operations_of d) → All (λ o. OperationHolds (Some new) e o.value.value) (operations_of e)
  all_operations_still = operations_still old new k d e (said_text old new t d e before after)
      (fragments_paired old new k.keeps t builds d e before after) (operations_paired old new k.keeps t builds d e before after)

  pub all_fields_merge_still : StandsUnderOwnNames new → KeepsMerging old new (NamesComposite old) (AnyPlaces old) →
      All (λ o. OperationHolds (Some old) d o.value.value) (operations_of d) →
      All (λ o. FieldsCanMerge old (fragments_of d) o.value.value.selection_set) (operations_of d) →
      All (λ o. FieldsCanMerge new (fragments_of e) o.value.value.selection_set) (operations_of e)
  all_fields_merge_still names merging hold merge =
      let text = said_text old new t d e before after in
      let fragments = fragments_paired old new k.keeps t builds d e before after in
      zip_all (PairedOperation old new k.keeps)
      (λ o. OperationHolds (Some old) d o.value.value × FieldsCanMerge old (fragments_of d) o.value.value.selection_set)
      (λ o. FieldsCanMerge new (fragments_of e) o.value.value.selection_set)
      (λ o p pair h. fields_merge_still old new k names merging (fragments_of d) (fragments_of e) fragments o.value.value.variables.items
      o.value.value.selection_set p.value.value.selection_set (operation_spot old new k d e text fragments o p pair h.0) h.1)
      _ _ (operations_paired old new k.keeps t builds d e before after)
      (each_both (λ o. OperationHolds (Some old) d o.value.value) (λ o. FieldsCanMerge old (fragments_of d) o.value.value.selection_set) (operations_of d) hold merge)

  pub all_usages_still : InputFieldsAreUnique d → All (λ o. OperationHolds (Some old) d o.value.value) (operations_of d) → VariableUsagesAreAllowed old d →
      VariableUsagesAreAllowed new e
  all_usages_still unique hold allowed =
      let text = said_text old new t d e before after in
      let fragments = fragments_paired old new k.keeps t builds d e before after in
      zip_all (PairedOperation old new k.keeps)
      (λ o. Contains (operations_of d) o × (OperationHolds (Some old) d o.value.value × OperationUsagesAreAllowed old d o.value.value))
      (λ o. OperationUsagesAreAllowed new e o.value.value)
      (λ o p pair h. operation_usages_still old new k d e text fragments unique o p h.0 pair h.1.0 h.1.1)
      _ _ (operations_paired old new k.keeps t builds d e before after)
      (each_both (Contains (operations_of d)) (λ o. OperationHolds (Some old) d o.value.value × OperationUsagesAreAllowed old d o.value.value) (operations_of d)
      (All-contains_itself (operations_of d))
      (each_both (λ o. OperationHolds (Some old) d o.value.value) (λ o. OperationUsagesAreAllowed old d o.value.value) (operations_of d) hold allowed))
