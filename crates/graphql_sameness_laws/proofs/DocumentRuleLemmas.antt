-- The rules of documents hold of documents that are the same. Specification: 5 Validation.
use Rattle.std.proofs.Common.{Option, None}
use Rattle.std.specs.Prelude.{All}
use Rattle.indexmap.specs.IndexMap.{values}
use Rattle.graphql_documents.specs.Contents.{SameIfAny}
use Rattle.graphql_documents.specs.Executables.{operations_of}
use Rattle.graphql_documents.specs.Selections.{fragments_of}
use Rattle.graphql_documents.specs.declared.documents.executables.ExecutableDocument.{ExecutableDocument}
use Rattle.graphql_documents.specs.declared.documents.schemas.Schema.{Schema}
use Rattle.graphql_specification.specs.FragmentsUsed.{IsFragmentUsed}
use Rattle.graphql_specification.specs.Merging.{FieldsCanMerge}
use Rattle.graphql_specification.specs.Operations.{OperationHolds}
use Rattle.graphql_document_building.specs.SameDocuments.{SameDocument, SameFragment, SameOperation}
use Rattle.graphql_building_laws.specs.SameSchemas.{SameSchema}
use Rattle.graphql_sameness_laws.proofs.MergingLemmas.{fields_merge_too}
use Rattle.graphql_sameness_laws.proofs.OperationLemmas.{fragment_used_too, operation_holds_too}
use Rattle.graphql_sameness_laws.proofs.SelectionLemmas.{fragment_definitions_alike, fragments_alike, operation_set, operations_alike}
use Rattle.graphql_sameness_laws.proofs.ZipLemmas.{zip_all}

pub operations_hold_too : (a b : Option Schema) → SameIfAny SameSchema a b → (d e : ExecutableDocument) → SameDocument None d e →
    All (λ o. OperationHolds a d o.value.value) (operations_of d) → All (λ o. OperationHolds b e o.value.value) (operations_of e)
operations_hold_too a b schemas d e same =
    zip_all (SameOperation None) (λ o. OperationHolds a d o.value.value) (λ o. OperationHolds b e o.value.value)
    (operation_holds_too a b schemas d e same) _ _ (operations_alike d e same)

pub fragments_used_too : (d e : ExecutableDocument) → SameDocument None d e →
    All (λ f. IsFragmentUsed d f.value.value) (values d.fragments) → All (λ f. IsFragmentUsed e f.value.value) (values e.fragments)
fragments_used_too d e same =
    zip_all (SameFragment None) (λ f. IsFragmentUsed d f.value.value) (λ f. IsFragmentUsed e f.value.value)
    (fragment_used_too d e same) _ _ (fragment_definitions_alike d e same)

pub all_fields_merge_too : (a b : Schema) → SameSchema a b → (d e : ExecutableDocument) → SameDocument None d e →
    All (λ o. FieldsCanMerge a (fragments_of d) o.value.value.selection_set) (operations_of d) →
    All (λ o. FieldsCanMerge b (fragments_of e) o.value.value.selection_set) (operations_of e)
all_fields_merge_too a b schemas d e same =
    zip_all (SameOperation None)
    (λ o. FieldsCanMerge a (fragments_of d) o.value.value.selection_set) (λ o. FieldsCanMerge b (fragments_of e) o.value.value.selection_set)
    (λ o p alike merges. fields_merge_too a b schemas (fragments_of d) (fragments_of e) (fragments_alike d e same)
    o.value.value.selection_set p.value.value.selection_set (operation_set o p alike) merges) _ _ (operations_alike d e same)
