-- The rules of documents that are asked of one operation. Specification: 5 Validation.
use Rattle.std.specs.Prelude.{◌≡◌, Option, Some}
use Rattle.graphql_nodes.specs.declared.nodes.Node.{Node}
use Rattle.graphql_documents.specs.Selections.{fragments_of}
use Rattle.graphql_documents.specs.declared.documents.executables.ExecutableDocument.{ExecutableDocument}
use Rattle.graphql_documents.specs.declared.documents.executables.Operation.{Operation}
use Rattle.graphql_documents.specs.declared.documents.schemas.Schema.{Schema}
use Rattle.graphql_document_rules.specs.SingleRootField.{OperationRootHolds}
use Rattle.graphql_specification.specs.Defer.{OperationDeferHolds}
use Rattle.graphql_specification.specs.Merging.{FieldsCanMerge}
use Rattle.graphql_specification.specs.Operations.{OperationHolds}
use Rattle.graphql_usage_rules.specs.UndefinedVariables.{UsedVariablesAreDefined}
use Rattle.graphql_usage_rules.specs.VariableMisuses.{OperationUsagesAreAllowed}

-- each rule that is asked of one operation holds of this one, with the fragments of the document; without a schema, each that needs none
pub record OperationRulesHold (schema : Option Schema) (document : ExecutableDocument) (o : Node Operation) : Type 0 where
  pub rules : OperationHolds schema document o.value.value
  pub defer : OperationDeferHolds (fragments_of document) o.value.value
  pub variables : UsedVariablesAreDefined (fragments_of document) o.value.value
  pub subscription : (s : Schema) → schema ≡ Some s → OperationRootHolds s document o.value.value
  pub merging : (s : Schema) → schema ≡ Some s → FieldsCanMerge s (fragments_of document) o.value.value.selection_set
  pub usages : (s : Schema) → schema ≡ Some s → OperationUsagesAreAllowed s document o.value.value
