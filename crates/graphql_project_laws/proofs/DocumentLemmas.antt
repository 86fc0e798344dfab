-- Every rule holds of a document exactly if each rule of an operation holds of each of its operations, and those that are asked of the whole document hold.
-- Specification: 5 Validation.
use Rattle.std.proofs.Common.{◌≡◌, Option, None, Some, refl, subst}
use Rattle.std.specs.Prelude.{◌↔◌, All}
use Rattle.indexmap.specs.IndexMap.{values}
use Rattle.graphql_documents.specs.Executables.{operations_of}
use Rattle.graphql_documents.specs.declared.documents.executables.ExecutableDocument.{ExecutableDocument}
use Rattle.graphql_documents.specs.declared.documents.schemas.Schema.{Schema}
use Rattle.graphql_frontend.specs.Documents.{EveryRuleHolds, UsagesAreAllowed}
use Rattle.graphql_input_rules.specs.InputFields.{InputFieldsAreUnique}
use Rattle.graphql_operation_laws.specs.OperationRules.{OperationRulesHold}
use Rattle.graphql_specification.specs.Defer.{LabelsHold}
use Rattle.graphql_specification.specs.FragmentsUsed.{IsFragmentUsed}
use Rattle.graphql_usage_rules.specs.VariableMisuses.{VariableUsagesAreAllowed}

usages_against : (schema : Option Schema) (document : ExecutableDocument) → UsagesAreAllowed schema document →
    (s : Schema) → schema ≡ Some s → VariableUsagesAreAllowed s document
usages_against schema document h s is = subst (λ schema. UsagesAreAllowed schema document) is h

usages_from : (schema : Option Schema) (document : ExecutableDocument) → ((s : Schema) → schema ≡ Some s → VariableUsagesAreAllowed s document) →
    UsagesAreAllowed schema document
usages_from None document h = tt
usages_from (Some s) document h = h s refl

pub holds_by_operations : (schema : Option Schema) (document : ExecutableDocument) → EveryRuleHolds schema document ↔
    (All (OperationRulesHold schema document) (operations_of document) × LabelsHold document ×
    All (λ d. IsFragmentUsed document d.value.value) (values document.fragments) × InputFieldsAreUnique document)
holds_by_operations schema document = (
  λ h. (
    λ k d within. record {
      rules = h.rules.operations k d within;
      defer = h.rules.defer.operations k d within;
      variables = h.variables k d within;
      subscription = λ s is. h.rules.subscriptions s is k d within;
      merging = λ s is. h.rules.merging s is k d within;
      usages = λ s is. usages_against schema document h.usages s is k d within;
    },
    h.rules.defer.labels,
    h.rules.fragments,
    h.input_fields,
  ),
  λ (operations, labels, fragments, input_fields). record {
    rules = record {
      operations = λ k d within. (operations k d within).rules;
      fragments = fragments;
      defer = record { labels = labels; operations = λ k d within. (operations k d within).defer };
      subscriptions = λ s is k d within. (operations k d within).subscription s is;
      merging = λ s is k d within. (operations k d within).merging s is;
    };
    variables = λ k d within. (operations k d within).variables;
    input_fields = input_fields;
    usages = usages_from schema document (λ s is k d within. (operations k d within).usages s is);
  },
)
