-- The rules of an operation hold whatever fragments there are that it does not reach. Specification: 5 Validation.
use Rattle.std.proofs.Common.{Option}
use Rattle.std.specs.Prelude.{◌↔◌}
use Rattle.graphql_nodes.specs.declared.nodes.Node.{Node}
use Rattle.graphql_documents.specs.Selections.{fragments_of}
use Rattle.graphql_documents.specs.declared.documents.executables.ExecutableDocument.{ExecutableDocument}
use Rattle.graphql_documents.specs.declared.documents.executables.Operation.{Operation}
use Rattle.graphql_documents.specs.declared.documents.schemas.Schema.{Schema}
use Rattle.graphql_specification.specs.Operations.{root_type}
use Rattle.graphql_operation_laws.specs.Agreement.{AgreeFrom}
use Rattle.graphql_operation_laws.specs.OperationRules.{OperationRulesHold}
use Rattle.graphql_operation_laws.proofs.AgreementLemmas.{agree_back}
use Rattle.graphql_operation_laws.proofs.DeferLemmas.{defer_holds}
use Rattle.graphql_operation_laws.proofs.MergingLemmas.{fields_can_merge}
use Rattle.graphql_operation_laws.proofs.PlaceLemmas.{selections_hold}
use Rattle.graphql_operation_laws.proofs.RootLemmas.{root_holds}
use Rattle.graphql_operation_laws.proofs.UsageLemmas.{usages_allowed, uses_defined}
use Rattle.graphql_operation_laws.proofs.UseLemmas.{variables_hold}

pub rules_hold_too : (schema : Option Schema) (d e : ExecutableDocument) (o : Node Operation) →
    AgreeFrom (fragments_of d) (fragments_of e) o.value.value.selection_set → OperationRulesHold schema d o → OperationRulesHold schema e o
rules_hold_too schema d e o agree h =
    let a = fragments_of d in
    let b = fragments_of e in
    let operation = o.value.value in
    record {
      rules = record {
        directives = h.rules.directives;
        variables = variables_hold a b schema operation agree h.rules.variables;
        selections = selections_hold a b schema operation.variables.items (root_type schema operation) operation.selection_set agree h.rules.selections;
      };
      defer = defer_holds a b operation agree h.defer;
      variables = uses_defined a b operation agree h.variables;
      subscription = λ s against is. root_holds a b s operation.selection_set agree (h.subscription s against is);
      merging = λ s against. fields_can_merge a b s operation.selection_set agree (h.merging s against);
      usages = λ s against. usages_allowed s d e operation agree (h.usages s against);
    }

pub rules_hold_alike : (schema : Option Schema) (d e : ExecutableDocument) (o : Node Operation) →
    AgreeFrom (fragments_of d) (fragments_of e) o.value.value.selection_set → OperationRulesHold schema d o ↔ OperationRulesHold schema e o
rules_hold_alike schema d e o agree =
    (rules_hold_too schema d e o agree, rules_hold_too schema e d o (agree_back (fragments_of d) (fragments_of e) agree))
