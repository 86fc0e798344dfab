-- From every rule to those that are not off, and back if none is off.
use Rattle.std.proofs.Common.{◌↔◌, ◌⊎◌, Option, None, Some, refl}
use Rattle.std.specs.Prelude.{IfSome, ℕ}
use Rattle.std.proofs.lemmas.List.Elements.{All-weaker}
use Rattle.graphql_diagnostics.specs.declared.lists.DiagnosticEntry.{DiagnosticEntry}
use Rattle.graphql_document_rules.proofs.FixedRuleLemmas.{defer_is_never_off}
use Rattle.graphql_document_rules.proofs.RuleSetLemmas.{is_not_off}
use Rattle.graphql_document_rules.specs.Defer.{DeferLimit, DeferReport}
use Rattle.graphql_document_rules.specs.DocumentRules.{DocumentRulesHold, DocumentRulesHoldBut}
use Rattle.graphql_document_rules.specs.RuleSets.{NamesRuleIn, OperationHoldsBut, RuleSet, nothing_off}
use Rattle.graphql_documents.specs.Executables.{operations_of}
use Rattle.graphql_documents.specs.declared.documents.executables.ExecutableDocument.{ExecutableDocument}
use Rattle.graphql_documents.specs.declared.documents.executables.Operation.{Operation}
use Rattle.graphql_documents.specs.declared.documents.schemas.Schema.{Schema}
use Rattle.graphql_frontend.specs.Documents.{EveryRuleHolds, EveryRuleHoldsBut, IsBuiltFor, IsOnlyOff, JudgesDocument}
use Rattle.graphql_frontend.specs.declared.reports.Reports.{Reports}
use Rattle.graphql_frontend.specs.declared.reports.Reports.TheVariants.{DocumentRules}
use Rattle.graphql_nodes.specs.declared.nodes.Node.{Node}
use Rattle.graphql_parser.specs.declared.bounds.Bounds.{Bounds}
use Rattle.graphql_document_rules.specs.Operations.{OperationHolds}

module _ (schema : Option Schema) (document : ExecutableDocument) where
  operation_holds : (o : Node Operation) → OperationHoldsBut nothing_off schema document o.value.value → OperationHolds schema document o.value.value
  operation_holds o h = record { directives = h.directives; variables = record { definitions = h.definitions; used = h.used refl }; selections = h.selections }

  rules_hold : DocumentRulesHoldBut nothing_off schema document → DocumentRulesHold schema document
  rules_hold h = record {
    operations = All-weaker (λ (o : Node Operation). OperationHoldsBut nothing_off schema document o.value.value) (λ (o : Node Operation). OperationHolds schema document o.value.value)
        operation_holds (operations_of document) h.operations;
    fragments = h.fragments refl;
    defer = h.defer;
    subscriptions = h.subscriptions;
    merging = h.merging;
  }

  module _ (off : RuleSet) where
    operation_holds_but : (o : Node Operation) → OperationHolds schema document o.value.value → OperationHoldsBut off schema document o.value.value
    operation_holds_but o h = record { directives = h.directives; definitions = h.variables.definitions; used = λ on. h.variables.used; selections = h.selections }

    rules_hold_but : DocumentRulesHold schema document → DocumentRulesHoldBut off schema document
    rules_hold_but h = record {
      operations = All-weaker (λ (o : Node Operation). OperationHolds schema document o.value.value) (λ (o : Node Operation). OperationHoldsBut off schema document o.value.value)
          operation_holds_but (operations_of document) h.operations;
      fragments = λ on. h.fragments;
      defer = h.defer;
      subscriptions = h.subscriptions;
      merging = h.merging;
    }

    -- if every rule holds, those do that are not off
    pub every_rule_but : EveryRuleHolds schema document → EveryRuleHoldsBut off schema document
    every_rule_but h = record { rules = rules_hold_but h.rules; variables = h.variables; input_fields = h.input_fields; usages = h.usages }

  -- if none is off, every rule holds exactly if those do that are not off
  pub none_is_off : EveryRuleHoldsBut nothing_off schema document ↔ EveryRuleHolds schema document
  none_is_off = (
    λ h. record { rules = rules_hold h.rules; variables = h.variables; input_fields = h.input_fields; usages = h.usages },
    every_rule_but nothing_off,
  )

-- no rule of `@defer` is off
pub defer_is_not_off : (off : RuleSet) (document : ExecutableDocument) (e : DiagnosticEntry) →
    DeferReport document e.details e.location ⊎ DeferLimit document e.details e.location → ¬ NamesRuleIn off e.details
defer_is_not_off off document e says = is_not_off off e.details (defer_is_never_off document e says)

-- if all that is reported of a document is of rules that are off, the others hold
pub judged_but : (off : RuleSet) (bounds : Bounds) (bytes : ℕ) (schema : Option Schema) (document : ExecutableDocument) (reports : Option Reports) →
    JudgesDocument bounds bytes schema document reports → IfSome reports (IsOnlyOff off) → IsBuiltFor schema document → EveryRuleHoldsBut off schema document
judged_but off bounds bytes schema document None judged only built = every_rule_but schema document off (judged.2 built)
judged_but off bounds bytes schema document (Some (DocumentRules reports)) judged only built = judged.3.others built off only
judged_but off bounds bytes schema document (Some _) judged only built = absurd only
