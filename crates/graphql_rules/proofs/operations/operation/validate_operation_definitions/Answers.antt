use Rattle.std.proofs.Common.{◌≡◌, List, All, Bor, Contains, map, refl, sym, ap, ◌∙◌, subst}
use Rattle.std.proofs.lemmas.Result.{MatchResult-from_err}
use Rattle.std.specs.Option.{option_copied}
use Rattle.graphql_documents.specs.Executables.{operations_of}
use Rattle.graphql_diagnostics.specs.Diagnostics.{IsLimitEntry, entries}
use Rattle.graphql_specification.specs.Operations.{OperationHolds}
use Rattle.graphql_documents.specs.declared.documents.executables.Operation.{Operation}
use Rattle.graphql_nodes.specs.declared.nodes.Node.{Node}
use Rattle.graphql_diagnostics.proofs.ReportLemmas.{kept_then}
use Rattle.graphql_diagnostics.proofs.ReportWithinLemmas.{in_words_within, kept_within, walked_all_within, walked_more_within, walked_none_within}
use Rattle.graphql_rules.proofs.OperationLemmas.{OperationsEntryReport, operation_checked, operation_kept}
use Rattle.graphql_rules.proofs.RuleSetLemmas.{in_words_of_others, operation_but, walked_all_of_others, walked_more_of_others, walked_none_of_others}
use Rattle.graphql_rules.specs.RuleSets.{OperationHoldsBut, RuleSet}
use Rattle.graphql_variables.proofs.ReferenceLemmas.{all_referred, stands_referred}
use Rattle.graphql_rules.proofs.operations.operation.validate_operation_definitions.Goals as goal

pub loop-operation-init : goal.loop-operation-init
loop-operation-init c = record {
  checked = walked_none_within IsLimitEntry (λ (o : Bor (Node Operation)). OperationHolds (option_copied c.args.schema) c.args.document.now o.now.value.value)
      (OperationsEntryReport (option_copied c.args.schema) c.args.document.now) c.deref-operation-items.result.now (entries c.args.diagnostics.now);
  others = walked_none_of_others (λ (off : RuleSet) (o : Bor (Node Operation)). OperationHoldsBut off (option_copied c.args.schema) c.args.document.now o.now.value.value)
      c.deref-operation-items.result.now (entries c.args.diagnostics.now);
  schema = c.new-context.ensures.schema;
}

pub returns-in_err-variables-clause-checks : goal.returns-in_err-variables-clause-checks
returns-in_err-variables-clause-checks c = MatchResult-from_err _ _ _ c.from_residual-in_err-variables.ensures.0 (λ y. kept_within IsLimitEntry c.loop-operation.invariant.checked)

pub returns-in_err-check_operation-clause-checks : goal.returns-in_err-check_operation-clause-checks
returns-in_err-check_operation-clause-checks c =
    let S = option_copied c.args.schema in
    let D = c.args.document.now in
    let xs = c.deref-operation-items.result.now in
    let x = c.operation-item.result in
    let among : Contains (operations_of D) x.now =
    subst (λ l. Contains l x.now) (ap (λ (l : List (Bor (Node Operation))). map (λ b. b.now) l) c.deref-operation-items.ensures.value ∙ c.in_ok-operations.ensures)
    (stands_referred xs c.loop-operation.operation-index x c.loop-operation-test.true c.operation-item.is) in
    MatchResult-from_err _ _ _ c.from_residual-in_err-check_operation.ensures.0
    (λ y. kept_then (kept_within IsLimitEntry c.loop-operation.invariant.checked)
    (operation_kept D x.now among _ S _ _ _ (c.next-context.ensures.schema ∙ c.loop-operation.invariant.schema) c.deref-in-loop-operation-2.ensures
    (rw (sym c.in_ok-levels.ensures.document) c.in_err-check_operation.ensures.checks)))

pub loop-operation-preserved : goal.loop-operation-preserved
loop-operation-preserved c =
    let S = option_copied c.args.schema in
    let D = c.args.document.now in
    let xs = c.deref-operation-items.result.now in
    let i = c.loop-operation.operation-index in
    let x = c.operation-item.result in
    let schema = c.next-context.ensures.schema ∙ c.loop-operation.invariant.schema in
    let among : Contains (operations_of D) x.now =
    subst (λ l. Contains l x.now) (ap (λ (l : List (Bor (Node Operation))). map (λ b. b.now) l) c.deref-operation-items.ensures.value ∙ c.in_ok-operations.ensures)
    (stands_referred xs i x c.loop-operation-test.true c.operation-item.is) in
    record {
      checked = walked_more_within IsLimitEntry (λ (o : Bor (Node Operation)). OperationHolds S D o.now.value.value) (OperationsEntryReport S D) xs i x _ _ _
          c.loop-operation-test.true c.operation-item.is c.loop-operation.invariant.checked
          (operation_checked D x.now among _ S _ _ _ schema c.deref-in-loop-operation-2.ensures (rw (sym c.in_ok-levels.ensures.document) c.in_ok-check_operation.ensures.checks));
      others = walked_more_of_others (λ (off : RuleSet) (o : Bor (Node Operation)). OperationHoldsBut off S D o.now.value.value) xs i x _ _ _
          c.loop-operation-test.true c.operation-item.is c.loop-operation.invariant.others
          (operation_but D _ S _ x.now.value.value _ _ schema c.deref-in-loop-operation-2.ensures (rw (sym c.in_ok-levels.ensures.document) c.in_ok-check_operation.ensures.others));
      schema = c.in_ok-check_operation.ensures.schema ∙ schema;
    }

pub returns-clause-checks : goal.returns-clause-checks
returns-clause-checks c =
    let S = option_copied c.args.schema in
    let D = c.args.document.now in
    let xs = c.deref-operation-items.result.now in
    let P = λ (o : Node Operation). OperationHolds S D o.value.value in
    let same : map (λ b. b.now) xs ≡ operations_of D =
    ap (λ (l : List (Bor (Node Operation))). map (λ b. b.now) l) c.deref-operation-items.ensures.value ∙ c.in_ok-operations.ensures in
    let referred = all_referred P xs in
    in_words_within IsLimitEntry (λ all. subst (All P) same (referred.0 all), λ all. referred.1 (subst (All P) (sym same) all))
    (walked_all_within IsLimitEntry (λ (o : Bor (Node Operation)). P o.now) (OperationsEntryReport S D) xs c.loop-operation.operation-index xs _ _ refl
    c.loop-operation-test.false c.loop-operation.invariant.checked)

pub returns-clause-others : goal.returns-clause-others
returns-clause-others c =
    let S = option_copied c.args.schema in
    let D = c.args.document.now in
    let xs = c.deref-operation-items.result.now in
    let P = λ (off : RuleSet) (o : Node Operation). OperationHoldsBut off S D o.value.value in
    let same : map (λ b. b.now) xs ≡ operations_of D =
    ap (λ (l : List (Bor (Node Operation))). map (λ b. b.now) l) c.deref-operation-items.ensures.value ∙ c.in_ok-operations.ensures in
    in_words_of_others (λ off all. subst (All (P off)) same ((all_referred (P off) xs).0 all))
    (walked_all_of_others (λ (off : RuleSet) (o : Bor (Node Operation)). P off o.now) xs c.loop-operation.operation-index xs _ _ refl
    c.loop-operation-test.false c.loop-operation.invariant.others)
