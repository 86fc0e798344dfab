use Rattle.std.proofs.Common.{IsFalse}
use Rattle.std.proofs.lemmas.Result.{MatchResult-from_err, MatchResult-weaker}
use Rattle.std.specs.Option.{option_copied}
use Rattle.graphql_diagnostics.specs.Diagnostics.{IsLimitEntry}
use Rattle.graphql_diagnostics.proofs.ReportLemmas.{kept_then, kept_wider}
use Rattle.graphql_diagnostics.proofs.ReportWithinLemmas.{both_within, in_words_within, kept_within, wider_within}
use Rattle.graphql_document_rules.proofs.RuleReportLemmas.{of_all_defer, of_operations, of_used_fragments}
use Rattle.graphql_document_rules.proofs.FixedRuleLemmas.{defer_is_never_off, used_fragments_are_not_off}
use Rattle.graphql_validation.specs.RuleSets.{RuleSet}
use Rattle.graphql_validation.proofs.RuleSetLemmas.{both_of_others, if_it_answers, in_words_of_others, of_check_if, of_check_within}
use Rattle.graphql_document_rules.proofs.documents.validate_with_or_without_schema.Goals as goal

pub returns-in_err-validate_operation_definitions-clause-checks : goal.returns-in_err-validate_operation_definitions-clause-checks
returns-in_err-validate_operation_definitions-clause-checks c =
    MatchResult-from_err _ _ _ c.from_residual.ensures.0
    (λ y. kept_wider (of_operations (option_copied c.args.schema) c.args.document.now) c.in_err-validate_operation_definitions.ensures.checks)

pub returns-in_err-validate_fragments_used-clause-checks : goal.returns-in_err-validate_fragments_used-clause-checks
returns-in_err-validate_fragments_used-clause-checks c =
    let operations = wider_within IsLimitEntry (of_operations (option_copied c.args.schema) c.args.document.now) c.in_ok-validate_operation_definitions.ensures.checks in
    let used = of_used_fragments (option_copied c.args.schema) c.args.document.now in
    MatchResult-from_err _ _ _ c.from_residual-in_err-validate_fragments_used.ensures.0
    (λ y. kept_then (kept_within IsLimitEntry operations) (kept_wider used c.in_err-validate_fragments_used.ensures.checks))

pub returns-clause-checks : goal.returns-clause-checks
returns-clause-checks c =
    let S = option_copied c.args.schema in
    let D = c.args.document.now in
    let operations = wider_within IsLimitEntry (of_operations S D) c.in_ok-validate_operation_definitions.ensures.checks in
    let fragments = wider_within IsLimitEntry (of_used_fragments S D) c.in_ok-validate_fragments_used.ensures.checks in
    let both = both_within IsLimitEntry operations fragments in
    MatchResult-weaker c.validate_defer.result c.validate_defer.ensures
    (λ _ defer. in_words_within IsLimitEntry (λ p. (p.0.0, p.0.1, p.1), λ h. ((h.0, h.1), h.2))
    (both_within IsLimitEntry both (wider_within IsLimitEntry (of_all_defer S D) defer)))
    (λ _ kept. kept_then (kept_within IsLimitEntry both) (kept_wider (of_all_defer S D) kept))

pub returns-clause-others : goal.returns-clause-others
returns-clause-others c =
    let D = c.args.document.now in
    let fragments = of_check_if (λ (off : RuleSet). IsFalse off.unused_fragments) (used_fragments_are_not_off D) c.in_ok-validate_fragments_used.ensures.checks in
    let before = both_of_others c.in_ok-validate_operation_definitions.ensures.others fragments in
    if_it_answers c.validate_defer.result _ _ _
    (λ defer. in_words_of_others (λ off p. (p.0.0, p.0.1, p.1)) (both_of_others before (of_check_within (defer_is_never_off D) defer)))
    c.validate_defer.ensures
