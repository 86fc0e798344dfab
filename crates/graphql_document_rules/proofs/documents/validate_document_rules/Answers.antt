use Rattle.std.proofs.Common.{◌++◌, Some}
use Rattle.std.proofs.lemmas.Result.{IfOk-weaker}
use Rattle.graphql_diagnostics.specs.Diagnostics.{IsLimitEntry}
use Rattle.graphql_diagnostics.proofs.ReportLemmas.{appended_then, both_nil, kept_then, kept_wider, on_ok}
use Rattle.graphql_diagnostics.proofs.ReportWithinLemmas.{both_within, in_words_within, kept_within, wider_within}
use Rattle.graphql_validation.proofs.MergingStepLemmas.{silent_holds}
use Rattle.graphql_document_rules.proofs.OperationStepLemmas.{document_holds}
use Rattle.graphql_document_rules.proofs.RuleReportLemmas.{limit_if_one, rule_of_fixed, rule_unless_limit}
use Rattle.graphql_document_rules.proofs.FixedRuleLemmas.{document_holds_but, fixed_is_never_off}
use Rattle.graphql_validation.proofs.RuleSetLemmas.{both_of_others, in_words_of_others, of_check_within}
use Rattle.graphql_document_rules.proofs.documents.validate_document_rules.Goals as goal

pub returns-in_err-validate_with_or_without_schema-clause-reports : goal.returns-in_err-validate_with_or_without_schema-clause-reports
returns-in_err-validate_with_or_without_schema-clause-reports c =
    kept_wider (rule_unless_limit (Some c.args.schema.now) c.args.document.now) (c.in_err-validate_with_or_without_schema.ensures.checks)

pub returns-in_err-validate_with_or_without_schema-clause-limits : goal.returns-in_err-validate_with_or_without_schema-clause-limits
returns-in_err-validate_with_or_without_schema-clause-limits c =
    kept_wider (limit_if_one (Some c.args.schema.now) c.args.document.now) (c.in_err-validate_with_or_without_schema.ensures.checks)

pub returns-clause-silence : goal.returns-clause-silence
returns-clause-silence c built =
    IfOk-weaker c.validate_operations.result _ _
    (λ decided r was.
    let all = in_words_within IsLimitEntry (document_holds c.args.schema.now c.args.document.now)
    (both_within IsLimitEntry c.in_ok-validate_with_or_without_schema.ensures.checks
    (wider_within IsLimitEntry (rule_of_fixed c.args.schema.now c.args.document.now) (r was))) in
    record { added = all.added; appended = all.appended; are = all.silent })
    (c.validate_operations.ensures.holds built)

pub returns-clause-reports : goal.returns-clause-reports
returns-clause-reports c =
    kept_wider (rule_unless_limit (Some c.args.schema.now) c.args.document.now)
    (kept_then (kept_within IsLimitEntry c.in_ok-validate_with_or_without_schema.ensures.checks) (kept_wider (rule_of_fixed c.args.schema.now c.args.document.now) c.validate_operations.ensures.truth))

pub returns-clause-limits : goal.returns-clause-limits
returns-clause-limits c =
    kept_wider (limit_if_one (Some c.args.schema.now) c.args.document.now)
    (kept_then (kept_within IsLimitEntry c.in_ok-validate_with_or_without_schema.ensures.checks) (kept_wider (rule_of_fixed c.args.schema.now c.args.document.now) c.validate_operations.ensures.truth))

pub returns-clause-parts : goal.returns-clause-parts
returns-clause-parts c =
    let first = c.in_ok-validate_with_or_without_schema.ensures.checks in
    on_ok c.validate_operations.result _ _
    (λ r. record {
      added = first.added ++ r.added;
      appended = appended_then _ _ _ first.added r.added first.appended r.appended;
      are = λ none.
          let nothing = (both_nil first.added r.added).0 none in
          let parts = silent_holds first nothing.0 in
          (parts.0, parts.1, parts.2, r.are nothing.1);
    })
    c.validate_operations.ensures.subscriptions

pub returns-clause-others : goal.returns-clause-others
returns-clause-others c built =
    IfOk-weaker c.validate_operations.result _ _
    (λ decided r was.
    in_words_of_others (document_holds_but c.args.schema.now c.args.document.now)
    (both_of_others c.in_ok-validate_with_or_without_schema.ensures.others
    (of_check_within (fixed_is_never_off c.args.schema.now c.args.document.now) (r was))))
    (c.validate_operations.ensures.holds built)
