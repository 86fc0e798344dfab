use Rattle.std.proofs.lemmas.Result.{MatchResult-from_err, MatchResult-weaker}
use Rattle.std.specs.Option.{option_copied}
use Rattle.graphql_diagnostics.specs.Diagnostics.{IsLimitEntry}
use Rattle.graphql_diagnostics.proofs.ReportLemmas.{kept_then, kept_wider}
use Rattle.graphql_diagnostics.proofs.ReportWithinLemmas.{both_within, in_words_within, kept_within, wider_within}
use Rattle.graphql_validation.proofs.DocumentLemmas.{of_all_defer, of_operations, of_used_fragments}
use Rattle.graphql_validation.proofs.entry.validate_with_or_without_schema.Goals as goal

pub returns-in_err-validate_operation_definitions : goal.returns-in_err-validate_operation_definitions
returns-in_err-validate_operation_definitions c =
    MatchResult-from_err _ _ _ c.from_residual.ensures.0
    (λ y. kept_wider (of_operations (option_copied c.args.schema) c.args.document.now) c.in_err-validate_operation_definitions.ensures.checks)

pub returns-in_err-validate_fragments_used : goal.returns-in_err-validate_fragments_used
returns-in_err-validate_fragments_used c =
    let operations = wider_within IsLimitEntry (of_operations (option_copied c.args.schema) c.args.document.now) c.in_ok-validate_operation_definitions.ensures.checks in
    let used = of_used_fragments (option_copied c.args.schema) c.args.document.now in
    MatchResult-from_err _ _ _ c.from_residual-in_err-validate_fragments_used.ensures.0
    (λ y. kept_then (kept_within IsLimitEntry operations) (kept_wider used c.in_err-validate_fragments_used.ensures.checks))

pub returns : goal.returns
returns c =
    let S = option_copied c.args.schema in
    let D = c.args.document.now in
    let operations = wider_within IsLimitEntry (of_operations S D) c.in_ok-validate_operation_definitions.ensures.checks in
    let fragments = wider_within IsLimitEntry (of_used_fragments S D) c.in_ok-validate_fragments_used.ensures.checks in
    let both = both_within IsLimitEntry operations fragments in
    MatchResult-weaker c.validate_defer.result c.validate_defer.ensures
    (λ _ defer. in_words_within IsLimitEntry (λ p. (p.0.0, p.0.1, p.1), λ h. ((h.0, h.1), h.2))
    (both_within IsLimitEntry both (wider_within IsLimitEntry (of_all_defer S D) defer)))
    (λ _ kept. kept_then (kept_within IsLimitEntry both) (kept_wider (of_all_defer S D) kept))
