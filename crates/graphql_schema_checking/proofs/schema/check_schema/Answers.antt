use Rattle.graphql_diagnostics.proofs.ReportLemmas.{both, checks-err, checks_after, checks_words, kept_by, kept_then}
use Rattle.graphql_schema_checking.specs.Definitions.{definitions_in}
use Rattle.graphql_schema_checking.proofs.RuleLemmas.{builds_words}
use Rattle.graphql_schema_checking.proofs.schema.check_schema.Goals as goal

pub returns-in_err-check_whole : goal.returns-in_err-check_whole
returns-in_err-check_whole c =
    let ds = definitions_in c.args.trees.now in
    checks-err _ _ _ _ _ c.from_residual-in_err-check_whole.ensures.0 (c.in_err-check_whole.ensures ds c.in_ok-sorted.ensures)

pub returns-in_err-check_names : goal.returns-in_err-check_names
returns-in_err-check_names c =
    let ds = definitions_in c.args.trees.now in
    checks-err _ _ _ _ _ c.from_residual-in_err-check_names.ensures.0
    (kept_then (kept_by (c.in_ok-check_whole.ensures ds c.in_ok-sorted.ensures)) (c.in_err-check_names.ensures ds c.in_ok-sorted.ensures))

pub returns : goal.returns
returns c =
    let ds = definitions_in c.args.trees.now in
    checks_words c.check_types.result _ _ _ _ _ _ (builds_words ds) (λ e q. q)
    (checks_after _ _ _ _ _ _ _
    (both (c.in_ok-check_whole.ensures ds c.in_ok-sorted.ensures) (c.in_ok-check_names.ensures ds c.in_ok-sorted.ensures))
    (c.check_types.ensures ds c.in_ok-sorted.ensures))
