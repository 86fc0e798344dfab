use Rattle.std.proofs.Common.{IsFalse}
use Rattle.graphql_schema_checking.specs.Definitions.{is_executable}
use Rattle.std.proofs.lemmas.List.Elements.{All-nil}
use Rattle.graphql_diagnostics.proofs.ReportLemmas.{checks-err, holds, kept_by, kept_then}
use Rattle.graphql_repetitions.specs.References.{nows}
use Rattle.graphql_repetitions.proofs.ReferenceLemmas.{stands_now}
use Rattle.graphql_repetitions.proofs.WalkLemmas.{walked_all_now, walked_more_now}
use Rattle.graphql_schema_checking.proofs.checks.check_executables.Goals as goal

pub loop-definition-init : goal.loop-definition-init
loop-definition-init c = holds _ _ _ (All-nil _)

pub returns-in_err-check_executable : goal.returns-in_err-check_executable
returns-in_err-check_executable c =
    let xs = c.args.definitions.now in
    let i = c.loop-definition.definition-index in
    let x = c.definition-item.result in
    checks-err _ _ _ _ _ c.from_residual.ensures.0
    (kept_then (kept_by c.loop-definition.invariant)
    (c.in_err-check_executable.ensures (nows xs) (stands_now xs i x c.loop-definition-test.true c.definition-item.is)))

pub loop-definition-preserved : goal.loop-definition-preserved
loop-definition-preserved c =
    let xs = c.args.definitions.now in
    let i = c.loop-definition.definition-index in
    let x = c.definition-item.result in
    walked_more_now (λ d. IsFalse (is_executable d)) _ xs i x _ _ _ c.loop-definition-test.true c.definition-item.is c.loop-definition.invariant
    (c.in_ok-check_executable.ensures (nows xs) (stands_now xs i x c.loop-definition-test.true c.definition-item.is))

pub returns : goal.returns
returns c = walked_all_now (λ d. IsFalse (is_executable d)) _ c.args.definitions.now c.loop-definition.definition-index _ _ c.loop-definition-test.false c.loop-definition.invariant
