use Rattle.graphql_schema_checking.specs.Definitions.{type_named}
use Rattle.graphql_schema_checking.specs.SchemaBuilds.{IsNoOtherThanInterface}
use Rattle.std.proofs.lemmas.List.Elements.{All-nil}
use Rattle.graphql_diagnostics.proofs.ReportLemmas.{checks-err, holds, kept_by, kept_then}
use Rattle.graphql_repetitions.specs.References.{nows}
use Rattle.graphql_repetitions.proofs.ReferenceLemmas.{stands_now}
use Rattle.graphql_repetitions.proofs.WalkLemmas.{walked_all_now, walked_more_now}
use Rattle.graphql_schema_checking.proofs.checks.check_implemented.Goals as goal

pub loop-name-init : goal.loop-name-init
loop-name-init c = λ types f. holds _ _ _ (All-nil _)

pub returns-in_err-check_interface : goal.returns-in_err-check_interface
returns-in_err-check_interface c = λ types f.
    let xs = c.args.names.now in
    let i = c.loop-name.name-index in
    let x = c.name-item.result in
    checks-err _ _ _ _ _ c.from_residual.ensures.0
    (kept_then (kept_by (c.loop-name.invariant types f))
    (c.in_err-check_interface.ensures types (nows xs) f (stands_now xs i x c.loop-name-test.true c.name-item.is)))

pub loop-name-preserved : goal.loop-name-preserved
loop-name-preserved c = λ types f.
    let xs = c.args.names.now in
    let i = c.loop-name.name-index in
    let x = c.name-item.result in
    walked_more_now (λ name. IsNoOtherThanInterface (type_named types name)) _ xs i x _ _ _ c.loop-name-test.true c.name-item.is (c.loop-name.invariant types f)
    (c.in_ok-check_interface.ensures types (nows xs) f (stands_now xs i x c.loop-name-test.true c.name-item.is))

pub returns : goal.returns
returns c = λ types f.
    walked_all_now (λ name. IsNoOtherThanInterface (type_named types name)) _ c.args.names.now c.loop-name.name-index _ _ c.loop-name-test.false (c.loop-name.invariant types f)
