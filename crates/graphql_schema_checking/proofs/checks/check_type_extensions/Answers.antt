use Rattle.graphql_schema_checking.specs.Definitions.{name_of, type_named}
use Rattle.graphql_schema_checking.specs.SchemaBuilds.{IsOfKind}
use Rattle.std.proofs.lemmas.List.Elements.{All-nil}
use Rattle.graphql_diagnostics.proofs.ReportLemmas.{checks-err, holds, kept_by, kept_then}
use Rattle.graphql_repetitions.specs.References.{nows}
use Rattle.graphql_repetitions.proofs.ReferenceLemmas.{stands_now}
use Rattle.graphql_repetitions.proofs.WalkLemmas.{walked_all_now, walked_more_now}
use Rattle.graphql_schema_checking.proofs.checks.check_type_extensions.Goals as goal

pub loop-extension-init : goal.loop-extension-init
loop-extension-init c = λ types f. holds _ _ _ (All-nil _)

pub returns-in_err-check_type_extension : goal.returns-in_err-check_type_extension
returns-in_err-check_type_extension c = λ types f.
    let xs = c.args.extensions.now in
    let i = c.loop-extension.extension-index in
    let x = c.extension-item.result in
    checks-err _ _ _ _ _ c.from_residual.ensures.0
    (kept_then (kept_by (c.loop-extension.invariant types f))
    (c.in_err-check_type_extension.ensures types (nows xs) f (stands_now xs i x c.loop-extension-test.true c.extension-item.is)))

pub loop-extension-preserved : goal.loop-extension-preserved
loop-extension-preserved c = λ types f.
    let xs = c.args.extensions.now in
    let i = c.loop-extension.extension-index in
    let x = c.extension-item.result in
    walked_more_now (λ e. IsOfKind (type_named types (name_of e)) e) _ xs i x _ _ _ c.loop-extension-test.true c.extension-item.is (c.loop-extension.invariant types f)
    (c.in_ok-check_type_extension.ensures types (nows xs) f (stands_now xs i x c.loop-extension-test.true c.extension-item.is))

pub returns : goal.returns
returns c = λ types f.
    walked_all_now (λ e. IsOfKind (type_named types (name_of e)) e) _ c.args.extensions.now c.loop-extension.extension-index _ _ c.loop-extension-test.false (c.loop-extension.invariant types f)
