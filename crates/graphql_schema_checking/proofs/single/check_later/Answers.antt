use Rattle.std.proofs.Common.{None, get_or, refl}
use Rattle.std.proofs.lemmas.List.Elements.{All-nil, Contains-get_or}
use Rattle.graphql_diagnostics.proofs.ReportLemmas.{checks-err, holds, kept_by, kept_then, walked_all, walked_more}
use Rattle.graphql_schema_checking.proofs.RuleLemmas.{any_default}
use Rattle.graphql_schema_checking.proofs.single.check_later.Goals as goal

pub loop-place-init : goal.loop-place-init
loop-place-init c = holds _ _ _ (All-nil _)

pub returns-in_err-report_later : goal.returns-in_err-report_later
returns-in_err-report_later c =
    let xs = c.args.later.now in
    let i = c.loop-place.place-index in
    checks-err _ _ _ _ _ c.from_residual.ensures.0
    (kept_then (kept_by c.loop-place.invariant)
    (c.in_err-report_later.ensures xs (Contains-get_or xs i None c.loop-place-test.true)))

pub loop-place-preserved : goal.loop-place-preserved
loop-place-preserved c =
    let xs = c.args.later.now in
    let i = c.loop-place.place-index in
    walked_more (λ x. ⊥) _ xs i (get_or xs i None) _ _ _ c.loop-place-test.true (any_default xs i None (get_or xs i None) c.loop-place-test.true) c.loop-place.invariant
    (c.in_ok-report_later.ensures xs (Contains-get_or xs i None c.loop-place-test.true))

pub returns : goal.returns
returns c = walked_all (λ x. ⊥) _ c.args.later.now c.loop-place.place-index c.args.later.now _ _ refl c.loop-place-test.false c.loop-place.invariant
