use Rattle.std.proofs.Common.{refl}
use Rattle.graphql_diagnostics.proofs.ReportLemmas.{checks-err, in_words, kept_by, kept_then, walked_all, walked_more}
use Rattle.graphql_operations.proofs.OperationDeferLemmas.{all_deferred, item_stands}
use Rattle.graphql_operations.specs.OperationDefers.{DirectivesDeferReport, MeetsIfDeferred}
use Rattle.graphql_operations.proofs.defer.rules.DeferRule.check_directives.Goals as goal

pub returns-in_err-check_directive : goal.returns-in_err-check_directive
returns-in_err-check_directive c =
    let xs = c.args.directives.now in
    checks-err _ _ _ _ _ c.from_residual.ensures.0
    (kept_then (kept_by c.loop-directive.invariant)
    (c.in_err-check_directive.ensures xs (item_stands xs c.loop-directive.directive-index c.directive-item.result c.loop-directive-test.true c.directive-item.is)))

pub loop-directive-preserved : goal.loop-directive-preserved
loop-directive-preserved c =
    let xs = c.args.directives.now in
    let i = c.loop-directive.directive-index in
    let d = c.directive-item.result in
    walked_more (MeetsIfDeferred c.args.self) (DirectivesDeferReport c.args.self xs) xs i d _ _ _ c.loop-directive-test.true c.directive-item.is c.loop-directive.invariant
    (c.in_ok-check_directive.ensures xs (item_stands xs i d c.loop-directive-test.true c.directive-item.is))

pub returns : goal.returns
returns c =
    let xs = c.args.directives.now in
    in_words (all_deferred c.args.self xs)
    (walked_all (MeetsIfDeferred c.args.self) (DirectivesDeferReport c.args.self xs) xs c.loop-directive.directive-index _ _ _ refl c.loop-directive-test.false c.loop-directive.invariant)
