use Rattle.std.proofs.Common.{rules}
use Rattle.graphql_shown_reports.specs.Shown.{ShowsSyntax}
use Rattle.graphql_shown_reports.proofs.ShownLemmas.{all_shown, none_shown, shown_more}
use Rattle.graphql_shown_reports.proofs.shown.push_syntax.Goals as goal

pub loop-error-init : goal.loop-error-init
loop-error-init c = none_shown (ShowsSyntax c.args.sources.now c.args.bounds) c.args.shown.now.items

pub loop-error-preserved : goal.loop-error-preserved
loop-error-preserved c =
    shown_more (ShowsSyntax c.args.sources.now c.args.bounds) c.args.errors.now c.loop-error.error-index _ _ _ _ _
    c.loop-error-test.true (search rules) c.loop-error.invariant c.in_ok-shown_syntax.ensures c.in_ok-push.ensures.items

pub returns : goal.returns
returns c = all_shown (ShowsSyntax c.args.sources.now c.args.bounds) c.args.errors.now c.loop-error.error-index _ _ c.loop-error-test.false c.loop-error.invariant
