use Rattle.std.proofs.Common.{refl, rules}
use Rattle.graphql_shown_reports.specs.Shown.{syntax}
use Rattle.graphql_findings.proofs.SingleLemmas.{single_more}
use Rattle.graphql_findings.proofs.singles.push_syntax.Goals as goal

pub loop-error-preserved : goal.loop-error-preserved
loop-error-preserved c =
    single_more syntax c.args.errors.now c.loop-error.error-index _ _ _ _ _ c.loop-error-test.true (search rules) refl c.loop-error.invariant c.in_ok-push.ensures.items
