use Rattle.std.proofs.Common.{rules}
use Rattle.graphql_findings.proofs.FindingLemmas.{found_more}
use Rattle.graphql_findings.proofs.findings.found_in.Goals as goal

pub loop-reports-preserved : goal.loop-reports-preserved
loop-reports-preserved c =
    found_more c.args.sources.now c.args.bounds c.args.reports.now c.loop-reports.reports-index _ _ _
    c.loop-reports-test.true (search rules) c.loop-reports.invariant c.in_ok-add_found.ensures
