use Rattle.std.proofs.Common.{rules}
use Rattle.std.specs.Option.{option_copied}
use Rattle.graphql_findings.specs.Findings.{all_listed}
use Rattle.graphql_findings.proofs.FindingLemmas.{shown_of_distinct}
use Rattle.graphql_findings.proofs.findings.findings_beside.Goals as goal

pub returns : goal.returns
returns c =
    shown_of_distinct c.args.sources.now c.args.bounds (option_copied c.args.schema) (all_listed c.args.reports.now) c.args.most c.in_ok-found.found.items c.keep_distinct.new.found.items _
    c.in_ok-found.ensures c.in_ok-keep_distinct.ensures (search rules) (search rules)
