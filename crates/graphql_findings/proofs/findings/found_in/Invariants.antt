use Rattle.std.proofs.Common.{take}
use Rattle.std.specs.List.{AllZip}
use Rattle.graphql_findings.specs.Findings.{IsFoundAs, all_listed}
use Rattle.graphql_findings.proofs.findings.found_in.Given as goal

abbrev pub invariant-loop-reports : goal.invariant-loop-reports
invariant-loop-reports l = AllZip (IsFoundAs l.sources l.bounds) (all_listed (take l.reports-index l.fn.reports)) l.found.items
