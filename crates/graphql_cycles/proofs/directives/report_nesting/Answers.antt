use Rattle.std.proofs.Common.{rules, inr}
use Rattle.graphql_diagnostics.proofs.ReportWithinLemmas.{checks_limit}
use Rattle.graphql_diagnostics.specs.Diagnostics.{IsLimitEntry, limit_of_path}
use Rattle.graphql_specification.specs.DirectiveCycles.{references_nest}
use Rattle.graphql_cycles.proofs.directives.report_nesting.Goals as goal

pub returns : goal.returns
returns c = λ schema long.
    checks_limit IsLimitEntry _ _ _ _ _ _ c.push.ensures.ok c.push.ensures.err limit_of_path
    (inr (references_nest (record { long = long; name_is = search rules; describe_is = search rules; at_is = search rules })))
