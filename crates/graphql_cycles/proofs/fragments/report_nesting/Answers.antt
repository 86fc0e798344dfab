use Rattle.std.proofs.Common.{rules, inr}
use Rattle.graphql_diagnostics.proofs.ReportLemmas.{kept}
use Rattle.graphql_diagnostics.proofs.ReportWithinLemmas.{checks_limit, checks_refused_within}
use Rattle.graphql_diagnostics.specs.Diagnostics.{IsLimitEntry, limit_of_path}
use Rattle.graphql_specification.specs.Fragments.{spreads_nest}
use Rattle.graphql_cycles.proofs.fragments.report_nesting.Goals as goal

pub returns-in_err-name : goal.returns-in_err-name
returns-in_err-name c = λ schema fragments long.
    checks_refused_within IsLimitEntry _ _ _ _ _ c.from_residual.ensures.0 (kept _ _)

pub returns : goal.returns
returns c = λ schema fragments long.
    checks_limit IsLimitEntry _ _ _ _ _ _ c.push.ensures.ok c.push.ensures.err limit_of_path
    (inr (spreads_nest (record { long = long; name_is = search rules; describe_is = search rules; at_is = search rules })))
