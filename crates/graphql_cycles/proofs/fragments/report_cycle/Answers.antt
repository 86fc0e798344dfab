use Rattle.std.proofs.Common.{rules, inl}
use Rattle.graphql_diagnostics.proofs.ReportLemmas.{checks-push, kept}
use Rattle.graphql_diagnostics.proofs.ReportWithinLemmas.{checks_refused_within, checks_within}
use Rattle.graphql_diagnostics.specs.Diagnostics.{IsLimitEntry}
use Rattle.graphql_cycles.proofs.fragments.report_cycle.Goals as goal

pub returns-in_err-name : goal.returns-in_err-name
returns-in_err-name c = λ schema fragments path cycle traces.
    checks_refused_within IsLimitEntry _ _ _ _ _ c.from_residual.ensures.0 (kept _ _)

pub returns : goal.returns
returns c = λ schema fragments path cycle traces.
    checks_within IsLimitEntry _ _ _ _ _ _ (λ e said. inl said)
    (checks-push _ _ _ _ _ _ c.push.ensures.ok c.push.ensures.err (λ none. none path cycle) (record {
      path = path;
      is_cycle = cycle;
      trace_is = traces.copies;
      name_is = search rules;
      head_is = search rules;
      at_is = search rules;
    }))
