use Rattle.std.proofs.Common.{rules, inl}
use Rattle.graphql_diagnostics.proofs.ReportLemmas.{checks-push}
use Rattle.graphql_diagnostics.proofs.ReportWithinLemmas.{checks_within}
use Rattle.graphql_diagnostics.specs.Diagnostics.{IsLimitEntry}
use Rattle.graphql_specification.specs.InputObjectCycles.{required_fields_lead_back}
use Rattle.graphql_cycles.proofs.input_objects.report_cycle.Goals as goal

pub returns : goal.returns
returns c = λ schema path cycle traces.
    checks_within IsLimitEntry _ _ _ _ _ _ (λ e said. inl said)
    (checks-push _ _ _ _ _ _ c.push.ensures.ok c.push.ensures.err (λ none. none path cycle) (required_fields_lead_back {name = c.in_ok-name.name} {trace = c.args.trace} {at = c.args.input_object.now.location} (record {
      path = path;
      is_cycle = cycle;
      trace_is = traces.copies;
      name_is = search rules;
      at_is = search rules;
    })))
