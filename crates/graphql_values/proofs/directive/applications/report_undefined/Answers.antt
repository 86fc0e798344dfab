use Rattle.std.proofs.Common.{rules}
use Rattle.graphql_diagnostics.proofs.ReportLemmas.{checks-push}
use Rattle.graphql_specification.specs.Directives.{of_undefined_directive}
use Rattle.graphql_values.proofs.directive.applications.report_undefined.Goals as goal

pub returns : goal.returns
returns c = λ schema variables location undefined directives among.
    checks-push _ _ _ _ _ _ c.push.ensures.ok c.push.ensures.err (λ no. no)
    (of_undefined_directive (record {
      d = c.args.directive.now;
      applied = among;
      undefined = undefined;
      name_is = search rules;
      at_is = search rules;
    }))
