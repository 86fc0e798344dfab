use Rattle.std.proofs.Common.{rules}
use Rattle.graphql_diagnostics.proofs.ReportLemmas.{checks-push}
use Rattle.graphql_schemas.specs.RootSteps.{of_no_object}
use Rattle.graphql_schemas.proofs.roots.report_no_object.Goals as goal

pub returns : goal.returns
returns c = λ schema defined.
    checks-push _ _ _ _ _ _ c.push.ensures.ok c.push.ensures.err (λ no. no)
    (of_no_object (c.args.definition.now, defined, c.requires, search rules) (search rules) (search rules))
