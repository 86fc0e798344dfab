use Rattle.std.proofs.Common.{rules}
use Rattle.graphql_diagnostics.proofs.ReportLemmas.{checks-push}
use Rattle.graphql_specification.specs.SchemaDefinitions.{root_is_repeated}
use Rattle.graphql_schemas.specs.RootSteps.{lent_root}
use Rattle.graphql_schemas.proofs.roots.report_repetition.Goals as goal

pub returns : goal.returns
returns c = λ schema d before found next.
    checks-push _ _ _ _ _ _ c.push.ensures.ok c.push.ensures.err (λ no. no)
    (root_is_repeated (record {
      before = before;
      first = lent_root c.args.first;
      again = lent_root c.args.root;
      after = next.after;
      split = next.split;
      first_is = found;
      name_is = search rules;
      original_operation_is = search rules;
      original_is = search rules;
      redefined_operation_is = search rules;
      redefined_is = search rules;
      at_is = search rules;
    }))
