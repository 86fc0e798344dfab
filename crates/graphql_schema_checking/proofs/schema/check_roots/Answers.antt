use Rattle.std.proofs.Common.{◌∙◌}
use Rattle.graphql_schema_checking.proofs.RuleLemmas.{roots_checked}
use Rattle.graphql_schema_checking.proofs.schema.check_roots.Goals as goal

pub returns : goal.returns
returns c = λ definitions s.
    roots_checked c.check_single.result definitions _ _ c.args.operation_type c.deref.result.now
    (c.deref.ensures.value ∙ c.in_ok-places.ensures definitions s) c.check_single.ensures
