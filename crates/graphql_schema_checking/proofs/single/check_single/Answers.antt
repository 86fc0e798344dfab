use Rattle.graphql_schema_checking.proofs.RuleLemmas.{later_checked}
use Rattle.graphql_schema_checking.proofs.single.check_single.Goals as goal

pub returns-in-len1-up : goal.returns-in-len1-up
returns-in-len1-up c = later_checked c.check_later.result c.args.places.now c.args.what _ _ c.in-len1-up.len_at_least c.check_later.ensures
