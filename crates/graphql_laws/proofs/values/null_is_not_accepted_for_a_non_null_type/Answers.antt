use Rattle.graphql_laws.proofs.ValueLaws.{null_not_accepted}
use Rattle.graphql_laws.proofs.values.null_is_not_accepted_for_a_non_null_type.Goals as goal

pub returns : goal.returns
returns c = null_not_accepted
