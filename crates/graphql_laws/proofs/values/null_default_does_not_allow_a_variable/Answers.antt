use Rattle.graphql_laws.proofs.ValueLaws.{null_default_is_none}
use Rattle.graphql_laws.proofs.values.null_default_does_not_allow_a_variable.Goals as goal

pub returns : goal.returns
returns c = null_default_is_none
