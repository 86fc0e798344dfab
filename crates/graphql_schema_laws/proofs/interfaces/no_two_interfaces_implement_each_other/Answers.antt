use Rattle.graphql_schema_laws.proofs.InterfaceLaws.{not_both_ways}
use Rattle.graphql_schema_laws.proofs.interfaces.no_two_interfaces_implement_each_other.Goals as goal

pub returns : goal.returns
returns c = not_both_ways
