use Rattle.graphql_schema_laws.proofs.InterfaceLaws.{type_lists_on}
use Rattle.graphql_schema_laws.proofs.interfaces.each_type_lists_what_its_interfaces_list.Goals as goal

pub returns : goal.returns
returns c = type_lists_on
