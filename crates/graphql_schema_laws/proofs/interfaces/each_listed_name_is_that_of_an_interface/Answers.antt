use Rattle.graphql_schema_laws.proofs.InterfaceLaws.{listed_is_interface}
use Rattle.graphql_schema_laws.proofs.interfaces.each_listed_name_is_that_of_an_interface.Goals as goal

pub returns : goal.returns
returns c = listed_is_interface
