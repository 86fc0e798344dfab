use Rattle.graphql_schema_laws.proofs.InterfaceLaws.{implements_on}
use Rattle.graphql_schema_laws.proofs.interfaces.implementing_goes_on.Goals as goal

pub returns : goal.returns
returns c = implements_on
