use Rattle.graphql_schema_laws.proofs.InterfaceLaws.{not_implements_itself}
use Rattle.graphql_schema_laws.proofs.interfaces.no_type_implements_itself.Goals as goal

pub returns : goal.returns
returns c = not_implements_itself
