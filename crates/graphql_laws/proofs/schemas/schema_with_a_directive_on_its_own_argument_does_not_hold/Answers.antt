use Rattle.graphql_laws.proofs.SchemaLaws.{directive_on_its_own_argument_breaks}
use Rattle.graphql_laws.proofs.schemas.schema_with_a_directive_on_its_own_argument_does_not_hold.Goals as goal

pub returns : goal.returns
returns c = directive_on_its_own_argument_breaks
