use Rattle.graphql_laws.proofs.SchemaLaws.{directive_on_its_own_argument}
use Rattle.graphql_laws.proofs.schemas.directive_on_its_own_argument_has_a_cycle.Goals as goal

pub returns : goal.returns
returns c = directive_on_its_own_argument
