use Rattle.graphql_laws.proofs.SchemaLaws.{circle_of_required_fields}
use Rattle.graphql_laws.proofs.schemas.required_fields_in_a_circle_are_a_cycle.Goals as goal

pub returns : goal.returns
returns c = circle_of_required_fields
