use Rattle.graphql_laws.proofs.SchemaLaws.{circle_of_required_fields_breaks}
use Rattle.graphql_laws.proofs.schemas.schema_with_required_fields_in_a_circle_does_not_hold.Goals as goal

pub returns : goal.returns
returns c = circle_of_required_fields_breaks
