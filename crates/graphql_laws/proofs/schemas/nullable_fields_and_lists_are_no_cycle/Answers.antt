use Rattle.graphql_laws.proofs.SchemaLaws.{no_required_field}
use Rattle.graphql_laws.proofs.schemas.nullable_fields_and_lists_are_no_cycle.Goals as goal

pub returns : goal.returns
returns c = no_required_field
