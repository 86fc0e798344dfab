use Rattle.graphql_building_laws.proofs.OutputFieldLaws.{has_output_fields}
use Rattle.graphql_building_laws.proofs.laws.retained_schema_has_output_fields.Goals as goal

pub returns : goal.returns
returns c = has_output_fields
