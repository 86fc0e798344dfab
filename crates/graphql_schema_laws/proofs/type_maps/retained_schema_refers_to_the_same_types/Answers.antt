use Rattle.graphql_schema_laws.proofs.RetainedLaws.{same_references}
use Rattle.graphql_schema_laws.proofs.type_maps.retained_schema_refers_to_the_same_types.Goals as goal

pub returns : goal.returns
returns c = same_references
