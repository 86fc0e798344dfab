use Rattle.graphql_laws.proofs.SchemaLaws.{empty_enum_breaks}
use Rattle.graphql_laws.proofs.schemas.schema_with_an_empty_enum_does_not_hold.Goals as goal

pub returns : goal.returns
returns c = empty_enum_breaks
