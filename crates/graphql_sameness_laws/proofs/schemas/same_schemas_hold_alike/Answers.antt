use Rattle.graphql_sameness_laws.proofs.SchemaRuleLemmas.{schema_holds_too}
use Rattle.graphql_sameness_laws.proofs.schemas.same_schemas_hold_alike.Goals as goal

pub returns : goal.returns
returns c = schema_holds_too
