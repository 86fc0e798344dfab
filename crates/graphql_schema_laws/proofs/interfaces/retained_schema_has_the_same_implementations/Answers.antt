use Rattle.graphql_schema_laws.proofs.RetainedInputLaws.{same_implementations}
use Rattle.graphql_schema_laws.proofs.interfaces.retained_schema_has_the_same_implementations.Goals as goal

pub returns : goal.returns
returns c schema retained name interface only is = same_implementations schema retained only is name interface
