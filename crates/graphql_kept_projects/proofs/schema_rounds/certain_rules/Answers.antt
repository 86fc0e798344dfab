use Rattle.std.proofs.Common.{refl}
use Rattle.graphql_kept_projects.specs.Schemas.{are_some}
use Rattle.graphql_kept_projects.proofs.schema_rounds.certain_rules.Goals as goal

pub returns : goal.returns
returns c = are_some c.in_ok-rules.ensures refl
