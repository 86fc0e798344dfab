use Rattle.graphql_schema_laws.proofs.AcceptedAgainLaws.{defaults_again, holds_after}
use Rattle.graphql_schema_laws.proofs.accepted_schemas.accepted_schema_is_accepted_again.Goals as goal

pub returns : goal.returns
returns c = λ schema retained again scalars has holds is defaults once_more.
    (holds_after schema retained scalars has is holds, defaults_again schema retained again scalars is once_more defaults)
