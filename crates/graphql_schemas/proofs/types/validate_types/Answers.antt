use Rattle.graphql_schemas.proofs.types.validate_types.Goals as goal

pub returns-clause-checks : goal.returns-clause-checks
returns-clause-checks c = rw c.in_ok-levels.ensures at c.validate_types_by_levels.ensures.checks
