use Rattle.graphql_schemas.proofs.directive_definitions.validate_directive_definitions.Goals as goal

pub returns-clause-checks : goal.returns-clause-checks
returns-clause-checks c = rw c.in_ok-levels.ensures at c.validate_definitions_by_levels.ensures.checks
