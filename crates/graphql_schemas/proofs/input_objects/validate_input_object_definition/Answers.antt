use Rattle.graphql_schemas.proofs.input_objects.validate_input_object_definition.Goals as goal

pub returns-clause-checks : goal.returns-clause-checks
returns-clause-checks c = rw c.unknown-levels.ensures at c.validate_input_object_by_levels.ensures.checks
