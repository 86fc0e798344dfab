use Rattle.graphql_variables.proofs.usage.validate_variable_usage.Goals as goal

pub returns-clause-answer : goal.returns-clause-answer
returns-clause-answer c = rw c.in_ok-variables.ensures at c.check_variable_usage.ensures.answer

pub returns-clause-checks : goal.returns-clause-checks
returns-clause-checks c = rw c.in_ok-variables.ensures at c.check_variable_usage.ensures.checks
