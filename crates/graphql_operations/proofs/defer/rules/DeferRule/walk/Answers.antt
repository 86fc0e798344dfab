use Rattle.graphql_operations.proofs.defer.rules.DeferRule.walk.Goals as goal

pub returns-in-CanBeDisabled : goal.returns-in-CanBeDisabled
returns-in-CanBeDisabled c = rw c.in-CanBeDisabled.is c.walk_open_selections.ensures
