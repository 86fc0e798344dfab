use Rattle.std.proofs.Common.{rules}
use Rattle.graphql_building_reports.proofs.rules.BuildingRuleDisplay.fmt.Goals as goal

pub returns-in-UndefinedField-clause-writes : goal.returns-in-UndefinedField-clause-writes
returns-in-UndefinedField-clause-writes g c = rw c.in-UndefinedField.is (search rules)

pub returns-in-SubselectionOnLeafType-clause-writes :
    goal.returns-in-SubselectionOnLeafType-clause-writes
returns-in-SubselectionOnLeafType-clause-writes g c = rw c.in-SubselectionOnLeafType.is (search rules)
