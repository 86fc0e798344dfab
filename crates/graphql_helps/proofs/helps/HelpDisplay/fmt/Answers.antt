use Rattle.std.proofs.Common.{rules}
use Rattle.graphql_helps.proofs.helps.HelpDisplay.fmt.Goals as goal

pub returns-in-Select-clause-writes : goal.returns-in-Select-clause-writes
returns-in-Select-clause-writes g c = rw c.in-Select.is (search rules)
