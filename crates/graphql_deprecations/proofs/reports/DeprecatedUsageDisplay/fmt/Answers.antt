use Rattle.std.proofs.Common.{rules, sym}
use Rattle.graphql_deprecations.specs.Deprecations.{usage_text}
use Rattle.graphql_deprecations.proofs.reports.DeprecatedUsageDisplay.fmt.Goals as goal

pub returns-clause-writes : goal.returns-clause-writes
returns-clause-writes g c = rw (usage_text, sym c.reason-reason.ensures) (search rules)
