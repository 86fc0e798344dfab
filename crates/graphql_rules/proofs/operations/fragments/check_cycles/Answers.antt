-- Where it is known that no path leads back to a fragment, nothing is reported.
use Rattle.graphql_diagnostics.proofs.ReportLemmas.{holds}
use Rattle.graphql_diagnostics.proofs.ReportWithinLemmas.{within}
use Rattle.graphql_diagnostics.specs.Diagnostics.{IsLimitEntry}
use Rattle.graphql_rules.proofs.operations.fragments.check_cycles.Goals as goal

pub returns-then-has_no_cycle : goal.returns-then-has_no_cycle
returns-then-has_no_cycle c = λ schema. within IsLimitEntry (holds _ _ _ (c.requires c.if-has_no_cycle.true))
