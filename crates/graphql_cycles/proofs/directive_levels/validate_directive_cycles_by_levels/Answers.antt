use Rattle.graphql_diagnostics.specs.Diagnostics.{IsLimitEntry}
use Rattle.graphql_diagnostics.proofs.ReportLemmas.{holds}
use Rattle.graphql_diagnostics.proofs.ReportWithinLemmas.{within}
use Rattle.graphql_cycles.proofs.directive_levels.validate_directive_cycles_by_levels.Goals as goal

pub returns-then-on_no_cycle : goal.returns-then-on_no_cycle
returns-then-on_no_cycle c = within IsLimitEntry (holds _ _ _ (c.in_ok-on_no_cycle.ensures c.if-on_no_cycle.true))
