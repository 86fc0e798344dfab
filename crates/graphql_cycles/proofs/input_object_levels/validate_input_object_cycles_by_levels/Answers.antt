use Rattle.graphql_diagnostics.specs.Diagnostics.{IsLimitEntry}
use Rattle.graphql_diagnostics.proofs.ReportLemmas.{holds}
use Rattle.graphql_diagnostics.proofs.ReportWithinLemmas.{within}
use Rattle.graphql_cycles.proofs.input_object_levels.validate_input_object_cycles_by_levels.Goals as goal

pub returns-then-is_known_without_cycle : goal.returns-then-is_known_without_cycle
returns-then-is_known_without_cycle c = within IsLimitEntry (holds _ _ _ (c.is_known_without_cycle.ensures.no_cycle c.if-is_known_without_cycle.true))
