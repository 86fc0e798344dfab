use Rattle.std.proofs.Common.{take}
use Rattle.std.specs.Prelude.{filter_map}
use Rattle.graphql_frontend.specs.Places.{HasThese, reported_end}
use Rattle.graphql_frontend.proofs.document_rules.reported_ends.Given as goal

abbrev pub invariant-loop-entry : goal.invariant-loop-entry
invariant-loop-entry l = HasThese (filter_map reported_end (take l.entry-index l.entry-items)) l.ends
