use Rattle.std.proofs.Common.{take}
use Rattle.std.specs.Prelude.{filter_map}
use Rattle.graphql_frontend.specs.Places.{HasThese, undefined_place}
use Rattle.graphql_frontend.proofs.document_rules.undefined_places.Given as goal

abbrev pub invariant-loop-entry : goal.invariant-loop-entry
invariant-loop-entry l = HasThese (filter_map undefined_place (take l.entry-index l.entry-items)) l.places
