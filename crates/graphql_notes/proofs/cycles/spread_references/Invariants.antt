use Rattle.std.proofs.Common.{◌≡◌, map, take}
use Rattle.graphql_notes.specs.Cycles.{spread_step, step_of}
use Rattle.graphql_notes.proofs.cycles.spread_references.Given as goal

abbrev pub invariant-loop-spread : goal.invariant-loop-spread
invariant-loop-spread l = map step_of l.references.items ≡ map spread_step (take l.spread-index l.spreads)
