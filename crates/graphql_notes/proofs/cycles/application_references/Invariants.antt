use Rattle.std.proofs.Common.{◌≡◌, map, take}
use Rattle.graphql_notes.specs.Cycles.{application_step, step_of}
use Rattle.graphql_notes.proofs.cycles.application_references.Given as goal

abbrev pub invariant-loop-directive : goal.invariant-loop-directive
invariant-loop-directive l = map step_of l.references.items ≡ map application_step (take l.directive-index l.directives)
