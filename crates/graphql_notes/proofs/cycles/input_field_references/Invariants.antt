use Rattle.std.proofs.Common.{◌≡◌, map, take}
use Rattle.graphql_notes.specs.Cycles.{input_field_step, step_of}
use Rattle.graphql_notes.proofs.cycles.input_field_references.Given as goal

abbrev pub invariant-loop-field : goal.invariant-loop-field
invariant-loop-field l = map step_of l.references.items ≡ map input_field_step (take l.field-index l.fields)
