use Rattle.std.proofs.Common.{◌≡◌, ◌-◌, drop, length, map}
use Rattle.graphql_notes.specs.Cycles.{cycle_labels, source_of, step_of}
use Rattle.graphql_notes.specs.Labels.{label_of, labels_beside}
use Rattle.graphql_notes.proofs.cycles.notes_of_cycle.Given as goal

abbrev pub invariant-loop-done : goal.invariant-loop-done
invariant-loop-done l =
    (l.count ≡ length l.references)
    × (l.source ≡ source_of l.name (map step_of (drop (l.count - l.done) l.references)))
    × (map label_of l.notes.items ≡ labels_beside l.at (cycle_labels l.name (map step_of (drop (l.count - l.done) l.references))))
