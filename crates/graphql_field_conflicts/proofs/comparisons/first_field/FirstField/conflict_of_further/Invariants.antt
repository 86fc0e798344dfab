use Rattle.std.proofs.Common.{◌≡◌, ◌≤◌, length, take}
use Rattle.graphql_field_conflicts.specs.Comparisons.{StandAmong}
use Rattle.graphql_field_conflicts.specs.FirstFields.{AreFirst}
use Rattle.graphql_field_conflicts.proofs.comparisons.first_field.FirstField.conflict_of_further.Given as goal

-- those so far were read, and agree
abbrev pub invariant-loop-i : goal.invariant-loop-i
invariant-loop-i l = record {
  within : l.i ≤ length l.arguments;
  seen : l.self.seen ≡ take l.i l.arguments;
  distinct : AreFirst l.self.distinct.items l.self.seen;
  agree : StandAmong (take l.i l.arguments) l.others;
  selection : l.self.selection ≡ l.initial.self.selection;
}
