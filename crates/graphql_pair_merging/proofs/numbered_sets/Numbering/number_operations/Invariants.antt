use Rattle.std.proofs.Common.{◌≡◌, ◌++◌, Some, map, take, ◌+◌}
use Rattle.std.specs.Prelude.{slice_get}
use Rattle.graphql_pair_merging.specs.NumberedSets.{operation_sets, sets_at}
use Rattle.graphql_pair_merging.proofs.numbered_sets.Numbering.number_operations.Given as goal

abbrev pub invariant-loop-operation : goal.invariant-loop-operation
invariant-loop-operation g l = record {
  fragments : l.self.fragments ≡ l.initial.self.fragments;
  values : l.self.values ≡ l.initial.self.values;
  sets : sets_at l.self.sets.items ≡ sets_at l.initial.self.sets.items ++ operation_sets (take l.operation-index l.operations);
  numbers : map (slice_get (sets_at l.self.sets.items)) l.numbers.items ≡ map (λ s. Some s) (operation_sets (take l.operation-index l.operations));
  cost : l.steps ≡ l.initial.steps + l.operation-index;
}
