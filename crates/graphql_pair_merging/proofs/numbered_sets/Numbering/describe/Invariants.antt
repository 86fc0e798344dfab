use Rattle.std.proofs.Common.{◌≡◌, ◌++◌, take, ◌+◌}
use Rattle.std.specs.Prelude.{filter_map}
use Rattle.graphql_merging.specs.ExpansionSteps.{fragments_in}
use Rattle.graphql_pair_merging.specs.NumberedSets.{AreArgumentsNumbered, Describes, sets_at, written_set}
use Rattle.graphql_value_numbers.specs.Numbers.{Grows}
use Rattle.graphql_value_numbers.specs.Tables.{shapes_of}
use Rattle.graphql_pair_merging.proofs.numbered_sets.Numbering.describe.Given as goal

abbrev pub invariant-loop-selection : goal.invariant-loop-selection
invariant-loop-selection g l = record {
  fragments : l.self.fragments ≡ l.initial.self.fragments;
  set : l.described.set ≡ l.initial.described.set;
  sets : sets_at l.self.sets.items ≡ sets_at l.initial.self.sets.items ++ filter_map written_set (take l.selection-index l.selection-items);
  described : Describes (fragments_in l.initial.self.fragments.now) (sets_at l.self.sets.items) l.set.ty (take l.selection-index l.selection-items) l.described;
  grows : Grows (shapes_of l.initial.self.values) (shapes_of l.self.values);
  arguments : AreArgumentsNumbered (shapes_of l.self.values) l.described.fields.items;
  cost : l.steps ≡ l.initial.steps + l.selection-index;
}
