-- The items and the entries that were passed have numbers.
use Rattle.std.proofs.Common.{take}
use Rattle.graphql_value_numbers.specs.Numbers.{AreEntriesNumbered, AreItemsNumbered, Grows}
use Rattle.graphql_value_numbers.specs.Tables.{shapes_of}
use Rattle.graphql_value_numbers.proofs.values.ValueNumbers.+numbering.Given as goal

abbrev pub invariant-number_entries-loop-name : goal.invariant-number_entries-loop-name
invariant-number_entries-loop-name l = record {
  grows : Grows (shapes_of l.initial.self) (shapes_of l.self);
  numbers : AreEntriesNumbered (shapes_of l.self) (take l.name-index l.entries) l.numbers;
}

abbrev pub invariant-number_items-loop-item : goal.invariant-number_items-loop-item
invariant-number_items-loop-item l = record {
  grows : Grows (shapes_of l.initial.self) (shapes_of l.self);
  numbers : AreItemsNumbered (shapes_of l.self) (take l.item-index l.items) l.numbers.items;
}
