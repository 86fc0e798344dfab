-- The selections that were passed have numbers.
use Rattle.std.proofs.Common.{take}
use Rattle.graphql_contents.specs.Contents.{AreNumbered, Grows}
use Rattle.graphql_contents.specs.Tables.{contents_of}
use Rattle.graphql_contents.proofs.contents.Contents.+numbering.Given as goal

abbrev pub invariant-number_set-loop-selection : goal.invariant-number_set-loop-selection
invariant-number_set-loop-selection l = record {
  grows : Grows (contents_of l.initial.self) (contents_of l.self);
  numbers : AreNumbered (contents_of l.self) (take l.selection-index l.selection-items) l.numbers.items;
}
