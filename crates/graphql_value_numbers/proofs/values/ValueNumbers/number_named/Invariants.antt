-- The arguments that were passed have numbers.
use Rattle.std.proofs.Common.{take}
use Rattle.graphql_value_numbers.specs.Arguments.{AreArgumentsNumbered}
use Rattle.graphql_value_numbers.specs.Numbers.{Grows}
use Rattle.graphql_value_numbers.specs.Tables.{shapes_of}
use Rattle.graphql_value_numbers.proofs.values.ValueNumbers.number_named.Given as goal

abbrev pub invariant-loop-argument : goal.invariant-loop-argument
invariant-loop-argument l = record {
  grows : Grows (shapes_of l.initial.self) (shapes_of l.self);
  numbers : AreArgumentsNumbered (shapes_of l.self) (take l.argument-index l.arguments) l.numbers;
}
