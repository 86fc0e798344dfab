use Rattle.std.proofs.Common.{◌<◌, All}
use Rattle.graphql_number_sets.specs.NumberSets.{AreExact, numbers_of}
use Rattle.graphql_merging_tests.proofs.sets.numbers_below.Given as goal

abbrev pub invariant-loop-number : goal.invariant-loop-number
invariant-loop-number g l = record {
  exact : AreExact l.numbers;
  within : All (λ n. n < l.number) (numbers_of l.numbers);
}
