use Rattle.std.proofs.Common.{take, ◌≡◌, ◌+◌, ◌≤◌, length}
use Rattle.graphql_merging.specs.Groups.{pass_of}
use Rattle.graphql_pair_merging.specs.Pairs.{AreFieldsOf}
use Rattle.graphql_pair_merging.specs.NumberedSets.{count_fields}
use Rattle.graphql_pair_merging.proofs.pairs.PairPass.fields_of.Given as goal

abbrev pub invariant-loop-number : goal.invariant-loop-number
invariant-loop-number g l = record {
  fields : AreFieldsOf l.self.schema.now (pass_of l.self.pass) l.self.sets.now (take l.number-index l.numbers) l.fields.items;
  count : length l.fields.items ≡ count_fields l.self.sets.now (take l.number-index l.numbers);
  cost : l.steps ≤ l.initial.steps + l.number-index + count_fields l.self.sets.now (take l.number-index l.numbers);
}
