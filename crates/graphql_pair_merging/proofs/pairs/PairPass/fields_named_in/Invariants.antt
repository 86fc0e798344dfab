use Rattle.std.proofs.Common.{take, ◌+◌, ◌≤◌}
use Rattle.graphql_merging.specs.Groups.{pass_of}
use Rattle.graphql_pair_merging.specs.Pairs.{AreNamedIn}
use Rattle.graphql_pair_merging.specs.NumberedSets.{count_fields}
use Rattle.graphql_pair_merging.proofs.pairs.PairPass.fields_named_in.Given as goal

abbrev pub invariant-loop-number : goal.invariant-loop-number
invariant-loop-number g l = record {
  named : AreNamedIn l.self.schema.now (pass_of l.self.pass) l.self.sets.now l.groups.entries (take l.number-index l.numbers) l.fields.items;
  cost : l.steps ≤ l.initial.steps + l.number-index + count_fields l.self.sets.now (take l.number-index l.numbers);
}
