use Rattle.std.proofs.Common.{◌≤◌, ◌+◌, sum_by, take}
use Rattle.graphql_merging.specs.NumberedFields.{lists_of}
use Rattle.graphql_merging.specs.declared.groups.Pass.TheVariants.{NamesAndArguments}
use Rattle.graphql_merging.specs.Works.{IsUnbounded, Spends, compared_in, weight}
use Rattle.graphql_merging.proofs.work.Work.count_groups.Given as goal

abbrev pub invariant-loop-group : goal.invariant-loop-group
invariant-loop-group g l = record {
  unbounded : IsUnbounded l.initial.self → IsUnbounded l.self;
  spends : Spends l.initial.self l.self (sum_by (compared_in NamesAndArguments) (lists_of (take l.group-index l.groups)));
  steps : l.steps ≤ l.initial.steps + weight (lists_of (take l.group-index l.groups));
}
