use Rattle.std.proofs.Common.{◌≡◌, ◌+◌, sum_by, take}
use Rattle.graphql_merging.specs.NumberedFields.{listed}
use Rattle.graphql_merging.specs.Works.{IsUnbounded, Spends, count_of_arguments}
use Rattle.graphql_merging.proofs.work.Work.count_group.Given as goal

abbrev pub invariant-loop-field : goal.invariant-loop-field
invariant-loop-field g l = record {
  unbounded : IsUnbounded l.initial.self → IsUnbounded l.self;
  spends : Spends l.initial.self l.self (sum_by (λ y. l.of_first + count_of_arguments y) (listed (take l.field-index l.rest)));
  steps : l.steps ≡ l.initial.steps + l.field-index;
}
