use Rattle.std.proofs.Common.{arith}
use Rattle.graphql_cycles.proofs.DirectiveLevelLemmas.{parts_within}
use Rattle.graphql_cycles.proofs.DirectiveRankLemmas.{ranks_of_levels}
use Rattle.graphql_cycles.proofs.directive_levels.DirectiveLevels.unknown.Goals as goal

pub invariant_of-result : goal.invariant_of-result
invariant_of-result c = record {
  lower = ∣ parts_within (omega arith) (c.unknown.ensures c.args.schema.now) ∣₁;
  ranked = ∣ ranks_of_levels (c.unknown-2.ensures c.args.schema.now) ∣₁;
}
