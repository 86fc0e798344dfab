use Rattle.std.proofs.Common.{arith, ◌-◌, ◌<◌, ◌^◌}
use Rattle.graphql_pair_merging.proofs.StepLemmas.{count_more}
use Rattle.graphql_pair_merging.proofs.pairs.PairPass.count_fields.Goals as goal

pub loop-number-preserved : goal.loop-number-preserved
loop-number-preserved g c =
    let more = count_more c.args.self.now.sets.now c.as_slice-number-items.result.now c.loop-number.number-index c.loop-number-test.true in
    record {
      units = λ small.
          let before : c.loop-number.units < 2 ^ 64 - 1 = omega (arith, small) in
          omega (arith, small, before, c.loop-number.invariant.units before, more);
      cost = omega (arith, c.loop-number.invariant.cost, c.take.ensures);
    }
