use Rattle.std.proofs.Common.{◌+◌, ap, arith, length}
use Rattle.graphql_merging.specs.NumberedFields.{listed}
use Rattle.graphql_merging.specs.declared.groups.Pass.TheVariants.{NamesAndArguments}
use Rattle.graphql_merging.specs.Works.{arguments_compared}
use Rattle.graphql_merging.proofs.WeightLemmas.{arguments_more, compared_at_most, weight_more, weight_within}
use Rattle.graphql_merging.proofs.work.Work.count_groups.Goals as goal

pub loop-group-preserved : goal.loop-group-preserved
loop-group-preserved g c =
    let groups = c.args.groups.now in
    let i = c.loop-group.group-index in
    let group = c.group-item.result in
    record {
      unbounded = λ unbounded. (c.count_group.ensures.unbounded (c.loop-group.invariant.unbounded unbounded)).0;
      spends = λ bounded.
          let before = c.loop-group.invariant.spends bounded in
          let after = c.in_ok-count_group.ensures.spends before.0 in (
            after.0,
            omega (
              arith,
              before.1,
              after.1,
              ap (λ l. arguments_compared (listed l)) c.deref.ensures.value,
              arguments_more NamesAndArguments groups i group c.loop-group-test.true c.group-item.is,
              compared_at_most NamesAndArguments (listed group.items),
            ),
          );
      steps = omega (
        arith,
        c.loop-group.invariant.steps,
        c.take.ensures,
        c.count_group.ensures.steps,
        ap length c.deref.ensures.value,
        weight_more groups i group c.loop-group-test.true c.group-item.is,
      );
    }

pub returns-in_err-count_group-clause-steps : goal.returns-in_err-count_group-clause-steps
returns-in_err-count_group-clause-steps g c =
    let groups = c.args.groups.now in
    let i = c.loop-group.group-index in
    omega (
      arith,
      c.loop-group.invariant.steps,
      c.take.ensures,
      c.count_group.ensures.steps,
      ap length c.deref.ensures.value,
      weight_more groups i c.group-item.result c.loop-group-test.true c.group-item.is,
      weight_within groups (i + 1),
    )
