use Rattle.std.proofs.Common.{◌≤◌, ◌+◌, ap, arith, length, sum_by, take}
use Rattle.std.proofs.lemmas.List.{take_all}
use Rattle.graphql_documents.specs.declared.documents.executables.Field.{Field}
use Rattle.graphql_merging.specs.NumberedFields.{listed, selection_of}
use Rattle.graphql_merging.specs.Works.{arguments_compared, count_of_arguments, left_in}
use Rattle.graphql_merging.proofs.WeightLemmas.{arguments_at_most, more_arguments}
use Rattle.graphql_merging.proofs.work.Work.count_group.Goals as goal

pub loop-field-preserved : goal.loop-field-preserved
loop-field-preserved g c =
    let n = c.units_of-of_first.result in
    let rest = c.in-Some.rest.now in
    let i = c.loop-field.field-index in
    let x = c.field-item.result in
    record {
      unbounded = λ unbounded. (c.count-in-loop-field.ensures.unbounded (c.count.ensures.unbounded (c.loop-field.invariant.unbounded unbounded)).0).0;
      spends = λ bounded.
          let before = c.loop-field.invariant.spends bounded in
          let was : left_in c.loop-field.self + sum_by (λ y. n + count_of_arguments y) (listed (take i rest)) ≤ left_in c.args.self.now = before.1 in
          let one = c.in_ok-count.ensures.spends before.0 in
          let two = c.in_ok-count-2.ensures.spends one.0 in
          let few : count_of_arguments (selection_of x) ≤ c.units_of.result =
          omega (arith, ap length c.deref-in-loop-field-2.ensures.value, ap (λ (f : Field). length f.arguments.items) c.deref-in-loop-field.ensures, c.units_of.ensures) in
          let now : left_in c.count-in-loop-field.new.self + sum_by (λ y. n + count_of_arguments y) (listed (take (i + 1) rest)) ≤ left_in c.args.self.now =
          omega (arith, was, one.1, two.1, few, more_arguments n rest i x c.loop-field-test.true c.field-item.is) in
          (two.0, now);
      steps = omega (arith, c.loop-field.invariant.steps, c.take.ensures);
    }

pub returns-clause-spends : goal.returns-clause-spends
returns-clause-spends g c bounded =
    let n = c.units_of-of_first.result in
    let rest = c.in-Some.rest.now in
    let i = c.loop-field.field-index in
    let before = c.loop-field.invariant.spends bounded in
    let was : left_in c.loop-field.self + sum_by (λ y. n + count_of_arguments y) (listed (take i rest)) ≤ left_in c.args.self.now = before.1 in
    let first = selection_of c.in-Some.first.now in
    let few : count_of_arguments first ≤ n =
    omega (arith, ap length c.deref-2.ensures.value, ap (λ (f : Field). length f.arguments.items) c.deref.ensures, c.units_of-of_first.ensures) in (
      before.0,
      omega (
        arith,
        was,
        ap (λ l. sum_by (λ y. n + count_of_arguments y) (listed l)) (take_all i rest c.loop-field-test.false),
        arguments_at_most n first (listed rest) few,
        ap (λ l. arguments_compared (listed l)) c.in-Some.ensures.cases.0,
      ),
    )
