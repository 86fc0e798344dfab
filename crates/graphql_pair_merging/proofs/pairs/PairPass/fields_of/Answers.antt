use Rattle.std.proofs.Common.{◌<◌, ◌+◌, ◌++◌, ap, get_or, length, refl, subst, sym, take, ◌∙◌, arith, ◌≡◌, vec_len}
use Rattle.std.proofs.lemmas.List.{take_all, take_more, length-append}
use Rattle.std.proofs.lemmas.List.Elements.{All-get_or}
use Rattle.std.proofs.lemmas.Option.{slice_get_read}
use Rattle.graphql_merging.specs.Groups.{pass_of}
use Rattle.graphql_pair_merging.specs.Pairs.{AreFieldsOf}
use Rattle.graphql_pair_merging.specs.declared.numbered_sets.NumberedSet.{NumberedSet}
use Rattle.graphql_pair_merging.proofs.JoinLemmas.{fields_more}
use Rattle.graphql_pair_merging.proofs.StepLemmas.{count_more, count_fewer}
use Rattle.graphql_pair_merging.specs.NumberedSets.{count_in}
use Rattle.graphql_pair_merging.proofs.pairs.PairPass.fields_of.Goals as goal

pub loop-number-preserved : goal.loop-number-preserved
loop-number-preserved g c =
    let self = c.args.self.now in
    let sets = self.sets.now in
    let numbers = c.args.numbers.now in
    let i = c.loop-number.number-index in
    let number = get_or numbers i 0 in
    let within = All-get_or (λ n. n < length sets) numbers i 0 c.loop-number-test.true c.requires in
    let set = c.index-self-number.result in
    let more = count_more sets numbers i c.loop-number-test.true in
    let here = ap count_in (slice_get_read sets (length sets) number set refl within c.index-self-number.is) in
    let own = ap length c.deref.ensures.value in
    let same = ap (λ (r : NumberedSet). length r.fields.items) c.index-self-number.is in
    record {
      count = omega (arith, c.loop-number.invariant.count, more, here, own, same, ap length c.in_ok-extend_from_slice.ensures.items, length-append c.loop-number.fields.items c.deref.result.now);
      cost = omega (arith, c.loop-number.invariant.cost, more, here, own, same, c.take.ensures, c.take-in-loop-number.ensures, c.len.ensures);
      fields = fields_more self.schema.now (pass_of self.pass) sets (take i numbers) (take (i + 1) numbers) number set c.loop-number.fields.items c.extend_from_slice.new.self.items (take_more numbers i 0 c.loop-number-test.true)
          (slice_get_read sets (length sets) number set refl within c.index-self-number.is)
          (c.in_ok-extend_from_slice.ensures.items ∙ ap (λ l. c.loop-number.fields.items ++ l) (c.deref.ensures.value ∙ ap (λ (r : NumberedSet). r.fields.items) (sym c.index-self-number.is))) c.loop-number.invariant.fields;
    }

pub returns-clause-fields : goal.returns-clause-fields
returns-clause-fields g c =
    let self = c.args.self.now in
    subst (λ l. AreFieldsOf self.schema.now (pass_of self.pass) self.sets.now l c.loop-number.fields.items) (take_all c.loop-number.number-index c.args.numbers.now c.loop-number-test.false) c.loop-number.invariant.fields

pub returns-in_err-extend_from_slice-clause-cost : goal.returns-in_err-extend_from_slice-clause-cost
returns-in_err-extend_from_slice-clause-cost g c =
    let sets = c.args.self.now.sets.now in
    let numbers = c.args.numbers.now in
    let i = c.loop-number.number-index in
    let number = get_or numbers i 0 in
    let within = All-get_or (λ n. n < length sets) numbers i 0 c.loop-number-test.true c.requires in
    let set = c.index-self-number.result in
    let ticked : c.take.new.self ≡ c.loop-number.steps + 1 = c.take.ensures in
    let walked : c.take-in-loop-number.new.self ≡ c.take.new.self + c.len.result = c.take-in-loop-number.ensures in
    omega (
      arith,
      c.loop-number.invariant.cost,
      c.loop-number-test.true,
      ticked,
      walked,
      set.fields.ok.0,
      count_more sets numbers i c.loop-number-test.true,
      count_fewer sets numbers (i + 1),
      ap count_in (slice_get_read sets (length sets) number set refl within c.index-self-number.is),
      ap (λ (r : NumberedSet). length r.fields.items) c.index-self-number.is,
      ap (λ (r : NumberedSet). vec_len r.fields) c.index-self-number.is,
    )
