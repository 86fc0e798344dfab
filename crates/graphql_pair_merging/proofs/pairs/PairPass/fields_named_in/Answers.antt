use Rattle.std.proofs.Common.{◌<◌, ◌+◌, ap, get_or, length, refl, subst, sym, take, ◌∙◌, arith}
use Rattle.std.proofs.lemmas.List.{take_all, take_more}
use Rattle.std.proofs.lemmas.List.Elements.{All-get_or}
use Rattle.std.proofs.lemmas.Option.{slice_get_read}
use Rattle.graphql_merging.specs.Groups.{pass_of}
use Rattle.graphql_pair_merging.specs.FieldGroups.{AddsNamed}
use Rattle.graphql_pair_merging.specs.Pairs.{AreNamedIn}
use Rattle.graphql_pair_merging.specs.declared.field_groups.GroupedBy.TheVariants.{ResponseKey}
use Rattle.graphql_pair_merging.specs.declared.numbered_sets.NumberedSet.{NumberedSet}
use Rattle.graphql_pair_merging.proofs.JoinLemmas.{named_more}
use Rattle.graphql_pair_merging.proofs.StepLemmas.{count_more, count_fewer}
use Rattle.graphql_pair_merging.specs.NumberedSets.{count_in}
use Rattle.graphql_pair_merging.proofs.pairs.PairPass.fields_named_in.Goals as goal

pub loop-number-preserved : goal.loop-number-preserved
loop-number-preserved g c =
    let self = c.args.self.now in
    let sets = self.sets.now in
    let groups = c.args.groups.now.entries in
    let numbers = c.args.numbers.now in
    let i = c.loop-number.number-index in
    let number = get_or numbers i 0 in
    let within = All-get_or (λ n. n < length sets) numbers i 0 c.loop-number-test.true c.requires in
    let set = c.index-self-number.result in
    let old = c.loop-number.fields.items in
    let new = c.add_named_in.new.fields.items in
    let more = count_more sets numbers i c.loop-number-test.true in
    let here = ap count_in (slice_get_read sets (length sets) number set refl within c.index-self-number.is) in
    let others = ap length c.deref.ensures.value in
    let walked = c.add_named_in.ensures.cost in
    record {
      cost = omega (arith, c.loop-number.invariant.cost, c.take.ensures, more, here, others, walked, ap (λ (r : NumberedSet). length r.fields.items) c.index-self-number.is);
      named = named_more self.schema.now (pass_of self.pass) sets groups (take i numbers) (take (i + 1) numbers) number set old new (take_more numbers i 0 c.loop-number-test.true)
          (slice_get_read sets (length sets) number set refl within c.index-self-number.is)
          (subst (λ l. AddsNamed ResponseKey groups l old new) (c.deref.ensures.value ∙ ap (λ (r : NumberedSet). r.fields.items) (sym c.index-self-number.is)) c.in_ok-add_named_in.ensures.added)
          c.loop-number.invariant.named;
    }

pub returns-clause-named : goal.returns-clause-named
returns-clause-named g c =
    let self = c.args.self.now in
    subst (λ l. AreNamedIn self.schema.now (pass_of self.pass) self.sets.now c.args.groups.now.entries l c.loop-number.fields.items)
    (take_all c.loop-number.number-index c.args.numbers.now c.loop-number-test.false) c.loop-number.invariant.named

pub returns-in_err-add_named_in-clause-cost : goal.returns-in_err-add_named_in-clause-cost
returns-in_err-add_named_in-clause-cost g c =
    let sets = c.args.self.now.sets.now in
    let numbers = c.args.numbers.now in
    let i = c.loop-number.number-index in
    let number = get_or numbers i 0 in
    let within = All-get_or (λ n. n < length sets) numbers i 0 c.loop-number-test.true c.requires in
    let set = c.index-self-number.result in
    omega (
      arith,
      c.loop-number.invariant.cost,
      c.loop-number-test.true,
      c.take.ensures,
      count_more sets numbers i c.loop-number-test.true,
      count_fewer sets numbers (i + 1),
      ap count_in (slice_get_read sets (length sets) number set refl within c.index-self-number.is),
      ap length c.deref.ensures.value,
      c.add_named_in.ensures.cost,
      ap (λ (r : NumberedSet). length r.fields.items) c.index-self-number.is,
    )
