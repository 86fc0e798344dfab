use Rattle.std.proofs.Common.{Contains, subst, sym, ◌∙◌, ◌+◌, ◌*◌, ◌/◌, ◌≤◌, arith, ap, length, mul-le-mul_left, ◌≡◌, ◌-◌, ◌^◌, ◌<◌}
use Rattle.graphql_merging.specs.Groups.{pass_of}
use Rattle.graphql_number_sets.specs.NumberSets.{numbers_of}
use Rattle.graphql_pair_merging.specs.Pairs.{AreFieldsAround, lists_at}
use Rattle.graphql_pair_merging.proofs.ArgumentNumberLemmas.{numbers_in_sets}
use Rattle.graphql_pair_merging.proofs.SettleLemmas.{looked_or_found}
use Rattle.graphql_pair_merging.proofs.StepLemmas.{on_ok}
use Rattle.graphql_pair_merging.specs.Works.{Paid, places_in, counted_of}
use Rattle.graphql_pair_merging.specs.NumberedSets.{count_fields}
use Rattle.std.proofs.lemmas.List.{length-map}
use Rattle.std.specs.Prelude.{min}
use Rattle.graphql_pair_merging.proofs.pairs.PairPass.look_at.Goals as goal

pub returns-clause-found : goal.returns-clause-found
returns-clause-found g c =
    let self = c.args.self.now in
    let schema = self.schema.now in
    let pass = pass_of self.pass in
    let fields = c.deref.result.now in
    let joined = c.args.joined.now in
    let are = subst (λ l. AreFieldsAround schema pass self.sets.now (numbers_of joined.ends) (numbers_of joined.all) l) (sym c.deref.ensures.value) (subst (λ l. AreFieldsAround schema pass self.sets.now (numbers_of joined.ends) l c.in_ok-fields.fields.items) c.as_slice-2.ensures
    (subst (λ l. AreFieldsAround schema pass self.sets.now l c.as_slice-2.result.now c.in_ok-fields.fields.items) c.as_slice.ensures c.in_ok-fields.ensures.around)) in
    looked_or_found schema pass c.look_by_keys.result self.sets.now (numbers_of joined.ends) (numbers_of joined.all) fields (lists_at c.args.waiting.now.items) (lists_at c.look_by_keys.new.waiting.items) are
    (c.look_by_keys.ensures.found fields (numbers_in_sets schema pass self.sets.now (numbers_of joined.all) fields are.among c.requires.numbers) c.in_ok-groups.ensures.grouped (c.deref-2.ensures.value ∙ c.in_ok-keys.ensures.names))

pub fields_around-requires-clause-among : goal.fields_around-requires-clause-among
fields_around-requires-clause-among g c = λ n in'.
    subst (λ l. Contains l n) (sym c.as_slice-2.ensures) (c.requires.among n (subst (λ l. Contains l n) c.as_slice.ensures in'))

pub returns-clause-spare : goal.returns-clause-spare
returns-clause-spare g c =
    let sets = c.args.self.now.sets.now in
    let count = length sets in
    let joined = c.args.joined.now in
    let ends = numbers_of joined.ends in
    let all = numbers_of joined.all in
    let row : 2 * (count / 64) + 70 ≤ 100 * (count / 1024 + 1) = omega arith in
    let a = c.as_slice.result.now in
    let b = c.as_slice-2.result.now in
    let entries = c.in_ok-groups.groups.entries in
    let places = 3 * places_in (lists_at c.args.waiting.now.items) in
    let places_then = 3 * places_in (lists_at c.look_by_keys.new.waiting.items) in
    let counted : counted_of c.spend.new.self ≡ min (counted_of c.args.work.now + c.count_fields.result) (2 ^ 64 - 1) = c.spend.ensures.counted in
    let counted_all : counted_of c.spend-2.new.self ≡ min (counted_of c.spend.new.self + c.count_fields-2.result) (2 ^ 64 - 1) = c.spend-2.ensures.counted in
    let counted_fields : counted_of c.spend-3.new.self ≡ min (counted_of c.spend-2.new.self + c.units_of.result) (2 ^ 64 - 1) = c.spend-3.ensures.counted in
    let grows : counted_of c.args.work.now ≤ counted_of c.spend.new.self = c.spend.ensures.grows in
    let grows_all : counted_of c.spend.new.self ≤ counted_of c.spend-2.new.self = c.spend-2.ensures.grows in
    let grows_fields : counted_of c.spend-2.new.self ≤ counted_of c.spend-3.new.self = c.spend-3.ensures.grows in
    let units : c.units_of.result ≡ min (16 * c.len.result) (2 ^ 64 - 1) = c.units_of.ensures in
    let walked : c.count_fields.new.steps ≤ c.args.steps.now + length ends = c.count_fields.ensures.cost in
    let walked_all : c.count_fields-2.new.steps ≤ c.count_fields.new.steps + length all = c.count_fields-2.ensures.cost in
    let around : c.fields_around.new.steps ≤ c.count_fields-2.new.steps + 2 * length a + 2 * count_fields sets a + length b + count_fields sets b = c.fields_around.ensures.cost in
    let grouped : c.group_fields.new.steps ≤ c.fields_around.new.steps + length c.deref.result.now = c.group_fields.ensures.cost in
    let fewer : length entries ≤ length c.deref.result.now = c.in_ok-groups.ensures.count in
    let named : c.names_of.new.steps ≤ c.group_fields.new.steps + length entries = c.names_of.ensures.cost in
    let keys : length c.deref-2.result.now ≡ length entries = ap length (c.deref-2.ensures.value ∙ c.in_ok-keys.ensures.names) ∙ length-map entries (λ entry. entry.0) in
    let looked : Paid c.spend-3.new.self (c.names_of.new.steps + places) c.look_by_keys.new.work (c.look_by_keys.new.steps + places_then) (4 * length c.deref-2.result.now) = c.look_by_keys.ensures.cost in
    let spare : Paid c.args.work.now (c.args.steps.now + places) c.look_by_keys.new.work (c.look_by_keys.new.steps + places_then + length ends * (2 * (count / 64) + 67) + length all * (2 * (count / 64) + 68)) 0 = (
      omega (arith, grows, grows_all, grows_fields, looked.0),
      λ small.
          let third : counted_of c.spend-3.new.self < 2 ^ 64 - 1 = omega (arith, small, looked.0) in
          let second : counted_of c.spend-2.new.self < 2 ^ 64 - 1 = omega (arith, third, grows_fields) in
          let first : counted_of c.spend.new.self < 2 ^ 64 - 1 = omega (arith, second, grows_all) in
          let few : c.count_fields.result < 2 ^ 64 - 1 = omega (arith, first, counted) in
          let few_all : c.count_fields-2.result < 2 ^ 64 - 1 = omega (arith, second, counted_all) in
          let paid : length ends * (count / 1024 + 1) + 16 * count_fields sets ends ≤ c.count_fields.result = c.count_fields.ensures.units few in
          let paid_all : length all * (count / 1024 + 1) + 16 * count_fields sets all ≤ c.count_fields-2.result = c.count_fields-2.ensures.units few_all in
          omega (
            arith,
            looked.1 small,
            third,
            second,
            first,
            few,
            few_all,
            paid,
            paid_all,
            counted,
            counted_all,
            counted_fields,
            units,
            walked,
            walked_all,
            around,
            grouped,
            fewer,
            named,
            keys,
            c.len.ensures,
            c.deref.ensures.len,
            ap length c.as_slice.ensures,
            ap length c.as_slice-2.ensures,
            ap (count_fields sets) c.as_slice.ensures,
            ap (count_fields sets) c.as_slice-2.ensures,
            mul-le-mul_left (length ends) row,
            mul-le-mul_left (length all) row,
          ),
    ) in
    on_ok c.look_by_keys.result spare
