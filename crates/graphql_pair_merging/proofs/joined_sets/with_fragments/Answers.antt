use Rattle.std.proofs.Common.{◌≡◌, ◌<◌, ◌≤◌, Some, ap, arith, get_or, length, subst, sym, ◌∙◌, refl, ◌+◌, ◌*◌, ◌/◌, mul-le-mul_right}
use Rattle.std.specs.Prelude.{slice_get}
use Rattle.std.proofs.lemmas.List.{take_all}
use Rattle.std.proofs.lemmas.List.Elements.{All-contains, All-get_or}
use Rattle.std.proofs.lemmas.Option.{slice_get-get_or}
use Rattle.graphql_number_sets.specs.NumberSets.{numbers_of, words_of}
use Rattle.graphql_pair_merging.specs.Pairs.{IsLinked}
use Rattle.graphql_pair_merging.proofs.JoinLemmas.{few_numbers, joining_begins, joining_ends, joining_on}
use Rattle.graphql_pair_merging.proofs.PlaceLemmas.{stands_at}
use Rattle.graphql_pair_merging.proofs.WalkLemmas.{some_at}
use Rattle.graphql_pair_merging.specs.Works.{Paid}
use Rattle.graphql_pair_merging.proofs.joined_sets.with_fragments.Goals as goal

pub loop-next-init : goal.loop-next-init
loop-next-init g c = record {
  exact = c.in_ok-add_each.ensures.exact;
  joining = joining_begins c.args.sets.now c.args.first.now (numbers_of c.new-joined.result) (numbers_of c.add_each.new.joined) c.new-joined.ensures.numbers c.in_ok-add_each.ensures.added c.requires.within;
  fits = c.add_each.ensures.fits (length c.args.sets.now) c.requires.within (omega (arith, c.new-joined.ensures.words));
  each = omega (arith, c.in_ok-add_each.ensures.each (length c.args.sets.now) c.requires.within, c.new-joined.ensures.words, ap length c.new-joined.ensures.numbers);
  most = refl;
  cost = omega (arith, c.add_each.ensures.cost, c.new-joined.ensures.words);
}

pub add_fragments-requires-clause-exact : goal.add_fragments-requires-clause-exact
add_fragments-requires-clause-exact g c = c.loop-next.invariant.exact

pub add_fragments-requires-clause-within : goal.add_fragments-requires-clause-within
add_fragments-requires-clause-within g c =
    let sets = c.args.sets.now in
    let numbers = numbers_of c.loop-next.joined in
    let next = c.loop-next.next in
    let less : next < length numbers = subst (λ l. next < length l) c.as_slice.ensures c.loop-next-test.true in
    subst (λ l. get_or l next 0 < length sets) (sym c.as_slice-in-loop-next.ensures) (All-get_or (λ n. n < length sets) numbers next 0 less c.loop-next.invariant.joining.within)

pub loop-next-smaller : goal.loop-next-smaller
loop-next-smaller g c =
    let numbers = numbers_of c.loop-next.joined in
    let less : c.loop-next.next < length numbers = subst (λ l. c.loop-next.next < length l) c.as_slice.ensures c.loop-next-test.true in
    omega (arith, less, few_numbers (length c.args.sets.now) numbers c.loop-next.invariant.exact.distinct c.loop-next.invariant.joining.within)

pub loop-next-preserved : goal.loop-next-preserved
loop-next-preserved g c =
    let sets = c.args.sets.now in
    let numbers = numbers_of c.loop-next.joined in
    let next = c.loop-next.next in
    let number = get_or c.as_slice-in-loop-next.result.now next 0 in
    let less : next < length numbers = subst (λ l. next < length l) c.as_slice.ensures c.loop-next-test.true in
    let within : number < length sets =
    subst (λ l. get_or l next 0 < length sets) (sym c.as_slice-in-loop-next.ensures) (All-get_or (λ n. n < length sets) numbers next 0 less c.loop-next.invariant.joining.within) in
    let is : slice_get numbers next ≡ Some number = slice_get-get_or numbers next 0 less ∙ ap (λ l. Some (get_or l next 0)) (sym c.as_slice-in-loop-next.ensures) in
    let a = some_at sets number within in
    let joined = c.loop-next.joined in
    let new = c.add_fragments.new.joined in
    let row = length sets / 64 in
    let grown : words_of new.members + length (numbers_of joined) * (row + 1) ≤ words_of joined.members + length (numbers_of new) * (row + 1) = c.in_ok-add_fragments.ensures.each in
    let walked : Paid c.loop-next.work (c.loop-next.steps + words_of new.members) c.add_fragments.new.work (c.add_fragments.new.steps + words_of joined.members + (4 * row + 14)) 0 =
    c.in_ok-add_fragments.ensures.spare in
    let linked = All-contains (IsLinked (length sets)) sets a.0 c.requires.linked (stands_at sets number a.0 a.1) in
    record {
      exact = c.in_ok-add_fragments.ensures.exact;
      joining = joining_on sets c.args.first.now next numbers (numbers_of c.add_fragments.new.joined) number a.0 is a.1 linked.fragments (c.in_ok-add_fragments.ensures.added a.0 a.1)
          c.loop-next.invariant.joining;
      fits = c.add_fragments.ensures.fits c.loop-next.invariant.fits;
      each = omega (arith, c.loop-next.invariant.each, grown);
      most = c.add_fragments.ensures.most ∙ c.loop-next.invariant.most;
      cost = omega (arith, c.loop-next.invariant.cost, walked);
    }

pub returns-clause-exact : goal.returns-clause-exact
returns-clause-exact g c = c.loop-next.invariant.exact

pub returns-clause-within : goal.returns-clause-within
returns-clause-within g c = c.loop-next.invariant.joining.within

pub returns-clause-joined : goal.returns-clause-joined
returns-clause-joined g c =
    let numbers = numbers_of c.loop-next.joined in
    let past : length numbers ≤ c.loop-next.next = subst (λ l. length l ≤ c.loop-next.next) c.as_slice.ensures c.loop-next-test.false in
    joining_ends c.args.sets.now c.args.first.now c.loop-next.next numbers (take_all c.loop-next.next numbers past) c.loop-next.invariant.joining

pub returns-clause-spare : goal.returns-clause-spare
returns-clause-spare g c =
    let numbers = numbers_of c.loop-next.joined in
    let row = length c.args.sets.now / 64 in
    let past : length numbers ≤ c.loop-next.next = subst (λ l. length l ≤ c.loop-next.next) c.as_slice.ensures c.loop-next-test.false in
    omega (arith, c.loop-next.invariant.cost, c.loop-next.invariant.each, past, mul-le-mul_right row past)
