use Rattle.std.proofs.Common.{◌≡◌, ◌<◌, ◌++◌, ◌∷◌, [], ℕ, List, All, ap, eqb, length, refl, subst, sym, ◌∙◌, ◌+◌, ◌*◌, ◌/◌, ◌≤◌, arith}
use Rattle.std.proofs.lemmas.List.Elements.{All-contains}
use Rattle.graphql_documents.proofs.ListLemmas.{stands_first}
use Rattle.graphql_number_sets.specs.NumberSets.{numbers_of}
use Rattle.graphql_pair_merging.specs.JoinedSets.{AreJoined}
use Rattle.graphql_pair_merging.specs.Pairs.{lists_at}
use Rattle.graphql_pair_merging.proofs.JoinLemmas.{Taken, all_taken, last_taken, no_number, none_there, nothing_taken, one_taken, some_number, takes}
use Rattle.graphql_pair_merging.proofs.SettleLemmas.{in_second}
use Rattle.graphql_pair_merging.proofs.StepLemmas.{one_list_more}
use Rattle.graphql_pair_merging.specs.Works.{Paid}
use Rattle.graphql_pair_merging.proofs.pairs.PairPass.next_unlooked.Goals as goal

pub loop-first-init : goal.loop-first-init
loop-first-init g c = record { taken = nothing_taken c.args.self.now.sets.now c.args.looked.now (lists_at c.args.waiting.now.items); most = refl; cost = omega arith }

pub with_fragments-requires-clause-within : goal.with_fragments-requires-clause-within
with_fragments-requires-clause-within g c =
    let within = λ (l : List ℕ). All (λ n. n < length c.args.self.now.sets.now) l in
    let v = c.in-Some.first in
    let new = lists_at c.pop.new.self.items in
    let old = lists_at c.loop-first.waiting.items in
    let is : old ≡ new ++ v.items ∷ [] = last_taken c.loop-first.waiting.items c.pop.new.self.items v c.in-Some.ensures.items in
    subst within (sym c.deref.ensures.value)
    (All-contains within (lists_at c.args.waiting.now.items) v.items c.requires.within (c.loop-first.invariant.taken.fewer v.items (in_second new (v.items ∷ []) old is v.items (stands_first v.items []))))

pub returns-then-not-is_empty-clause-taken : goal.returns-then-not-is_empty-clause-taken
returns-then-not-is_empty-clause-taken g c =
    let sets = c.args.self.now.sets.now in
    let v = c.in-Some.first in
    let joined = numbers_of c.in_ok-all.all in
    let ends = numbers_of c.in_ok-ends.ends in
    takes sets c.args.looked.now (lists_at c.args.waiting.now.items) (lists_at c.loop-first.waiting.items) (lists_at c.pop.new.self.items) v.items joined ends
    (last_taken c.loop-first.waiting.items c.pop.new.self.items v c.in-Some.ensures.items)
    (subst (λ l. AreJoined sets l joined) c.deref.ensures.value c.in_ok-all.ensures.joined) c.in_ok-ends.ensures.ends
    (some_number ends (c.if-not-is_empty.ensures ∙ ap (λ l. eqb (length l) 0) c.as_slice.ensures)) c.loop-first.invariant.taken

pub returns-in_err-ends-clause-cost : goal.returns-in_err-ends-clause-cost
returns-in_err-ends-clause-cost g c =
    let count = length c.args.self.now.sets.now in
    let v = c.in-Some.first in
    let many = length (numbers_of c.in_ok-all.all) in
    let walked : Paid c.loop-first.work c.take.new.self c.with_fragments.new.work (c.with_fragments.new.steps + many * (3 * (count / 64) + 13)) (3 * length c.deref.result.now) = c.in_ok-all.ensures.spare in
    let chosen : c.ends.new.steps ≤ c.with_fragments.new.steps + many * (3 * (count / 64) + 13) =
    subst (λ n. c.ends.new.steps ≤ c.with_fragments.new.steps + many * (3 * (n / 64) + 13)) c.requires.count c.ends.ensures.cost in
    let fewer = one_list_more c.pop.new.self.items c.loop-first.waiting.items v c.in-Some.ensures.items in
    omega (arith, c.loop-first.invariant.cost, c.take.ensures, walked, chosen, fewer, ap length c.deref.ensures.value)

pub returns-then-not-is_empty-clause-cost : goal.returns-then-not-is_empty-clause-cost
returns-then-not-is_empty-clause-cost g c =
    let count = length c.args.self.now.sets.now in
    let v = c.in-Some.first in
    let many = length (numbers_of c.in_ok-all.all) in
    let walked : Paid c.loop-first.work c.take.new.self c.with_fragments.new.work (c.with_fragments.new.steps + many * (3 * (count / 64) + 13)) (3 * length c.deref.result.now) = c.in_ok-all.ensures.spare in
    let chosen : c.ends.new.steps ≤ c.with_fragments.new.steps + many * (3 * (count / 64) + 13) =
    subst (λ n. c.ends.new.steps ≤ c.with_fragments.new.steps + many * (3 * (n / 64) + 13)) c.requires.count c.ends.ensures.cost in
    let fewer = one_list_more c.pop.new.self.items c.loop-first.waiting.items v c.in-Some.ensures.items in
    omega (arith, c.loop-first.invariant.cost, c.take.ensures, walked, chosen, fewer, ap length c.deref.ensures.value)

pub returns-in_err-all-clause-cost : goal.returns-in_err-all-clause-cost
returns-in_err-all-clause-cost g c =
    let v = c.in-Some.first in
    let walked : Paid c.loop-first.work c.take.new.self c.with_fragments.new.work c.with_fragments.new.steps (3 * length c.deref.result.now + length c.args.self.now.sets.now / 64 + 4) = c.with_fragments.ensures.cost in
    let fewer = one_list_more c.pop.new.self.items c.loop-first.waiting.items v c.in-Some.ensures.items in
    omega (arith, c.loop-first.invariant.cost, c.take.ensures, walked, fewer, ap length c.deref.ensures.value)

pub loop-first-preserved : goal.loop-first-preserved
loop-first-preserved g c =
    let sets = c.args.self.now.sets.now in
    let v = c.in-Some.first in
    let joined = numbers_of c.in_ok-all.all in
    let ends = numbers_of c.in_ok-ends.ends in
    let count = length sets in
    let many = length joined in
    let walked : Paid c.loop-first.work c.take.new.self c.with_fragments.new.work (c.with_fragments.new.steps + many * (3 * (count / 64) + 13)) (3 * length c.deref.result.now) = c.in_ok-all.ensures.spare in
    let chosen : c.ends.new.steps ≤ c.with_fragments.new.steps + many * (3 * (count / 64) + 13) =
    subst (λ n. c.ends.new.steps ≤ c.with_fragments.new.steps + many * (3 * (n / 64) + 13)) c.requires.count c.ends.ensures.cost in
    let fewer = one_list_more c.pop.new.self.items c.loop-first.waiting.items v c.in-Some.ensures.items in
    let first = ap length c.deref.ensures.value in
    record {
      taken = one_taken sets c.args.looked.now (lists_at c.args.waiting.now.items) (lists_at c.loop-first.waiting.items) (lists_at c.pop.new.self.items) v.items joined ends
          (last_taken c.loop-first.waiting.items c.pop.new.self.items v c.in-Some.ensures.items)
          (subst (λ l. AreJoined sets l joined) c.deref.ensures.value c.in_ok-all.ensures.joined) c.in_ok-ends.ensures.ends
          (no_number ends (c.if-not-is_empty.ensures ∙ ap (λ l. eqb (length l) 0) c.as_slice.ensures)) c.loop-first.invariant.taken;
      most = c.with_fragments.ensures.most ∙ c.loop-first.invariant.most;
      cost = omega (arith, c.loop-first.invariant.cost, c.take.ensures, walked, chosen, fewer, first);
    }

pub returns-clause-taken : goal.returns-clause-taken
returns-clause-taken g c =
    let sets = c.args.self.now.sets.now in
    let initial = lists_at c.args.waiting.now.items in
    let waiting = c.loop-first.waiting in
    let empty : waiting.items ≡ [] = none_there waiting.items (sym waiting.ok.0 ∙ c.in_default.ensures.cases.0) in
    all_taken sets c.args.looked.now initial (subst (λ l. Taken sets c.args.looked.now initial (lists_at l)) empty c.loop-first.invariant.taken)

pub returns-then-not-is_empty-clause-spare : goal.returns-then-not-is_empty-clause-spare
returns-then-not-is_empty-clause-spare g c =
    let count = length c.args.self.now.sets.now in
    let v = c.in-Some.first in
    let many = length (numbers_of c.in_ok-all.all) in
    let walked : Paid c.loop-first.work c.take.new.self c.with_fragments.new.work (c.with_fragments.new.steps + many * (3 * (count / 64) + 13)) (3 * length c.deref.result.now) = c.in_ok-all.ensures.spare in
    let chosen : c.ends.new.steps ≤ c.with_fragments.new.steps + many * (3 * (count / 64) + 13) =
    subst (λ n. c.ends.new.steps ≤ c.with_fragments.new.steps + many * (3 * (n / 64) + 13)) c.requires.count c.ends.ensures.cost in
    let fewer = one_list_more c.pop.new.self.items c.loop-first.waiting.items v c.in-Some.ensures.items in
    omega (arith, c.loop-first.invariant.cost, c.take.ensures, walked, chosen, fewer, ap length c.deref.ensures.value)
