use Rattle.std.proofs.Common.{◌<◌, All, length, refl, subst, sym, ◌∙◌, ◌+◌, ◌*◌, ◌/◌, ◌≤◌, arith, ap, mul-le-mul_left, ◌-◌, ◌^◌}
use Rattle.std.specs.Prelude.{⊤, MatchOption}
use Rattle.graphql_merging.specs.Groups.{pass_of}
use Rattle.graphql_number_sets.specs.NumberSets.{AreExact, numbers_of, FitsBelow, words_of}
use Rattle.graphql_pair_merging.specs.JoinedSets.{Takes}
use Rattle.graphql_pair_merging.specs.Pairs.{FindsIn, LooksAt, WereLookedAt, lists_at}
use Rattle.graphql_pair_merging.specs.declared.joined_sets.JoinedSets.{JoinedSets}
use Rattle.graphql_pair_merging.proofs.JoinLemmas.{ends_among, ends_within}
use Rattle.graphql_pair_merging.proofs.WalkLemmas.{fewer_left, found_below, waiting_within, walks_begin, walks_end, walks_on}
use Rattle.graphql_pair_merging.proofs.StepLemmas.{alone_places}
use Rattle.graphql_pair_merging.specs.Works.{Paid, places_in, counted_of}
use Rattle.graphql_pair_merging.proofs.pairs.PairPass.find_conflict.Goals as goal

pub loop-looked-init : goal.loop-looked-init
loop-looked-init g c =
    let self = c.args.self.now in
    record {
      count = c.in_ok-looked.ensures.count;
      cliques = c.in_ok-looked.ensures.cliques;
      walks = walks_begin self.schema.now (pass_of self.pass) self.sets.now c.args.starts.now c.requires.linked c.requires.within c.in_ok-looked.looked (lists_at c.in_ok-waiting.waiting.items)
          c.in_ok-looked.ensures.empty c.in_ok-waiting.ensures.alone;
      most = refl;
      cost = omega (arith, c.each_alone.ensures.cost, c.new.ensures.cost, ap places_in c.in_ok-waiting.ensures.alone, alone_places c.args.starts.now);
    }

pub next_unlooked-requires-clause-cliques : goal.next_unlooked-requires-clause-cliques
next_unlooked-requires-clause-cliques g c = c.loop-looked.invariant.cliques

pub next_unlooked-requires-clause-count : goal.next_unlooked-requires-clause-count
next_unlooked-requires-clause-count g c = c.loop-looked.invariant.count

pub next_unlooked-requires-clause-within : goal.next_unlooked-requires-clause-within
next_unlooked-requires-clause-within g c =
    let self = c.args.self.now in
    waiting_within self.schema.now (pass_of self.pass) self.sets.now c.args.starts.now c.requires.linked c.requires.within c.loop-looked.looked (lists_at c.loop-looked.waiting.items)
    c.loop-looked.invariant.walks

pub returns-in-Some-2-clause-found : goal.returns-in-Some-2-clause-found
returns-in-Some-2-clause-found g c =
    let self = c.args.self.now in
    let schema = self.schema.now in
    let pass = pass_of self.pass in
    let sets = self.sets.now in
    let old = lists_at c.loop-looked.waiting.items in
    let mid = lists_at c.next_unlooked.new.waiting.items in
    let after = lists_at c.look_at.new.waiting.items in
    let joined = c.in-Some.joined in
    let taken = subst (λ o. MatchOption o (All (WereLookedAt c.loop-looked.looked) old) (λ (j : JoinedSets). Takes sets c.loop-looked.looked old mid (numbers_of j.all) (numbers_of j.ends))) c.in-Some.is c.in_ok-joined.ensures.taken in
    let found = subst (λ o. MatchOption o (LooksAt schema pass sets (numbers_of joined.ends) (numbers_of joined.all) mid after) (FindsIn schema pass sets (numbers_of joined.all))) c.in-Some-2.is c.in_ok-conflict.ensures.found in
    found_below schema pass sets c.args.starts.now c.requires.linked c.requires.within c.loop-looked.looked old mid (numbers_of joined.all) (numbers_of joined.ends) c.in-Some-2.conflict taken
    found c.loop-looked.invariant.walks

pub look_at-requires-clause-all_within : goal.look_at-requires-clause-all_within
look_at-requires-clause-all_within g c =
    let count = length c.args.self.now.sets.now in
    subst (λ o. MatchOption o ⊤ (λ (j : JoinedSets). All (λ n. n < count) (numbers_of j.all))) c.in-Some.is c.in_ok-joined.ensures.all_within

pub look_at-requires-clause-ends_within : goal.look_at-requires-clause-ends_within
look_at-requires-clause-ends_within g c =
    let sets = c.args.self.now.sets.now in
    let old = lists_at c.loop-looked.waiting.items in
    let mid = lists_at c.next_unlooked.new.waiting.items in
    let joined = c.in-Some.joined in
    let taken = subst (λ o. MatchOption o (All (WereLookedAt c.loop-looked.looked) old) (λ (j : JoinedSets). Takes sets c.loop-looked.looked old mid (numbers_of j.all) (numbers_of j.ends))) c.in-Some.is c.in_ok-joined.ensures.taken in
    let within = subst (λ o. MatchOption o ⊤ (λ (j : JoinedSets). All (λ n. n < length sets) (numbers_of j.all))) c.in-Some.is c.in_ok-joined.ensures.all_within in
    ends_within sets c.loop-looked.looked old mid (numbers_of joined.all) (numbers_of joined.ends) (length sets) taken within

pub look_at-requires-clause-among : goal.look_at-requires-clause-among
look_at-requires-clause-among g c =
    let sets = c.args.self.now.sets.now in
    let old = lists_at c.loop-looked.waiting.items in
    let mid = lists_at c.next_unlooked.new.waiting.items in
    let joined = c.in-Some.joined in
    let taken = subst (λ o. MatchOption o (All (WereLookedAt c.loop-looked.looked) old) (λ (j : JoinedSets). Takes sets c.loop-looked.looked old mid (numbers_of j.all) (numbers_of j.ends))) c.in-Some.is c.in_ok-joined.ensures.taken in
    ends_among sets c.loop-looked.looked old mid (numbers_of joined.all) (numbers_of joined.ends) taken

pub add_to-requires-clause-all_exact : goal.add_to-requires-clause-all_exact
add_to-requires-clause-all_exact g c =
    subst (λ o. MatchOption o ⊤ (λ (j : JoinedSets). AreExact j.all)) c.in-Some.is c.in_ok-joined.ensures.all_exact

pub add_to-requires-clause-ends_exact : goal.add_to-requires-clause-ends_exact
add_to-requires-clause-ends_exact g c =
    subst (λ o. MatchOption o ⊤ (λ (j : JoinedSets). AreExact j.ends)) c.in-Some.is c.in_ok-joined.ensures.ends_exact

pub add_to-requires-clause-within : goal.add_to-requires-clause-within
add_to-requires-clause-within g c =
    let count = length c.args.self.now.sets.now in
    let within = subst (λ o. MatchOption o ⊤ (λ (j : JoinedSets). All (λ n. n < count) (numbers_of j.all))) c.in-Some.is c.in_ok-joined.ensures.all_within in
    subst (λ m. All (λ n. n < m) (numbers_of c.in-Some.joined.all)) (sym c.loop-looked.invariant.count) within

pub add_to-requires-clause-ends : goal.add_to-requires-clause-ends
add_to-requires-clause-ends g c =
    let sets = c.args.self.now.sets.now in
    let old = lists_at c.loop-looked.waiting.items in
    let mid = lists_at c.next_unlooked.new.waiting.items in
    let taken = subst (λ o. MatchOption o (All (WereLookedAt c.loop-looked.looked) old) (λ (j : JoinedSets). Takes sets c.loop-looked.looked old mid (numbers_of j.all) (numbers_of j.ends))) c.in-Some.is c.in_ok-joined.ensures.taken in
    taken.are_ends

pub loop-looked-smaller : goal.loop-looked-smaller
loop-looked-smaller g c =
    let self = c.args.self.now in
    let schema = self.schema.now in
    let pass = pass_of self.pass in
    let sets = self.sets.now in
    let old = lists_at c.loop-looked.waiting.items in
    let mid = lists_at c.next_unlooked.new.waiting.items in
    let after = lists_at c.look_at.new.waiting.items in
    let joined = c.in-Some.joined in
    let taken = subst (λ o. MatchOption o (All (WereLookedAt c.loop-looked.looked) old) (λ (j : JoinedSets). Takes sets c.loop-looked.looked old mid (numbers_of j.all) (numbers_of j.ends))) c.in-Some.is c.in_ok-joined.ensures.taken in
    let looks = subst (λ o. MatchOption o (LooksAt schema pass sets (numbers_of joined.ends) (numbers_of joined.all) mid after) (FindsIn schema pass sets (numbers_of joined.all))) c.in_default-2.is c.in_ok-conflict.ensures.found in
    fewer_left schema pass sets c.args.starts.now c.requires.linked c.requires.within c.loop-looked.looked c.add_to.new.looked old mid after (numbers_of joined.all) (numbers_of joined.ends) taken
    looks c.in_ok-add_to.ensures.added c.loop-looked.invariant.walks

pub loop-looked-preserved : goal.loop-looked-preserved
loop-looked-preserved g c =
    let self = c.args.self.now in
    let schema = self.schema.now in
    let pass = pass_of self.pass in
    let sets = self.sets.now in
    let old = lists_at c.loop-looked.waiting.items in
    let mid = lists_at c.next_unlooked.new.waiting.items in
    let after = lists_at c.look_at.new.waiting.items in
    let joined = c.in-Some.joined in
    let taken = subst (λ o. MatchOption o (All (WereLookedAt c.loop-looked.looked) old) (λ (j : JoinedSets). Takes sets c.loop-looked.looked old mid (numbers_of j.all) (numbers_of j.ends))) c.in-Some.is c.in_ok-joined.ensures.taken in
    let looks = subst (λ o. MatchOption o (LooksAt schema pass sets (numbers_of joined.ends) (numbers_of joined.all) mid after) (FindsIn schema pass sets (numbers_of joined.all))) c.in_default-2.is c.in_ok-conflict.ensures.found in
    let count = length c.args.self.now.sets.now in
    let ends = length (numbers_of c.in-Some.joined.ends) in
    let all = length (numbers_of c.in-Some.joined.all) in
    let all_fits : FitsBelow count c.in-Some.joined.all.members =
    subst (λ o. MatchOption o ⊤ (λ (j : JoinedSets). FitsBelow count j.all.members)) c.in-Some.is c.in_ok-joined.ensures.all_fits in
    let ends_fits : FitsBelow count c.in-Some.joined.ends.members =
    subst (λ o. MatchOption o ⊤ (λ (j : JoinedSets). FitsBelow count j.ends.members)) c.in-Some.is c.in_ok-joined.ensures.ends_fits in
    let first : 2 * words_of c.in-Some.joined.all.members + 65 ≤ 2 * (count / 64) + 67 = omega (arith, all_fits) in
    let second : 2 * words_of c.in-Some.joined.ends.members + 66 ≤ 2 * (count / 64) + 68 = omega (arith, ends_fits) in
    let taken_up : Paid c.loop-looked.work (c.loop-looked.steps + 3 * places_in (lists_at c.loop-looked.waiting.items)) c.next_unlooked.new.work (c.next_unlooked.new.steps + 3 * places_in (lists_at c.next_unlooked.new.waiting.items)) 0 =
    c.in_ok-joined.ensures.spare in
    let looked_at :
    Paid c.next_unlooked.new.work (c.next_unlooked.new.steps + 3 * places_in (lists_at c.next_unlooked.new.waiting.items)) c.look_at.new.work
    (c.look_at.new.steps + 3 * places_in (lists_at c.look_at.new.waiting.items) + ends * (2 * (count / 64) + 67) + all * (2 * (count / 64) + 68)) 0 = c.in_ok-conflict.ensures.spare in
    let joined_up : c.add_to.new.steps ≤ c.look_at.new.steps + ends * (2 * words_of c.in-Some.joined.all.members + 65) + all * (2 * words_of c.in-Some.joined.ends.members + 66) = c.add_to.ensures.cost in
    record {
      count = c.add_to.ensures.count ∙ c.loop-looked.invariant.count;
      cliques = c.add_to.ensures.cliques;
      walks = walks_on schema pass sets c.args.starts.now c.requires.linked c.requires.within c.loop-looked.looked c.add_to.new.looked old mid after (numbers_of joined.all) (numbers_of joined.ends) taken
          looks c.in_ok-add_to.ensures.added c.loop-looked.invariant.walks;
      most = c.look_at.ensures.most ∙ c.next_unlooked.ensures.most ∙ c.loop-looked.invariant.most;
      cost = (
        omega (arith, c.loop-looked.invariant.cost.0, taken_up.0, looked_at.0),
        λ small.
            let mid : counted_of c.next_unlooked.new.work < 2 ^ 64 - 1 = omega (arith, small, looked_at.0) in
            let before : counted_of c.loop-looked.work < 2 ^ 64 - 1 = omega (arith, mid, taken_up.0) in
            omega (arith, c.loop-looked.invariant.cost.1 before, taken_up.1 mid, looked_at.1 small, joined_up, mul-le-mul_left ends first, mul-le-mul_left all second),
      );
    }

pub returns-clause-found : goal.returns-clause-found
returns-clause-found g c =
    let self = c.args.self.now in
    let sets = self.sets.now in
    let old = lists_at c.loop-looked.waiting.items in
    let mid = lists_at c.next_unlooked.new.waiting.items in
    let were = subst (λ o. MatchOption o (All (WereLookedAt c.loop-looked.looked) old) (λ (j : JoinedSets). Takes sets c.loop-looked.looked old mid (numbers_of j.all) (numbers_of j.ends))) c.in_default.is c.in_ok-joined.ensures.taken in
    walks_end self.schema.now (pass_of self.pass) sets c.args.starts.now c.requires.linked c.requires.within c.loop-looked.looked old were c.loop-looked.invariant.walks

pub returns-in_err-add_to-clause-cost : goal.returns-in_err-add_to-clause-cost
returns-in_err-add_to-clause-cost g c =
    let count = length c.args.self.now.sets.now in
    let ends = length (numbers_of c.in-Some.joined.ends) in
    let all = length (numbers_of c.in-Some.joined.all) in
    let all_fits : FitsBelow count c.in-Some.joined.all.members =
    subst (λ o. MatchOption o ⊤ (λ (j : JoinedSets). FitsBelow count j.all.members)) c.in-Some.is c.in_ok-joined.ensures.all_fits in
    let ends_fits : FitsBelow count c.in-Some.joined.ends.members =
    subst (λ o. MatchOption o ⊤ (λ (j : JoinedSets). FitsBelow count j.ends.members)) c.in-Some.is c.in_ok-joined.ensures.ends_fits in
    let first : 2 * words_of c.in-Some.joined.all.members + 65 ≤ 2 * (count / 64) + 67 = omega (arith, all_fits) in
    let second : 2 * words_of c.in-Some.joined.ends.members + 66 ≤ 2 * (count / 64) + 68 = omega (arith, ends_fits) in
    let taken_up : Paid c.loop-looked.work (c.loop-looked.steps + 3 * places_in (lists_at c.loop-looked.waiting.items)) c.next_unlooked.new.work (c.next_unlooked.new.steps + 3 * places_in (lists_at c.next_unlooked.new.waiting.items)) 0 =
    c.in_ok-joined.ensures.spare in
    let looked_at :
    Paid c.next_unlooked.new.work (c.next_unlooked.new.steps + 3 * places_in (lists_at c.next_unlooked.new.waiting.items)) c.look_at.new.work
    (c.look_at.new.steps + 3 * places_in (lists_at c.look_at.new.waiting.items) + ends * (2 * (count / 64) + 67) + all * (2 * (count / 64) + 68)) 0 = c.in_ok-conflict.ensures.spare in
    let joined_up : c.add_to.new.steps ≤ c.look_at.new.steps + ends * (2 * words_of c.in-Some.joined.all.members + 65) + all * (2 * words_of c.in-Some.joined.ends.members + 66) = c.add_to.ensures.cost in (
      omega (arith, c.loop-looked.invariant.cost.0, taken_up.0, looked_at.0),
      λ small.
          let mid : counted_of c.next_unlooked.new.work < 2 ^ 64 - 1 = omega (arith, small, looked_at.0) in
          let before : counted_of c.loop-looked.work < 2 ^ 64 - 1 = omega (arith, mid, taken_up.0) in
          omega (arith, c.loop-looked.invariant.cost.1 before, taken_up.1 mid, looked_at.1 small, joined_up, mul-le-mul_left ends first, mul-le-mul_left all second),
    )
