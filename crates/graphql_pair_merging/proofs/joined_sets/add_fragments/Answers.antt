use Rattle.std.proofs.Common.{◌≡◌, ap, length, refl, subst, sym, ◌∙◌, ◌<◌, All}
use Rattle.std.specs.Prelude.{slice_get}
use Rattle.std.proofs.lemmas.Option.{slice_get_read}
use Rattle.graphql_number_sets.specs.NumberSets.{numbers_of}
use Rattle.graphql_pair_merging.specs.JoinedSets.{AddsEach}
use Rattle.graphql_pair_merging.specs.declared.numbered_sets.NumberedSet.{NumberedSet}
use Rattle.graphql_pair_merging.proofs.PlaceLemmas.{one_at}
use Rattle.graphql_pair_merging.proofs.StepLemmas.{fragments_within}
use Rattle.graphql_pair_merging.proofs.joined_sets.add_fragments.Goals as goal

pub returns-clause-added : goal.returns-clause-added
returns-clause-added g c set at =
    let sets = c.args.sets.now in
    let old = numbers_of c.args.joined.now in
    let new = numbers_of c.add_each.new.joined in
    let read = c.index-sets-number.result in
    let same : read ≡ set = one_at (slice_get sets c.args.number) read set (slice_get_read sets (length sets) c.args.number read refl c.requires.within c.index-sets-number.is) at in
    subst (λ (r : NumberedSet). AddsEach r.fragments.items old new) same
    (subst (λ l. AddsEach l old new) (c.deref.ensures.value ∙ ap (λ (r : NumberedSet). r.fragments.items) (sym c.index-sets-number.is)) c.in_ok-add_each.ensures.added)

pub returns-clause-fits : goal.returns-clause-fits
returns-clause-fits g c =
    let sets = c.args.sets.now in
    let set = c.index-sets-number.result in
    let all = fragments_within sets c.args.number set c.requires.linked (slice_get_read sets (length sets) c.args.number set refl c.requires.within c.index-sets-number.is) in
    let within = subst (All (λ n. n < length sets)) (sym (c.deref.ensures.value ∙ ap (λ (r : NumberedSet). r.fragments.items) (sym c.index-sets-number.is))) all in
    c.add_each.ensures.fits (length sets) within

pub returns-in_err-add_each-clause-fits : goal.returns-in_err-add_each-clause-fits
returns-in_err-add_each-clause-fits g c =
    let sets = c.args.sets.now in
    let set = c.index-sets-number.result in
    let all = fragments_within sets c.args.number set c.requires.linked (slice_get_read sets (length sets) c.args.number set refl c.requires.within c.index-sets-number.is) in
    let within = subst (All (λ n. n < length sets)) (sym (c.deref.ensures.value ∙ ap (λ (r : NumberedSet). r.fragments.items) (sym c.index-sets-number.is))) all in
    c.add_each.ensures.fits (length sets) within

pub returns-clause-each : goal.returns-clause-each
returns-clause-each g c =
    let sets = c.args.sets.now in
    let set = c.index-sets-number.result in
    let all = fragments_within sets c.args.number set c.requires.linked (slice_get_read sets (length sets) c.args.number set refl c.requires.within c.index-sets-number.is) in
    let within = subst (All (λ n. n < length sets)) (sym (c.deref.ensures.value ∙ ap (λ (r : NumberedSet). r.fragments.items) (sym c.index-sets-number.is))) all in
    c.in_ok-add_each.ensures.each (length sets) within
