use Rattle.std.proofs.Common.{subst, sym, ◌∙◌}
use Rattle.std.specs.Prelude.{MatchOption}
use Rattle.graphql_merging.specs.ExpansionSteps.{fragments_in}
use Rattle.graphql_specification.specs.Merging.{shape_pass}
use Rattle.graphql_pair_merging.specs.NumberedSets.{HaveArgumentNumbers, operation_sets}
use Rattle.graphql_pair_merging.specs.Pairs.{FindsBelow, HasLooked}
use Rattle.graphql_pair_merging.proofs.ConflictLemmas.{decided, linked, met_conflict, numbered_as, within}
use Rattle.graphql_pair_merging.proofs.merging.find_conflict.Goals as goal

pub find_conflict-requires-clause-linked : goal.find_conflict-requires-clause-linked
find_conflict-requires-clause-linked g c =
    let F = fragments_in c.args.fragments.now in
    let sets = operation_sets c.args.operations.now in
    let n = c.in_ok-numbered.numbered in
    linked F c.deref-2.result.now sets c.deref.result.now
    (numbered_as F n.starts.items c.deref-2.result.now sets n.sets.items c.deref.result.now c.in_ok-numbered.ensures.sets c.deref-2.ensures.value c.deref.ensures.value)

pub find_conflict-requires-clause-within : goal.find_conflict-requires-clause-within
find_conflict-requires-clause-within g c =
    let F = fragments_in c.args.fragments.now in
    let sets = operation_sets c.args.operations.now in
    let n = c.in_ok-numbered.numbered in
    within F c.deref-2.result.now sets c.deref.result.now
    (numbered_as F n.starts.items c.deref-2.result.now sets n.sets.items c.deref.result.now c.in_ok-numbered.ensures.sets c.deref-2.ensures.value c.deref.ensures.value)

pub returns-in-Some-clause-found : goal.returns-in-Some-clause-found
returns-in-Some-clause-found g c =
    let F = fragments_in c.args.fragments.now in
    let sets = operation_sets c.args.operations.now in
    let schema = c.args.schema.now in
    let n = c.in_ok-numbered.numbered in
    let starts = c.deref-2.result.now in
    let slice = c.deref.result.now in
    let are = numbered_as F n.starts.items starts sets n.sets.items slice c.in_ok-numbered.ensures.sets c.deref-2.ensures.value c.deref.ensures.value in
    met_conflict F starts sets slice are schema shape_pass c.in-Some.conflict
    (subst (λ o. MatchOption o (HasLooked schema shape_pass slice starts) (FindsBelow schema shape_pass slice starts)) c.in-Some.is c.in_ok-conflict.ensures.found)

pub find_conflict-requires-2-clause-linked : goal.find_conflict-requires-2-clause-linked
find_conflict-requires-2-clause-linked g c =
    let F = fragments_in c.args.fragments.now in
    let sets = operation_sets c.args.operations.now in
    let n = c.in_ok-numbered.numbered in
    linked F c.deref-4.result.now sets c.deref-3.result.now
    (numbered_as F n.starts.items c.deref-4.result.now sets n.sets.items c.deref-3.result.now c.in_ok-numbered.ensures.sets c.deref-4.ensures.value c.deref-3.ensures.value)

pub find_conflict-requires-2-clause-within : goal.find_conflict-requires-2-clause-within
find_conflict-requires-2-clause-within g c =
    let F = fragments_in c.args.fragments.now in
    let sets = operation_sets c.args.operations.now in
    let n = c.in_ok-numbered.numbered in
    within F c.deref-4.result.now sets c.deref-3.result.now
    (numbered_as F n.starts.items c.deref-4.result.now sets n.sets.items c.deref-3.result.now c.in_ok-numbered.ensures.sets c.deref-4.ensures.value c.deref-3.ensures.value)

pub returns-clause-found : goal.returns-clause-found
returns-clause-found g c =
    let F = fragments_in c.args.fragments.now in
    let sets = operation_sets c.args.operations.now in
    let schema = c.args.schema.now in
    let n = c.in_ok-numbered.numbered in
    let starts = c.deref-4.result.now in
    let slice = c.deref-3.result.now in
    let are = numbered_as F n.starts.items starts sets n.sets.items slice c.in_ok-numbered.ensures.sets c.deref-4.ensures.value c.deref-3.ensures.value in
    let was = c.deref.result.now in
    let begun = c.deref-2.result.now in
    let before = subst (λ o. MatchOption o (HasLooked schema shape_pass was begun) (FindsBelow schema shape_pass was begun)) c.in_default.is c.in_ok-conflict.ensures.found in
    let shapes = subst (λ l. HasLooked schema shape_pass l starts) (c.deref.ensures.value ∙ sym c.deref-3.ensures.value)
    (subst (λ l. HasLooked schema shape_pass was l) (c.deref-2.ensures.value ∙ sym c.deref-4.ensures.value) before) in
    decided c.find_conflict-2.result schema F starts sets slice are shapes c.find_conflict-2.ensures.found

pub find_conflict-requires-clause-numbers : goal.find_conflict-requires-clause-numbers
find_conflict-requires-clause-numbers g c = subst HaveArgumentNumbers (sym c.deref.ensures.value) c.in_ok-numbered.ensures.arguments

pub find_conflict-requires-2-clause-numbers : goal.find_conflict-requires-2-clause-numbers
find_conflict-requires-2-clause-numbers g c = subst HaveArgumentNumbers (sym c.deref-3.ensures.value) c.in_ok-numbered.ensures.arguments
