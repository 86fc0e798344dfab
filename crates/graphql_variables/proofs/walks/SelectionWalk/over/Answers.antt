-- What the walk from nothing has listed, with its limit.
use Rattle.std.proofs.Common.{ℕ, ◌∙◌, map, ap, subst}
use Rattle.graphql_guards.specs.Guards.{depth_limit}
use Rattle.graphql_variables.proofs.SelectionWalkLemmas.{walked_words}
use Rattle.graphql_variables.proofs.WalkOrderLemmas.{ordered_from_nothing}
use Rattle.graphql_variables.proofs.WalkedLemmas.{walk_has_listed, passes_bound}
use Rattle.graphql_variables.specs.WalkSteps.{BeginsIn, HasWalked, PassesFrom}
use Rattle.graphql_variables.specs.declared.walks.Visited.{Visited}
use Rattle.graphql_variables.proofs.walks.SelectionWalk.over.Goals as goal

pub returns-clause-listed : goal.returns-clause-listed
returns-clause-listed c =
    let walk = c.args.self.now in
    let set = c.args.set.now in
    let begun : Visited = record { visited_fragments = c.with_hasher.result; selections = c.in_ok-with_capacity.field-0 } in
    let Bounded = λ (limit depth : ℕ). HasWalked walk (BeginsIn walk set) (PassesFrom walk begun limit depth set) begun c.walk_set.new.visited c.in_ok-complete.complete in
    let from_nothing : Bounded 500 0 =
    subst (λ limit. Bounded limit 0) c.with_limit-depth.ensures.limit
    (subst (Bounded (depth_limit c.with_limit-depth.result)) (c.with_limit-depth.ensures.depth ∙ c.new.ensures.depth) c.in_ok-complete.ensures.walks) in
    walk_has_listed set
    (ap (map (λ r. r.now)) c.with_hasher.ensures.empty) (ap (map (λ r. r.now)) c.in_ok-with_capacity.ensures.items)
    (walked_words (λ x h. h) (λ x h. h) passes_bound from_nothing)

pub returns-clause-ordered : goal.returns-clause-ordered
returns-clause-ordered c = λ done kept.
    ordered_from_nothing (ap (map (λ r. r.now)) c.with_hasher.ensures.empty) (ap (map (λ r. r.now)) c.in_ok-with_capacity.ensures.items)
    (c.in_ok-complete.ensures.order done kept)
