use Rattle.std.proofs.Common.{◌≡◌, ◌+◌, ap, rules, subst, sym, ◌∙◌}
use Rattle.std.proofs.lemmas.Option.{same_Some}
use Rattle.graphql_specification.specs.DirectiveCycles.{type_part}
use Rattle.graphql_cycles.proofs.DirectiveLevelLemmas.{where_ok}
use Rattle.graphql_cycles.specs.DirectiveLevels.{PartLeadsLower}
use Rattle.graphql_cycles.proofs.directive_ranks.type_leads_no_higher.Goals as goal

pub returns-in-Some-checked_add : goal.returns-in-Some-checked_add
returns-in-Some-checked_add c =
    let above : c.in-Some-checked_add.above ≡ c.in-Some.rank + 1 = search rules in
    where_ok c.type_leads_lower.result
    (λ leads lower yes i is. subst (λ n. PartLeadsLower c.args.ranks.now n (type_part c.args.definition.now))
    (above ∙ ap (λ n. n + 1) (same_Some c.in-Some.rank i (sym c.in-Some.is ∙ is))) (lower yes))
    c.type_leads_lower.ensures
