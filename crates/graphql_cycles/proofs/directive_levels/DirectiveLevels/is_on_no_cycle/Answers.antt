use Rattle.std.proofs.Common.{◌≡◌, Some, rules}
use Rattle.std.proofs.Math.Logic.{∥∥₁_elim}
use Rattle.graphql_name_tables.specs.Places.{place_under}
use Rattle.graphql_cycles.proofs.DirectiveLevelLemmas.{where_ok}
use Rattle.graphql_cycles.proofs.DirectiveRankLemmas.{ranked_no_way_back}
use Rattle.graphql_cycles.proofs.directive_levels.DirectiveLevels.is_on_no_cycle.Goals as goal

pub returns-then-is_known : goal.returns-then-is_known
returns-then-is_known c = λ yes. c.in_ok-is_known.ensures.no_cycle c.if-is_known.true

pub returns-in-Some : goal.returns-in-Some
returns-in-Some c =
    let ranks = c.args.self.now.ranks in
    let d = c.args.definition.now in
    let own = c.in-Some.rank in
    let at : place_under ranks.directives d.value.value.name ≡ Some own = search rules in
    where_ok c.directive_leads_lower.result
    (λ lower leads yes path cycle. ∥∥₁_elim c.args.self.now.ranked (λ x y. absurd x) (λ are. ranked_no_way_back are d own at (leads yes) path cycle))
    c.directive_leads_lower.ensures
