use Rattle.std.proofs.Common.{All, subst}
use Rattle.graphql_specification.specs.DirectiveCycles.{type_part}
use Rattle.graphql_cycles.specs.DirectiveLevels.{ReferenceIsLower}
use Rattle.graphql_cycles.proofs.DirectiveLevelLemmas.{leads_lower}
use Rattle.graphql_cycles.proofs.directive_levels.PartLevels.type_leads_lower.Goals as goal

pub returns : goal.returns
returns c = λ lower.
    let levels = c.args.self.now in
    let all = subst (All (ReferenceIsLower levels c.args.level)) c.deref.ensures.value (c.all_lower.ensures.0 lower) in
    leads_lower levels (type_part c.args.definition.now) c.args.level c.in_ok-references.references.items c.in_ok-references.ensures all
