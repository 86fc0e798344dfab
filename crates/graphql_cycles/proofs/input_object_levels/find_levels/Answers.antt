use Rattle.std.proofs.Common.{Bor, map, subst}
use Rattle.graphql_nodes.specs.Names.{NameText}
use Rattle.graphql_cycles.specs.Levels.{AddsLevel}
use Rattle.graphql_cycles.proofs.InputObjectLevelLemmas.{input_object_level_more}
use Rattle.graphql_cycles.proofs.input_object_levels.find_levels.Goals as goal

pub loop-level-preserved : goal.loop-level-preserved
loop-level-preserved c =
    let now = λ (b : Bor NameText). b.now in
    let level = c.loop-level.level in
    input_object_level_more c.args.schema.now level (map now c.in_ok-next.next.items) c.in_ok-next.ensures
    (subst (λ names. AddsLevel c.loop-level.levels c.add_level.new.levels (map now names) level) c.deref.ensures.value c.in_ok-add_level.ensures)
    c.loop-level.invariant
