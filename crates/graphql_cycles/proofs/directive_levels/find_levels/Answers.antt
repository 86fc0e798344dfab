use Rattle.std.proofs.Common.{Bor, map, subst}
use Rattle.graphql_nodes.specs.Names.{NameText}
use Rattle.graphql_cycles.specs.Levels.{AddsLevel}
use Rattle.graphql_cycles.proofs.DirectiveLevelLemmas.{part_level_more}
use Rattle.graphql_cycles.proofs.directive_levels.find_levels.Goals as goal

pub loop-level-init : goal.loop-level-init
loop-level-init c = c.unknown-levels.ensures c.args.schema.now

pub loop-level-preserved : goal.loop-level-preserved
loop-level-preserved c =
    let now = λ (b : Bor NameText). b.now in
    let old = c.loop-level.levels in
    let level = c.loop-level.level in
    part_level_more c.args.schema.now old (record { directives = c.add_level.new.levels; types = c.add_level-in-loop-level.new.levels }) level
    (map now c.in_ok-directives.directives.items) (map now c.in_ok-types.types.items) c.in_ok-directives.ensures c.in_ok-types.ensures
    (subst (λ names. AddsLevel old.directives c.add_level.new.levels (map now names) level) c.deref.ensures.value c.in_ok-add_level.ensures)
    (subst (λ names. AddsLevel old.types c.add_level-in-loop-level.new.levels (map now names) level) c.deref-in-loop-level.ensures.value c.in_ok-add_level-2.ensures)
    c.loop-level.invariant
