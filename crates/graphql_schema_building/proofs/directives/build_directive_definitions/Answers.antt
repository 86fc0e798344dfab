use Rattle.std.proofs.Common.{◌≡◌, ◌++◌, ◌∷◌, ◌∙◌, ◌+◌, [], ap, drop, map, take, sym, subst}
use Rattle.std.proofs.lemmas.List.{append_assoc, map-append}
use Rattle.graphql_nodes.specs.Names.{AreDistinct}
use Rattle.graphql_variables.proofs.SplitLemmas.{split_at}
use Rattle.graphql_trees.specs.declared.type_system.DirectiveDefinition.{DirectiveDefinition}
use Rattle.graphql_repetitions.specs.References.{nows}
use Rattle.graphql_repetitions.proofs.ReferenceLemmas.{nows_all, nows_more}
use Rattle.graphql_schema_building.specs.SchemaSays.{DirectivesStand}
use Rattle.graphql_schema_building.proofs.DistinctLemmas.{distinct_front}
use Rattle.graphql_schema_building.proofs.directives.build_directive_definitions.Goals as goal

pub loop-tree-preserved : goal.loop-tree-preserved
loop-tree-preserved c =
    let xs = c.args.trees.now in
    let i = c.loop-tree.tree-index in
    let x = c.tree-item.result in
    let before = nows (take i xs) in
    let behind = nows (drop (i + 1) xs) in
    let split : nows xs ≡ (before ++ x.now ∷ []) ++ behind =
    ap nows (split_at xs i x c.loop-tree-test.true c.tree-item.is) ∙ map-append (λ r. r.now) (take i xs) (x ∷ drop (i + 1) xs) ∙
    sym (append_assoc before (x.now ∷ []) behind) in
    let distinct : AreDistinct (map (λ (d : DirectiveDefinition). d.name) (before ++ x.now ∷ [])) =
    distinct_front (λ (d : DirectiveDefinition). d.name) (before ++ x.now ∷ []) behind (subst (λ l. AreDistinct (map (λ (d : DirectiveDefinition). d.name) l)) split c.requires) in
    subst (λ l. DirectivesStand l c.add_directive_definition.new.built.entries) (sym (nows_more xs i x c.loop-tree-test.true c.tree-item.is))
    (c.in_ok-add_directive_definition.ensures before distinct c.loop-tree.invariant)

pub returns : goal.returns
returns c =
    subst (λ l. DirectivesStand l c.loop-tree.built.entries) (nows_all c.args.trees.now c.loop-tree.tree-index c.loop-tree-test.false) c.loop-tree.invariant
