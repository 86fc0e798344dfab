use Rattle.std.proofs.Common.{◌++◌, List, map, take, sym, subst}
use Rattle.std.proofs.lemmas.List.{append-nil, take_all}
use Rattle.graphql_leaf_building.specs.Definitions.{EnumValueSays}
use Rattle.graphql_trees.specs.declared.type_system.EnumValueDefinition as enum_value_tree
use Rattle.graphql_schema_building.specs.Parts.{EntriesSay, Originated}
use Rattle.graphql_schema_building.proofs.DistinctLemmas.{part_distinct}
use Rattle.graphql_schema_building.proofs.PartLemmas.{part_more}
use Rattle.graphql_schema_building.proofs.parts.add_values.Goals as goal

pub loop-tree-init : goal.loop-tree-init
loop-tree-init c = λ written distinct s.
    subst (λ (l : List (Originated enum_value_tree.EnumValueDefinition)). EntriesSay (λ x. x.name) EnumValueSays l c.args.values.now.entries) (sym (append-nil written)) s

pub loop-tree-preserved : goal.loop-tree-preserved
loop-tree-preserved c = λ written distinct s.
    let xs = c.args.trees.now in
    let i = c.loop-tree.tree-index in
    let x = c.tree-item.result in
    subst (λ (l : List (Originated enum_value_tree.EnumValueDefinition)). EntriesSay (λ x. x.name) EnumValueSays l c.add_value.new.values.entries)
    (part_more c.args.origin written xs i x c.loop-tree-test.true c.tree-item.is)
    (c.in_ok-add_value.ensures (written ++ map (λ x. (c.args.origin, x)) (take i xs))
    (part_distinct (λ x. x.name) c.args.origin written xs i x c.loop-tree-test.true c.tree-item.is distinct) (c.loop-tree.invariant written distinct s))

pub returns : goal.returns
returns c = λ written distinct s.
    subst (λ l. EntriesSay (λ x. x.name) EnumValueSays (written ++ map (λ x. (c.args.origin, x)) l) c.loop-tree.values.entries)
    (take_all c.loop-tree.tree-index c.args.trees.now c.loop-tree-test.false) (c.loop-tree.invariant written distinct s)
