use Rattle.std.proofs.Common.{◌++◌, ◌∙◌, map, take, sym, ap}
use Rattle.std.proofs.lemmas.List.{append-nil, take_all}
use Rattle.graphql_schema_building.specs.Parts.{names_said}
use Rattle.graphql_schema_building.proofs.DistinctLemmas.{part_distinct}
use Rattle.graphql_schema_building.proofs.PartLemmas.{part_more}
use Rattle.graphql_schema_building.proofs.parts.add_names.Goals as goal

pub loop-tree-init : goal.loop-tree-init
loop-tree-init c = λ written distinct s. s ∙ ap names_said (sym (append-nil written))

pub loop-tree-preserved : goal.loop-tree-preserved
loop-tree-preserved c = λ written distinct s.
    let xs = c.args.trees.now in
    let i = c.loop-tree.tree-index in
    let x = c.tree-item.result in
    let before = written ++ map (λ x. (c.args.origin, x)) (take i xs) in
    c.in_ok-add_name.ensures before (part_distinct (λ x. x) c.args.origin written xs i x c.loop-tree-test.true c.tree-item.is distinct)
    (c.loop-tree.invariant written distinct s) ∙
    ap names_said (part_more c.args.origin written xs i x c.loop-tree-test.true c.tree-item.is)

pub returns : goal.returns
returns c = λ written distinct s.
    c.loop-tree.invariant written distinct s ∙
    ap (λ l. names_said (written ++ map (λ x. (c.args.origin, x)) l)) (take_all c.loop-tree.tree-index c.args.trees.now c.loop-tree-test.false)
