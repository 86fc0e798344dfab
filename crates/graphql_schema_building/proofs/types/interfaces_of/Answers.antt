use Rattle.std.proofs.Common.{◌++◌, ◌∙◌, ap, map, take}
use Rattle.graphql_schema_checking.specs.Definitions.{interface_names}
use Rattle.graphql_schema_building.specs.Parts.{listed_by, names_said}
use Rattle.graphql_schema_building.specs.TypeParts.{originated}
use Rattle.graphql_schema_building.proofs.DistinctLemmas.{listed_distinct}
use Rattle.graphql_schema_building.proofs.TypePartLemmas.{part_listed}
use Rattle.graphql_schema_building.proofs.types.interfaces_of.Goals as goal

pub loop-part-preserved : goal.loop-part-preserved
loop-part-preserved c =
    let xs = c.args.parts.now in
    let i = c.loop-part.part-index in
    let x = c.part-item.result in
    let before = listed_by interface_names (originated (take i xs)) in
    c.in_ok-add_names.ensures before
    (listed_distinct (λ x. x) interface_names xs i x c.written_interfaces.result.now c.loop-part-test.true c.part-item.is c.written_interfaces.ensures c.requires) c.loop-part.invariant ∙
    ap names_said
    (ap (λ l. before ++ map (λ y. (x.origin, y)) l) c.written_interfaces.ensures ∙ part_listed interface_names xs i x c.loop-part-test.true c.part-item.is)
