use Rattle.std.proofs.Common.{◌++◌, ◌∙◌, ap, map, take}
use Rattle.graphql_schema_building.specs.TypesSay.{written_members}
use Rattle.graphql_schema_building.specs.Parts.{listed_by, names_said}
use Rattle.graphql_schema_building.specs.TypeParts.{originated}
use Rattle.graphql_schema_building.proofs.DistinctLemmas.{listed_distinct}
use Rattle.graphql_schema_building.proofs.TypePartLemmas.{part_listed}
use Rattle.graphql_schema_building.proofs.types.members_of.Goals as goal

pub loop-part-preserved : goal.loop-part-preserved
loop-part-preserved c =
    let xs = c.args.parts.now in
    let i = c.loop-part.part-index in
    let x = c.part-item.result in
    let before = listed_by written_members (originated (take i xs)) in
    c.in_ok-add_names.ensures before
    (listed_distinct (λ x. x) written_members xs i x c.written_members.result.now c.loop-part-test.true c.part-item.is c.written_members.ensures c.requires) c.loop-part.invariant ∙
    ap names_said
    (ap (λ l. before ++ map (λ y. (x.origin, y)) l) c.written_members.ensures ∙ part_listed written_members xs i x c.loop-part-test.true c.part-item.is)
