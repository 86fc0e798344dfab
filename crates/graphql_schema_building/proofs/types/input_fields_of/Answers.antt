use Rattle.std.proofs.Common.{◌++◌, ◌∙◌, ap, map, subst, take}
use Rattle.graphql_leaf_building.specs.Definitions.{InputValueSays}
use Rattle.graphql_schema_building.specs.Parts.{EntriesSay, listed_by}
use Rattle.graphql_schema_building.specs.TypeParts.{originated}
use Rattle.graphql_schema_building.specs.TypesSay.{written_input_fields}
use Rattle.graphql_schema_building.proofs.DistinctLemmas.{listed_distinct}
use Rattle.graphql_schema_building.proofs.TypePartLemmas.{part_listed}
use Rattle.graphql_schema_building.proofs.types.input_fields_of.Goals as goal

pub loop-part-preserved : goal.loop-part-preserved
loop-part-preserved c =
    let xs = c.args.parts.now in
    let i = c.loop-part.part-index in
    let x = c.part-item.result in
    let before = listed_by written_input_fields (originated (take i xs)) in
    subst (λ l. EntriesSay (λ x. x.name) InputValueSays l c.add_input_fields.new.input_fields.entries)
    (ap (λ l. before ++ map (λ y. (x.origin, y)) l) c.written_input_fields.ensures ∙ part_listed written_input_fields xs i x c.loop-part-test.true c.part-item.is)
    (c.in_ok-add_input_fields.ensures before
    (listed_distinct (λ x. x.name) written_input_fields xs i x c.written_input_fields.result.now c.loop-part-test.true c.part-item.is c.written_input_fields.ensures c.requires) c.loop-part.invariant)
