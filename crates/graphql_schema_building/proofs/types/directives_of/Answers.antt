use Rattle.std.proofs.Common.{◌++◌, ◌∙◌, ap, map, subst, take}
use Rattle.graphql_leaf_building.specs.Directives.{DirectiveSays}
use Rattle.graphql_schema_building.specs.Parts.{ComponentsSay, listed_by}
use Rattle.graphql_schema_building.specs.TypeParts.{originated}
use Rattle.graphql_schema_building.specs.TypesSay.{written_directives}
use Rattle.graphql_schema_building.proofs.TypePartLemmas.{part_listed}
use Rattle.graphql_schema_building.proofs.types.directives_of.Goals as goal

pub loop-part-preserved : goal.loop-part-preserved
loop-part-preserved c =
    let xs = c.args.parts.now in
    let i = c.loop-part.part-index in
    let x = c.part-item.result in
    let before = listed_by written_directives (originated (take i xs)) in
    subst (λ l. ComponentsSay DirectiveSays l c.add_directives.new.directives.items)
    (ap (λ l. before ++ map (λ y. (x.origin, y)) l) c.written_directives.ensures ∙ part_listed written_directives xs i x c.loop-part-test.true c.part-item.is)
    (c.in_ok-add_directives.ensures before c.loop-part.invariant)
