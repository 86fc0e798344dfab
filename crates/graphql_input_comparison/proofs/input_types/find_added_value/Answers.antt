use Rattle.graphql_change_kinds.proofs.FindsLemmas.{adds_found}
use Rattle.std.proofs.Common.{sym, subst, rules}
use Rattle.std.specs.Prelude.{IsNone}
use Rattle.indexmap.specs.IndexMap.{get}
use Rattle.graphql_nodes.specs.Names.{same_name}
use Rattle.graphql_change_kinds.specs.Changes.{IsChange, enum_value_added}
use Rattle.graphql_change_kinds.specs.declared.changes.Change.TheVariants as change
use Rattle.graphql_coordinates.specs.declared.coordinates.TypeAttributeCoordinate.{TypeAttributeCoordinate}
use Rattle.graphql_input_comparison.proofs.input_types.find_added_value.Goals as goal

pub push-requires : goal.push-requires
push-requires c =
    let old = c.args.pair.old.now in
    let new = c.args.pair.new.now in
    let none : IsNone (get same_name c.args.old.now.values c.args.name.now) = search rules in
    subst (λ (k : TypeAttributeCoordinate). IsChange old new (change.EnumValueAdded k)) (sym c.in_ok-coordinate.ensures)
    (enum_value_added c.args.old.now c.args.new.now c.requires.was c.requires.is none c.requires.there)

pub returns : goal.returns
returns c = adds_found c.in_ok-push.ensures
