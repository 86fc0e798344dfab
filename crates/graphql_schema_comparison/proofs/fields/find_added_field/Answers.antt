use Rattle.graphql_change_kinds.proofs.TruthLemmas.{none_if_err}
use Rattle.graphql_coordinates.specs.declared.coordinates.TypeAttributeCoordinate.{TypeAttributeCoordinate}
use Rattle.graphql_change_kinds.specs.declared.changes.Change.TheVariants as change
use Rattle.std.specs.Result.{is_ok}
use Rattle.graphql_change_kinds.proofs.FindsLemmas.{adds_found}
use Rattle.std.proofs.Common.{◌≡◌, rules, sym, subst, false, rules}
use Rattle.graphql_documents.specs.Schemas.{type_field}
use Rattle.graphql_change_kinds.specs.Changes.{field_added, IsChange}
use Rattle.graphql_schema_comparison.proofs.fields.find_added_field.Goals as goal

pub returns : goal.returns
returns c = adds_found c.in_ok-push.ensures

pub push-requires : goal.push-requires
push-requires c =
    let old = c.args.pair.old.now in
    let new = c.args.pair.new.now in
    let not_ok : is_ok c.type_field.result ≡ false = search rules in
    subst (λ (k : TypeAttributeCoordinate). IsChange old new (change.FieldAdded k)) (sym c.in_ok-coordinate.ensures)
    (field_added c.args.field.now (λ before was. none_if_err (λ d. d.now) c.type_field.result (type_field old c.args.ty.now c.args.name.now) c.type_field.ensures not_ok before was) c.requires)
