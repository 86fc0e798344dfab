use Rattle.graphql_coordinates.specs.declared.coordinates.TypeAttributeCoordinate.{TypeAttributeCoordinate}
use Rattle.graphql_change_kinds.specs.declared.changes.Change.TheVariants as change
use Rattle.graphql_change_kinds.specs.Changes.{field_removed, IsChange}
use Rattle.std.proofs.Common.{sym, subst}
use Rattle.graphql_change_kinds.proofs.TruthLemmas.{ok_no_err}
use Rattle.graphql_change_kinds.proofs.FindsLemmas.{found_words}
use Rattle.graphql_schema_comparison.proofs.fields.compare_own_field.Goals as goal

pub returns-in_ok-compare_two_fields-in-Ok : goal.returns-in_ok-compare_two_fields-in-Ok
returns-in_ok-compare_two_fields-in-Ok c =
    found_words (λ merging kept. (c.in-Ok.new.now, c.in-Ok.ensures, kept)) c.in_ok-compare_two_fields-in-Ok.ensures

pub push-requires : goal.push-requires
push-requires c =
    let old = c.args.pair.old.now in
    let new = c.args.pair.new.now in
    subst (λ (k : TypeAttributeCoordinate). IsChange old new (change.FieldRemoved k)) (sym c.in_ok-coordinate-in-Err.ensures)
    (field_removed c.args.field.now c.requires.was (λ after is. ok_no_err _ after _ is c.in-Err.ensures))

pub returns-in_ok-push-in-Err : goal.returns-in_ok-push-in-Err
returns-in_ok-push-in-Err c = found_words (λ merging harmless. absurd (let no : ⊥ = cc in no)) c.in_ok-push-in-Err.ensures
