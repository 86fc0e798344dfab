use Rattle.graphql_coordinates.specs.declared.coordinates.TypeAttributeCoordinate.{TypeAttributeCoordinate}
use Rattle.graphql_change_kinds.specs.declared.changes.Change.TheVariants as change
use Rattle.graphql_change_kinds.specs.Changes.{HasEffect, IsChange, field_type_changed}
use Rattle.graphql_documents.specs.TypeReferences.{IsTypeCopy, same_type}
use Rattle.std.proofs.Common.{◌≡◌, subst₂, false, rules, subst, sym}
use Rattle.graphql_documents.specs.declared.documents.definitions.FieldDefinition.{FieldDefinition}
use Rattle.graphql_schema_comparison.specs.Comparisons.{KeepsFieldType}
use Rattle.graphql_change_kinds.proofs.FindsLemmas.{found_words}
use Rattle.graphql_schema_comparison.proofs.fields.compare_field_types.Goals as goal

pub returns : goal.returns
returns c =
    let before : c.deref.result.now ≡ c.args.old.now.node.value.value = cc in
    let after : c.deref-2.result.now ≡ c.args.new.now.node.value.value = cc in
    found_words (λ merging harmless.
    subst₂ (λ (a b : FieldDefinition). KeepsFieldType c.args.meetings.now.by_shape c.args.pair.old.now c.args.pair.new.now merging a.ty b.ty) before after
    (c.in_ok-effect.ensures.keeps merging harmless)) c.in_ok-push.ensures

pub push-requires : goal.push-requires
push-requires c =
    let old = c.args.pair.old.now in
    let new = c.args.pair.new.now in
    let before : c.deref.result.now ≡ c.args.old.now.node.value.value = cc in
    let after : c.deref-2.result.now ≡ c.args.new.now.node.value.value = cc in
    let effect = c.in_ok-effect.effect in
    let differ : same_type c.deref.result.now.ty c.deref-2.result.now.ty ≡ false = search rules in
    subst (λ (k : TypeAttributeCoordinate). IsChange old new (change.FieldTypeChanged k c.in_ok-from.from c.in_ok-to.to effect)) (sym c.in_ok-field.ensures)
    (field_type_changed c.args.old.now c.args.new.now c.requires.was c.requires.is
    (subst (λ (d : FieldDefinition). IsTypeCopy d.ty c.in_ok-from.from) before c.in_ok-from.ensures.cases)
    (subst (λ (d : FieldDefinition). IsTypeCopy d.ty c.in_ok-to.to) after c.in_ok-to.ensures.cases)
    (subst₂ (λ (a b : FieldDefinition). same_type a.ty b.ty ≡ false) before after differ)
    (subst₂ (λ (a b : FieldDefinition). HasEffect old new a.ty b.ty effect) before after c.in_ok-effect.ensures.means))
