use Rattle.std.proofs.Common.{◌≡◌, Ok, subst, subst₂, sym}
use Rattle.graphql_documents.specs.Schemas.{type_field}
use Rattle.graphql_documents.specs.declared.documents.components.Component.{Component}
use Rattle.graphql_documents.specs.declared.documents.definitions.FieldDefinition.{FieldDefinition}
use Rattle.graphql_schema_comparison.specs.Comparisons.{KeepsUses}
use Rattle.graphql_change_kinds.proofs.FindsLemmas.{found_words, one_ok}
use Rattle.graphql_schema_comparison.proofs.fields.compare_meta_field.Goals as goal

pub returns : goal.returns
returns c =
    let old = c.args.pair.old.now in
    let new = c.args.pair.new.now in
    let ty = c.args.ty.now in
    found_words (λ merging uses before after is there.
    let was_found : type_field old ty c.deref.result.now.name ≡ Ok before = subst (λ (d : FieldDefinition). type_field old ty d.name ≡ Ok before) (sym c.deref.ensures) is in
    let is_found : type_field new ty c.deref.result.now.name ≡ Ok after = subst (λ (d : FieldDefinition). type_field new ty d.name ≡ Ok after) (sym c.deref.ensures) there in
    subst₂ (λ (x y : Component FieldDefinition). KeepsUses c.args.meetings.now.by_shape old new merging x.node.value.value y.node.value.value)
    (one_ok _ c.in-Ok.old.now before c.in-Ok.ensures was_found) (one_ok _ c.in-Ok-type_field.new.now after c.in-Ok-type_field.ensures is_found) uses)
    c.in_ok-compare_two_fields.ensures
