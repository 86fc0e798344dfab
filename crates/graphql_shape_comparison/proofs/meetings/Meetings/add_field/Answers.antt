use Rattle.std.proofs.Common.{◌≡◌, ◌∙◌, ap, sym}
use Rattle.graphql_documents.specs.declared.documents.definitions.FieldDefinition.{FieldDefinition}
use Rattle.graphql_change_kinds.specs.Forms.{form_in}
use Rattle.graphql_shape_comparison.proofs.meetings.Meetings.add_field.Goals as goal

pub add_shapes-requires-clause-was : goal.add_shapes-requires-clause-was
add_shapes-requires-clause-was c =
    let before : c.deref.result.now ≡ c.args.field.now.node.value.value = cc in
    (c.args.field.now, c.requires, sym (c.in_ok-old_shape.ensures ∙ ap (λ (d : FieldDefinition). form_in c.args.pair.old.now d.ty) before))

pub add_shapes-requires-clause-is : goal.add_shapes-requires-clause-is
add_shapes-requires-clause-is c =
    let after : c.deref-2.result.now ≡ c.in-Ok.new.now.node.value.value = cc in
    (c.in-Ok.new.now, c.in-Ok.ensures, sym (c.in_ok-new_shape.ensures ∙ ap (λ (d : FieldDefinition). form_in c.args.pair.new.now d.ty) after))
