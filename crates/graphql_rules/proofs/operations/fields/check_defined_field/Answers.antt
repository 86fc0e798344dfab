use Rattle.std.proofs.Common.{Some, ap, refl, ◌≡◌, ◌∙◌}
use Rattle.graphql_documents.specs.TypeReferences.{inner_named_type}
use Rattle.graphql_diagnostics.proofs.ReportLemmas.{checks-err, kept_by, kept_then, kept_wider}
use Rattle.graphql_documents.specs.declared.documents.definitions.FieldDefinition.{FieldDefinition}
use Rattle.graphql_operations.specs.Contexts.{variables_of}
use Rattle.graphql_rules.proofs.FieldLemmas.{defined_reported, names_selection, stands_below}
use Rattle.graphql_rules.proofs.operations.fields.check_defined_field.Goals as goal

pub returns-in_err-validate_leaf_field_selection-clause-checks :
    goal.returns-in_err-validate_leaf_field_selection-clause-checks
returns-in_err-validate_leaf_field_selection-clause-checks c =
    let same = ap (λ (d : FieldDefinition). d.ty) c.deref.ensures in
    checks-err _ _ _ _ _ c.from_residual-in_err-validate_leaf_field_selection.ensures.0
    (kept_then (kept_by c.in_ok-check_field_arguments.ensures)
    (kept_wider
    (names_selection c.args.schema.now (variables_of c.args.context.now) c.args.parent.now c.args.field.now c.args.definition.now c.requires.found)
    (rw same at c.in_err-validate_leaf_field_selection.ensures.checks)))

pub returns-then-branch-clause-checks : goal.returns-then-branch-clause-checks
returns-then-branch-clause-checks c =
    let same = ap (λ (d : FieldDefinition). d.ty) c.deref.ensures in
    defined_reported c.args.schema.now (variables_of c.args.context.now) c.args.parent.now c.args.field.now c.args.definition.now c.requires.found
    c.in_ok-check_field_arguments.ensures (rw same at c.in_ok-validate_leaf_field_selection.ensures.checks)

pub returns-then-branch-clause-below : goal.returns-then-branch-clause-below
returns-then-branch-clause-below c =
    let inner : c.inner_named_type.result.now ≡ inner_named_type c.args.definition.now.node.value.value.ty =
    c.inner_named_type.ensures ∙ ap (λ (d : FieldDefinition). inner_named_type d.ty) c.deref.ensures in (
      refl,
      rw inner (stands_below (Some c.args.schema.now) (Some c.args.parent.now) c.args.field.now.value.value.name c.args.definition.now c.requires.found),
    )

pub returns-else-branch-clause-checks : goal.returns-else-branch-clause-checks
returns-else-branch-clause-checks c =
    let same = ap (λ (d : FieldDefinition). d.ty) c.deref.ensures in
    defined_reported c.args.schema.now (variables_of c.args.context.now) c.args.parent.now c.args.field.now c.args.definition.now c.requires.found
    c.in_ok-check_field_arguments.ensures (rw same at c.in_ok-validate_leaf_field_selection.ensures.checks)
