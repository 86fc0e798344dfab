use Rattle.std.proofs.Common.{◌≡◌, [], sym, ap, subst, ◌∙◌}
use Rattle.std.specs.Prelude.{None, Some}
use Rattle.graphql_diagnostics.specs.Diagnostics.{IsDiagnostic, entries}
use Rattle.graphql_specification.specs.Values.{Accepts, ValueReport}
use Rattle.graphql_documents.specs.Schemas.{type_definition}
use Rattle.graphql_documents.specs.TypeReferences.{inner_named_type, reference_of}
use Rattle.graphql_documents.specs.declared.documents.definitions.InputValueDefinition.{InputValueDefinition}
use Rattle.graphql_diagnostics.proofs.ReportLemmas.{ChecksList, holds}
use Rattle.graphql_schemas.proofs.DefaultValueLemmas.{default_checked, no_input_type, no_type}
use Rattle.graphql_schemas.proofs.default_values.validate_default_value.Goals as goal

pub returns-in_default-get : goal.returns-in_default-get
returns-in_default-get c =
    let S = c.args.schema.now in
    let d = c.args.definition.now.value.value in
    let named : c.inner_named_type.result.now ≡ inner_named_type d.ty.value.value =
    c.inner_named_type.ensures ∙ ap inner_named_type c.deref.ensures ∙ ap (λ (d : InputValueDefinition). inner_named_type d.ty.value.value) c.deref-definition.ensures in
    let none : type_definition S (inner_named_type d.ty.value.value) ≡ None = ap (type_definition S) (sym named) ∙ sym c.in_default-get.ensures.value in
    holds _ _ _ (no_type S d none)

pub returns-then-not-is_input_type : goal.returns-then-not-is_input_type
returns-then-not-is_input_type c =
    let S = c.args.schema.now in
    let d = c.args.definition.now.value.value in
    let named : c.inner_named_type.result.now ≡ inner_named_type d.ty.value.value =
    c.inner_named_type.ensures ∙ ap inner_named_type c.deref.ensures ∙ ap (λ (d : InputValueDefinition). inner_named_type d.ty.value.value) c.deref-definition.ensures in
    let found : type_definition S (inner_named_type d.ty.value.value) ≡ Some c.in-Some-get.named.now = ap (type_definition S) (sym named) ∙ sym c.in-Some-get.ensures.value in
    holds _ _ _ (no_input_type S d c.in-Some-get.named.now found (sym c.is_input_type.ensures ∙ c.if-not-is_input_type.true))

pub returns : goal.returns
returns c =
    let S = c.args.schema.now in
    let d = c.args.definition.now.value.value in
    let value = c.in-Some.value in
    let result = c.value_of_correct_type.result in
    let named : c.inner_named_type.result.now ≡ inner_named_type d.ty.value.value =
    c.inner_named_type.ensures ∙ ap inner_named_type c.deref.ensures ∙ ap (λ (d : InputValueDefinition). inner_named_type d.ty.value.value) c.deref-definition.ensures in
    let found : type_definition S (inner_named_type d.ty.value.value) ≡ Some c.in-Some-get.named.now = ap (type_definition S) (sym named) ∙ sym c.in-Some-get.ensures.value in
    default_checked S result d value _ _ (c.in-Some-get.named.now, found, sym c.is_input_type.ensures ∙ c.if-not-is_input_type.false)
    (ap (λ (d : InputValueDefinition). d.default_value) (sym c.deref-definition.ensures) ∙ c.in-Some.is)
    (subst (λ (d : InputValueDefinition). ChecksList result (Accepts S [] d.ty.value.value value.value.value) (IsDiagnostic (ValueReport S [] (reference_of d.ty) value))
    (entries c.args.diagnostics.now) (entries c.value_of_correct_type.new.diagnostics)) c.deref-definition.ensures c.value_of_correct_type.ensures)
