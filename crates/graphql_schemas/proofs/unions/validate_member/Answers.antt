use Rattle.std.proofs.Common.{◌≡◌, refl, sym, ap, ◌∙◌, rules}
use Rattle.std.specs.Prelude.{IsFalse, None, Some}
use Rattle.graphql_diagnostics.specs.Diagnostics.{IsDiagnostic}
use Rattle.graphql_documents.specs.Schemas.{is_object_type, type_definition}
use Rattle.graphql_specification.specs.Types.{TypeReport, member_is_undefined}
use Rattle.graphql_documents.specs.declared.documents.schemas.ExtendedType.TheVariants as types
use Rattle.graphql_diagnostics.proofs.ReportLemmas.{checks-push, checks_words, holds}
use Rattle.graphql_field_definitions.proofs.TypeNameLemmas.{of_no_kind, of_no_type}
use Rattle.graphql_schemas.proofs.unions.validate_member.Goals as goal

pub returns-in-Some-Object : goal.returns-in-Some-Object
returns-in-Some-Object c = λ union stands.
    let d = types.Object c.in-Some-Object.field-0-0 in
    let defined : type_definition c.args.schema.now c.args.member.now.name ≡ Some d = sym c.in-Some-Object.ensures.value ∙ ap Some c.in-Some-Object.field-0-is in
    holds _ _ _ (d, defined, refl)

pub returns-in-Some : goal.returns-in-Some
returns-in-Some c = λ union stands.
    let schema = c.args.schema.now in
    let name = c.args.member.now.name in
    let d = c.in-Some.definition.now in
    let defined : type_definition schema name ≡ Some d = sym c.in-Some.ensures.value in
    let other : IsFalse (is_object_type d) = search rules in
    let says = IsDiagnostic (TypeReport schema (types.Union union)) in
    checks_words c.report_other_kind.result _ _ says says _ _ (λ no_kind. absurd no_kind, of_no_kind schema is_object_type name d defined other) (λ e q. q)
    (c.report_other_kind.ensures schema union defined stands)

pub returns-in-None : goal.returns-in-None
returns-in-None c = λ union stands.
    let schema = c.args.schema.now in
    let name = c.args.member.now.name in
    let undefined : type_definition schema name ≡ None = sym c.in-None.ensures.value in
    checks-push _ _ _ _ _ _ c.report_undefined_type.ensures.ok c.report_undefined_type.ensures.err (of_no_type schema is_object_type name undefined)
    (member_is_undefined {d = union} {member = c.args.member.now} stands undefined refl)
