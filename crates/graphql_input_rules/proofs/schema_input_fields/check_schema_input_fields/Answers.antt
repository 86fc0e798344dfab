use Rattle.std.proofs.Common.{◌∙◌, ap, subst}
use Rattle.std.specs.Prelude.{◌⊎◌}
use Rattle.indexmap.specs.IndexMap.{values}
use mathlib.Core.Logic.{inl, inr}
use Rattle.graphql_documents.specs.declared.documents.schemas.Schema.{Schema}
use Rattle.graphql_documents.specs.declared.documents.schemas.SchemaDefinition.{SchemaDefinition}
use Rattle.graphql_documents.specs.declared.documents.values.Value.{Value}
use Rattle.graphql_documents.specs.declared.documents.values.Value.TheVariants as literal
use Rattle.graphql_diagnostics.specs.Reports.{KeepsReports}
use Rattle.graphql_diagnostics.proofs.ReportLemmas.{kept_wider}
use Rattle.graphql_input_rules.specs.InputFields.{FieldReport}
use Rattle.graphql_input_rules.specs.SchemaValues.{DirectiveDefinitionsWrite, FieldsWrite, InAppliedDirectives, TypesWrite, meta_fields_of}
use Rattle.graphql_input_rules.proofs.MetaFieldLemmas.{no_meta_field}
use Rattle.graphql_input_rules.proofs.PlaceLemmas.{Reported, first_refused, in_places, moved, second_refused, then_checked}
use Rattle.graphql_input_rules.proofs.schema_input_fields.check_schema_input_fields.Goals as goal

-- in the types and meta-fields, and in all behind the schema definition
abbrev InTypes : Schema → Value → Type 0
InTypes s v = TypesWrite (values s.types) v ⊎ FieldsWrite (meta_fields_of s.meta_fields) v

abbrev Behind : Schema → Value → Type 0
Behind s v = DirectiveDefinitionsWrite (values s.directive_definitions) v ⊎ InTypes s v

pub returns-in_err-check_applied_directives : goal.returns-in_err-check_applied_directives
returns-in_err-check_applied_directives c =
    let s = c.args.schema.now in
    let old = c.args.reports.now.kept.items in
    let new = c.check_applied_directives.new.reports.kept.items in
    first_refused c.from_residual.result (InAppliedDirectives s.schema_definition.value.value.directives.items)
    (Behind s) old new c.from_residual.ensures.0
    (subst (λ l. KeepsReports (FieldReport (InAppliedDirectives l)) old new) (c.deref-2.ensures.value ∙ ap (λ (d : SchemaDefinition). d.directives.items) c.deref.ensures) c.in_err-check_applied_directives.ensures)

pub returns-in_err-check_directive_definitions : goal.returns-in_err-check_directive_definitions
returns-in_err-check_directive_definitions c =
    let s = c.args.schema.now in
    let old = c.args.reports.now.kept.items in
    let mid = c.check_applied_directives.new.reports.kept.items in
    let new = c.check_directive_definitions.new.reports.kept.items in
    second_refused c.from_residual-in_err-check_directive_definitions.result (InAppliedDirectives s.schema_definition.value.value.directives.items)
    (Behind s) old mid new
    c.from_residual-in_err-check_directive_definitions.ensures.0
    (subst (λ l. Reported (InAppliedDirectives l) old mid) (c.deref-2.ensures.value ∙ ap (λ (d : SchemaDefinition). d.directives.items) c.deref.ensures) c.in_ok-check_applied_directives.ensures)
    (kept_wider (moved (λ v p. inl p)) c.in_err-check_directive_definitions.ensures)

pub returns : goal.returns
returns c =
    let s = c.args.schema.now in
    let r = c.check_types.result in
    let old = c.args.reports.now.kept.items in
    let first = c.check_applied_directives.new.reports.kept.items in
    let second = c.check_directive_definitions.new.reports.kept.items in
    let new = c.check_types.new.reports.kept.items in
    then_checked r (InAppliedDirectives s.schema_definition.value.value.directives.items)
    (Behind s) old first new
    (subst (λ l. Reported (InAppliedDirectives l) old first) (c.deref-2.ensures.value ∙ ap (λ (d : SchemaDefinition). d.directives.items) c.deref.ensures) c.in_ok-check_applied_directives.ensures)
    (then_checked r (DirectiveDefinitionsWrite (values s.directive_definitions)) (InTypes s) first second new
    c.in_ok-check_directive_definitions.ensures
    (in_places r (TypesWrite (values s.types)) (InTypes s) second new (λ v w. inl w) (λ e w. elim w [
      | inl there ↦ there
      | inr meta ↦ absurd (no_meta_field s.meta_fields (literal.Object e) meta)
    ])
    c.check_types.ensures))
