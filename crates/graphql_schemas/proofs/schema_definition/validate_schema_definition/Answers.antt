-- One check after another, each in words of the schema definition.
use Rattle.std.proofs.Common.{◌≡◌, ap, ◌∙◌}
use Rattle.graphql_diagnostics.proofs.ReportLemmas.{checks-err, kept_by, kept_then, kept_wider}
use Rattle.graphql_documents.specs.declared.documents.schemas.SchemaDefinition.{SchemaDefinition}
use Rattle.graphql_schemas.proofs.RootLemmas.{names_roots, schema_definition_checked}
use Rattle.graphql_schemas.proofs.schema_definition.validate_schema_definition.Goals as goal

pub returns-in_err-validate_root_operation_definitions : goal.returns-in_err-validate_root_operation_definitions
returns-in_err-validate_root_operation_definitions c =
    let schema = c.args.schema.now in
    checks-err _ _ _ _ _ c.from_residual-in_err-validate_root_operation_definitions.ensures.0
    (kept_then (kept_by c.in_ok-validate_query_root.ensures)
    (kept_wider (names_roots schema schema.schema_definition) c.in_err-validate_root_operation_definitions.ensures))

pub returns : goal.returns
returns c =
    let schema = c.args.schema.now in
    let d = schema.schema_definition in
    let directives_are : c.deref-2.result.now ≡ d.value.value.directives.items =
    c.deref-2.ensures.value ∙ ap (λ (x : SchemaDefinition). x.directives.items) c.deref.ensures in
    schema_definition_checked schema d c.validate_component_directives.result _ _ _ _
    c.in_ok-validate_query_root.ensures c.in_ok-validate_root_operation_definitions.ensures
    (rw directives_are at c.validate_component_directives.ensures)
