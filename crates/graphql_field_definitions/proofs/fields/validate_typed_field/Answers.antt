use Rattle.std.proofs.Common.{[], ◌∷◌}
use Rattle.graphql_specification.specs.BuiltInScalars.{argument_types}
use Rattle.graphql_documents.specs.TypeReferences.{inner_named_type}
use Rattle.graphql_diagnostics.proofs.ReportLemmas.{checks-err, kept_wider}
use Rattle.graphql_variables.proofs.FirstPlaceLemmas.{holds_on_ok}
use Rattle.graphql_field_definitions.proofs.BuiltInScalarLemmas.{keeps_by, keeps_then, records_then, records_turned}
use Rattle.graphql_field_definitions.proofs.FieldDefinitionLemmas.{names_untyped, typed_field_checked}
use Rattle.graphql_field_definitions.proofs.fields.validate_typed_field.Goals as goal

pub returns-in_err-validate_field_definition-clause-checks : goal.returns-in_err-validate_field_definition-clause-checks
returns-in_err-validate_field_definition-clause-checks c =
    checks-err _ _ _ _ _ c.from_residual.ensures.0
    (kept_wider (names_untyped c.args.schema.now c.args.field.now) c.in_err-validate_field_definition.ensures.checks)

pub returns-clause-checks : goal.returns-clause-checks
returns-clause-checks c =
    typed_field_checked c.args.schema.now c.args.field.now c.validate_output_type.result _ _ _
    c.in_ok-validate_field_definition.ensures.checks c.validate_output_type.ensures.checks

-- the arguments come first, and then the field itself
pub returns-clause-records : goal.returns-clause-records
returns-clause-records c =
    let d = c.args.field.now.value.value in
    holds_on_ok c.validate_output_type.result _
    (records_turned (argument_types d.arguments.items) (inner_named_type d.ty ∷ [])
    (records_then c.in_ok-validate_field_definition.ensures.records c.validate_output_type.ensures.records))

pub returns-clause-keeps : goal.returns-clause-keeps
returns-clause-keeps c = keeps_then c.in_ok-validate_field_definition.ensures.keeps (keeps_by c.validate_output_type.ensures.records)
