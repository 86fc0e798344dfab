use Rattle.graphql_diagnostics.specs.Diagnostics.{IsLimitEntry}
use Rattle.graphql_diagnostics.proofs.ReportLemmas.{kept_wider}
use Rattle.graphql_diagnostics.proofs.ReportWithinLemmas.{checks_refused_within}
use Rattle.graphql_field_definitions.proofs.BuiltInScalarLemmas.{keeps_itself}
use Rattle.graphql_schemas.proofs.NamedTypeLemmas.{names_key, type_checked}
use Rattle.graphql_schemas.proofs.types.validate_type_definition.Goals as goal

pub returns-in_err-validate_type_system_name-clause-checks : goal.returns-in_err-validate_type_system_name-clause-checks
returns-in_err-validate_type_system_name-clause-checks c =
    checks_refused_within IsLimitEntry _ _ _ _ _ c.from_residual.ensures.0
    (kept_wider (names_key c.args.levels.now.schema.now c.args.name.now c.args.definition.now)
    (rw c.describe.ensures at c.in_err-validate_type_system_name.ensures))

pub returns-in_err-validate_type_system_name-clause-keeps : goal.returns-in_err-validate_type_system_name-clause-keeps
returns-in_err-validate_type_system_name-clause-keeps c = keeps_itself c.args.built_in_scalars.now

pub returns-clause-checks : goal.returns-clause-checks
returns-clause-checks c =
    type_checked c.args.levels.now.schema.now c.args.name.now c.args.definition.now c.validate_by_kind.result _ _ _
    (rw c.describe.ensures at c.in_ok-validate_type_system_name.ensures) c.validate_by_kind.ensures.checks
