use Rattle.std.proofs.Common.{inl}
use Rattle.graphql_diagnostics.specs.Diagnostics.{IsLimitEntry}
use Rattle.graphql_diagnostics.proofs.ReportWithinLemmas.{checks_within}
use Rattle.graphql_field_definitions.proofs.BuiltInScalarLemmas.{keeps_itself, records_none}
use Rattle.graphql_schemas.proofs.TypeLemmas.{on_ok_known}
use Rattle.graphql_schemas.proofs.types.validate_by_kind.Goals as goal

pub returns-in-Scalar-clause-checks : goal.returns-in-Scalar-clause-checks
returns-in-Scalar-clause-checks c =
    rw c.in-Scalar.is (checks_within IsLimitEntry c.validate_scalar_definition.result _ _ _ _ _ (λ e said. inl said) c.validate_scalar_definition.ensures)

pub returns-in-Scalar-clause-records : goal.returns-in-Scalar-clause-records
returns-in-Scalar-clause-records c = rw c.in-Scalar.is (on_ok_known c.validate_scalar_definition.result (records_none c.args.built_in_scalars.now))

pub returns-in-Scalar-clause-keeps : goal.returns-in-Scalar-clause-keeps
returns-in-Scalar-clause-keeps c = keeps_itself c.args.built_in_scalars.now

pub returns-in-Object-clause-checks : goal.returns-in-Object-clause-checks
returns-in-Object-clause-checks c =
    rw c.in-Object.is (checks_within IsLimitEntry c.validate_object_type_definition.result _ _ _ _ _ (λ e said. inl said) c.validate_object_type_definition.ensures.checks)

pub returns-in-Object-clause-records : goal.returns-in-Object-clause-records
returns-in-Object-clause-records c = rw c.in-Object.is c.validate_object_type_definition.ensures.records

pub returns-in-Interface-clause-checks : goal.returns-in-Interface-clause-checks
returns-in-Interface-clause-checks c =
    rw c.in-Interface.is (checks_within IsLimitEntry c.validate_interface_definition.result _ _ _ _ _ (λ e said. inl said) c.validate_interface_definition.ensures.checks)

pub returns-in-Interface-clause-records : goal.returns-in-Interface-clause-records
returns-in-Interface-clause-records c = rw c.in-Interface.is c.validate_interface_definition.ensures.records

pub returns-in-Union-clause-checks : goal.returns-in-Union-clause-checks
returns-in-Union-clause-checks c =
    rw c.in-Union.is (checks_within IsLimitEntry c.validate_union_definition.result _ _ _ _ _ (λ e said. inl said) c.validate_union_definition.ensures)

pub returns-in-Union-clause-records : goal.returns-in-Union-clause-records
returns-in-Union-clause-records c = rw c.in-Union.is (on_ok_known c.validate_union_definition.result (records_none c.args.built_in_scalars.now))

pub returns-in-Union-clause-keeps : goal.returns-in-Union-clause-keeps
returns-in-Union-clause-keeps c = keeps_itself c.args.built_in_scalars.now

pub returns-in-Enum-clause-checks : goal.returns-in-Enum-clause-checks
returns-in-Enum-clause-checks c =
    rw c.in-Enum.is (checks_within IsLimitEntry c.validate_enum_definition.result _ _ _ _ _ (λ e said. inl said) c.validate_enum_definition.ensures)

pub returns-in-Enum-clause-records : goal.returns-in-Enum-clause-records
returns-in-Enum-clause-records c = rw c.in-Enum.is (on_ok_known c.validate_enum_definition.result (records_none c.args.built_in_scalars.now))

pub returns-in-Enum-clause-keeps : goal.returns-in-Enum-clause-keeps
returns-in-Enum-clause-keeps c = keeps_itself c.args.built_in_scalars.now

pub returns-in-InputObject-clause-checks : goal.returns-in-InputObject-clause-checks
returns-in-InputObject-clause-checks c = rw c.in-InputObject.is c.validate_input_object_by_levels.ensures.checks

pub returns-in-InputObject-clause-records : goal.returns-in-InputObject-clause-records
returns-in-InputObject-clause-records c = rw c.in-InputObject.is c.validate_input_object_by_levels.ensures.records
