use Rattle.std.proofs.Common.{refl}
use Rattle.std.specs.Prelude.{flat_map}
use Rattle.graphql_specification.specs.DefaultValues.{inputs_of_type}
use Rattle.graphql_diagnostics.proofs.ReportLemmas.{checks-err}
use Rattle.graphql_schemas.proofs.DefaultValueLemmas.{defaults_first_refused, defaults_then}
use Rattle.graphql_schemas.proofs.default_values.validate_default_values.Goals as goal

pub returns-in_err-validate_directives : goal.returns-in_err-validate_directives
returns-in_err-validate_directives c =
    let S = c.args.schema.now in
    checks-err _ _ _ _ _ c.from_residual.ensures.0
    (defaults_first_refused S (flat_map (λ entry. entry.1.value.value.arguments.items) S.directive_definitions.entries)
    (flat_map (λ entry. inputs_of_type entry.1) S.types.entries) _ _ refl c.in_err-validate_directives.ensures)

pub returns : goal.returns
returns c =
    let S = c.args.schema.now in
    defaults_then S c.validate_types.result (flat_map (λ entry. entry.1.value.value.arguments.items) S.directive_definitions.entries)
    (flat_map (λ entry. inputs_of_type entry.1) S.types.entries) _ _ _ refl c.in_ok-validate_directives.ensures c.validate_types.ensures
