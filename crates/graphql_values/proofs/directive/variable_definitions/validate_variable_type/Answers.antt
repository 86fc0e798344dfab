use Rattle.std.proofs.Common.{◌≡◌, Some, ap}
use Rattle.std.specs.Option.{option_copied}
use Rattle.graphql_diagnostics.proofs.ReportLemmas.{checks_words, holds}
use Rattle.graphql_values.proofs.VariableLemmas.{type_parts, type_without_schema}
use Rattle.graphql_values.proofs.directive.variable_definitions.validate_variable_type.Goals as goal

pub returns-in-Some : goal.returns-in-Some
returns-in-Some c = λ variables among.
    let has_schema : option_copied c.args.schema ≡ Some c.in-Some.schema.now = ap option_copied c.in-Some.is in
    rw has_schema
    (checks_words c.validate_type_against.result _ _ _ _ _ _ (type_parts c.in-Some.schema.now c.args.variable.now) (λ e q. q)
    (c.validate_type_against.ensures variables among))

pub returns-in-None : goal.returns-in-None
returns-in-None c = λ variables among.
    holds _ _ _ (type_without_schema (option_copied c.args.schema) c.args.variable.now (ap option_copied c.in-None.is))
