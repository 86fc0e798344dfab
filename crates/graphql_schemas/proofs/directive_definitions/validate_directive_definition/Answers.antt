-- The levels that are unknown are of the schema.
use Rattle.std.proofs.Common.{subst}
use Rattle.graphql_diagnostics.specs.Diagnostics.{IsDiagnostic}
use Rattle.graphql_diagnostics.specs.Reports.{ChecksWithin}
use Rattle.graphql_documents.specs.declared.documents.schemas.Schema.{Schema}
use Rattle.graphql_specification.specs.DirectiveCycles.{DirectiveLimit}
use Rattle.graphql_specification.specs.DirectiveDefinitions.{DirectiveDefinitionHolds, DirectiveDefinitionReport}
use Rattle.graphql_schemas.proofs.directive_definitions.validate_directive_definition.Goals as goal

pub returns-clause-checks : goal.returns-clause-checks
returns-clause-checks c =
    let d = c.args.definition.now in
    subst (λ (schema : Schema). ChecksWithin c.validate_definition_by_levels.result (DirectiveDefinitionHolds schema d)
    (IsDiagnostic (DirectiveDefinitionReport schema d)) (λ e. DirectiveLimit schema d e.details e.location)
    c.args.diagnostics.now c.validate_definition_by_levels.new.diagnostics) c.unknown-levels.ensures c.validate_definition_by_levels.ensures.checks
