-- When a directive definition holds, and what a diagnostic says of one. Specification: 3.13 Directives.
use Rattle.std.specs.Prelude.{ℕ, List, Option, codes, Contains}
use Rattle.std.specs.Borrow.{Bor}
use Rattle.graphql_nodes.specs.Names.{IsFreeName, NameText}
use Rattle.graphql_specification.specs.DirectiveCycles.{DirectiveHasNoCycle, DirectiveCycleReport}
use Rattle.graphql_specification.specs.InputValueDefinitions.{ArgumentDefinitionsReport, IsReserved, ArgumentDefinitionsHold}
use Rattle.graphql_nodes.specs.declared.nodes.Node.{Node}
use Rattle.graphql_documents.specs.declared.documents.definitions.DirectiveDefinition.{DirectiveDefinition}
use Rattle.graphql_documents.specs.declared.documents.schemas.Schema.{Schema}
use Rattle.graphql_diagnostics.specs.declared.data.DiagnosticData.{DiagnosticData}
use Rattle.graphql_nodes.specs.declared.spans.SourceSpan.{SourceSpan}
use Rattle.graphql_nodes.specs.declared.directive_locations.DirectiveLocation.TheVariants as allowed_at
use Rattle.graphql_diagnostics.specs.declared.data.DiagnosticData.TheVariants as report

-- a directive definition holds. Specification: 3.13 Directives
pub record DirectiveDefinitionHolds (schema : Schema) (d : Node DirectiveDefinition) : Type 0 where
  pub name : IsFreeName d.value.value.name
  pub arguments : ArgumentDefinitionsHold schema allowed_at.ArgumentDefinition d.value.value.arguments.items
  pub no_cycle : DirectiveHasNoCycle schema d

-- the diagnostic names what is wrong with a directive definition
pub data DirectiveDefinitionReport (schema : Schema) (d : Node DirectiveDefinition) : DiagnosticData → Option SourceSpan → Type 0 where
  directive_definition_name : {describe : Bor (List ℕ)} {name : NameText} {at : Option SourceSpan} →
      IsReserved (codes "a directive definition") d.value.value.name describe.now name at →
      DirectiveDefinitionReport schema d (report.ReservedName name describe) at
  directive_definition_arguments : {r : DiagnosticData} {at : Option SourceSpan} →
      ArgumentDefinitionsReport schema allowed_at.ArgumentDefinition d.value.value.arguments.items r at → DirectiveDefinitionReport schema d r at
  directive_applies_itself : {r : DiagnosticData} {at : Option SourceSpan} →
      DirectiveCycleReport schema d r at → DirectiveDefinitionReport schema d r at

-- the diagnostic names what is wrong with one of the directive definitions of a schema
abbrev pub DirectiveDefinitionsReport : Schema → DiagnosticData → Option SourceSpan → Type 0
DirectiveDefinitionsReport schema r at =
    (entry : NameText × Node DirectiveDefinition) × Contains schema.directive_definitions.entries entry × DirectiveDefinitionReport schema entry.1 r at
