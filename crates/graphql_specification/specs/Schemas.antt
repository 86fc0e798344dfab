-- When a schema holds, and what a diagnostic says of one. Specification: 3 Type System.
use Rattle.std.specs.Prelude.{All, Option, Contains, ℕ, List}
use Rattle.std.specs.Borrow.{Bor}
use Rattle.graphql_nodes.specs.Names.{IsFreeName, NameText}
use Rattle.graphql_specification.specs.DefaultValues.{DefaultValuesReport}
use Rattle.graphql_specification.specs.BuiltInScalars.{SchemaRetainsUsedBuiltInScalars}
use Rattle.graphql_specification.specs.Types.{TypeHolds, TypesReport, TypesLimit}
use Rattle.graphql_specification.specs.DirectiveDefinitions.{DirectiveDefinitionHolds, DirectiveDefinitionReport}
use Rattle.graphql_specification.specs.SchemaDefinitions.{SchemaDefinitionHolds, SchemaDefinitionReport}
use Rattle.graphql_specification.specs.DirectiveCycles.{DirectiveNestsTooDeep}
use Rattle.graphql_documents.specs.declared.documents.schemas.Schema.{Schema}
use Rattle.graphql_diagnostics.specs.declared.data.DiagnosticData.{DiagnosticData}
use Rattle.graphql_documents.specs.declared.documents.definitions.DirectiveDefinition.{DirectiveDefinition}
use Rattle.graphql_nodes.specs.declared.nodes.Node.{Node}
use Rattle.graphql_nodes.specs.declared.spans.SourceSpan.{SourceSpan}
use Rattle.graphql_diagnostics.specs.declared.data.DiagnosticData.TheVariants as report

-- the schema holds, as it is handed in. Specification: 3 Type System
pub record SchemaHolds (schema : Schema) : Type 0 where
  pub definition : SchemaDefinitionHolds schema schema.schema_definition.value.value
  pub directives : All (λ entry. DirectiveDefinitionHolds schema entry.1) schema.directive_definitions.entries
  pub types : All (λ entry. IsFreeName entry.0 × TypeHolds schema entry.1) schema.types.entries

-- the diagnostic names a rule that the schema breaks, or a default value that is wrong once the used built-in scalars are retained
pub data SchemaReport (schema : Schema) : DiagnosticData → Option SourceSpan → Type 0 where
  of_schema_definition : {r : DiagnosticData} {at : Option SourceSpan} →
      SchemaDefinitionReport schema schema.schema_definition r at → SchemaReport schema r at
  of_directive_definition : {entry : NameText × Node DirectiveDefinition} {r : DiagnosticData} {at : Option SourceSpan} →
      Contains schema.directive_definitions.entries entry → DirectiveDefinitionReport schema entry.1 r at → SchemaReport schema r at
  of_types : {r : DiagnosticData} {at : Option SourceSpan} → TypesReport schema r at → SchemaReport schema r at
  of_default_value : {retained : Schema} {r : DiagnosticData} {at : Option SourceSpan} →
      SchemaRetainsUsedBuiltInScalars schema retained → DefaultValuesReport retained r at → SchemaReport schema r at

-- a diagnostic of a limit is true of a schema
pub data SchemaLimit (schema : Schema) : DiagnosticData → Option SourceSpan → Type 0 where
  directive_nests : {entry : NameText × Node DirectiveDefinition} {name : NameText} {describe : Bor (List ℕ)} {at : Option SourceSpan} →
      Contains schema.directive_definitions.entries entry → DirectiveNestsTooDeep schema entry.1 name describe.now at →
      SchemaLimit schema (report.DeeplyNestedType name describe) at
  type_nests : {r : DiagnosticData} {at : Option SourceSpan} → TypesLimit schema r at → SchemaLimit schema r at
