-- What the rules report of a schema within bounds. Specification: 3 Type System.
use Rattle.graphql_diagnostics.specs.Diagnostics.{entries}
use Rattle.graphql_documents.specs.declared.documents.schemas.Schema.{Schema}
use Rattle.graphql_parser.specs.declared.bounds.Bounds.{Bounds}
use Rattle.graphql_schemas.specs.SchemaChecks.{SchemaEntryReport}
use Rattle.graphql_document_rules.specs.BuiltInScalars.{SchemaRetainsUsedBuiltInScalars}
use Rattle.graphql_frontend.specs.FirstReports.{AreFirst}
use Rattle.graphql_frontend.specs.Schemas.{AreReportsOfSchema}
use Rattle.graphql_frontend.specs.declared.schema_rules.SchemaRuleReports.{SchemaRuleReports}
use Rattle.graphql_frontend.specs.declared.schema_rules.SchemaRuleReports.TheVariants as reading

-- all reports, and the second schema is the first with its used built-in scalars retained; or the first of more than the bounds keep
abbrev pub ReadsSchemaRules : Bounds → Schema → Schema → SchemaRuleReports → Type 0
ReadsSchemaRules bounds schema retained (reading.All reports) = SchemaRetainsUsedBuiltInScalars schema retained × AreReportsOfSchema schema retained reports
ReadsSchemaRules bounds schema retained (reading.First rules) = AreFirst bounds (SchemaEntryReport schema) (entries rules)
