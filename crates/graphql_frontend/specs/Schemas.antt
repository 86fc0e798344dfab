-- What texts come to as a schema. Specification: 3 Type System.
use Rattle.std.specs.Prelude.{◌≡◌, ◌≢◌, List, [], All, None, Option, Some, Vec}
use Rattle.std.specs.List.{AllZip}
use Rattle.std.specs.declared.alloc.Global.{Global}
use Rattle.graphql_diagnostics.specs.Diagnostics.{IsLimitEntry, entries}
use Rattle.graphql_diagnostics.specs.Reports.{Reports, ReportsWithin}
use Rattle.graphql_documents.specs.Built.{StandsUnderOwnNames}
use Rattle.graphql_documents.specs.declared.documents.schemas.Schema.{Schema}
use Rattle.graphql_parser.specs.declared.bounds.Bounds.{Bounds}
use Rattle.graphql_document_rules.specs.BuiltInScalars.{SchemaRetainsUsedBuiltInScalars}
use Rattle.graphql_document_rules.specs.DefaultValues.{DefaultValuesHold}
use Rattle.graphql_document_rules.specs.Schemas.{SchemaHolds}
use Rattle.graphql_schemas.specs.SchemaChecks.{SchemaEntryReport}
use Rattle.graphql_input_rules.specs.SchemaValues.{SchemaInputFieldReport, SchemaInputFieldsAreUnique}
use Rattle.graphql_trees.specs.declared.documents.Document.{Document}
use Rattle.graphql_building_laws.specs.MetaFieldTypes.{HasTypesOfMetaFields}
use Rattle.graphql_building_reports.specs.Checks.{reports_of}
use Rattle.graphql_building_reports.specs.declared.lists.BuildingReportList.{BuildingReportList}
use Rattle.graphql_document_checking.specs.Documents.{HasOutputFields}
use Rattle.graphql_schema_building.specs.SchemaSays.{SchemaSays}
use Rattle.graphql_schema_building.specs.SchemaBuilds.{SchemaBuilds}
use Rattle.graphql_schema_building.specs.SchemaReports.{SchemaBuildingReport}
use Rattle.graphql_frontend.specs.FirstReports.{AreFirst}
use Rattle.graphql_frontend.specs.Texts.{IsDocumentOf, ParsesTexts}
use Rattle.graphql_frontend.specs.declared.reports.Reports.{Reports as ReportsOfTexts}
use Rattle.graphql_frontend.specs.declared.reports.Reports.TheVariants.{Syntax, Building, FirstBuilding, SchemaRules, FirstSchemaRules}
use Rattle.graphql_frontend.specs.declared.reports.SchemaReports.{SchemaReports}
use Rattle.graphql_frontend.specs.declared.schemas.SchemaReading.{SchemaReading}
use Rattle.graphql_frontend.specs.declared.schemas.SchemaReading.TheVariants.{Accepted, Rejected, LacksIntrospection}
use Rattle.graphql_frontend.specs.declared.texts.SourceText.{SourceText}
use Rattle.graphql_frontend.specs.declared.texts.SyntaxReport.{SyntaxReport}

-- every rule of schemas holds of the first, and the second is the first with its used built-in scalars retained
pub record IsAccepted (schema retained : Schema) : Type 0 where
  pub holds : SchemaHolds schema
  pub input_fields : SchemaInputFieldsAreUnique schema
  pub retains : SchemaRetainsUsedBuiltInScalars schema retained
  pub defaults : DefaultValuesHold retained
  pub meta_fields : HasTypesOfMetaFields retained

-- the reports on the rules of a schema, if these are such
abbrev pub schema_rules : ReportsOfTexts → Option SchemaReports
schema_rules (SchemaRules reports) = Some reports
schema_rules _ = None

-- nothing is among the reports
abbrev pub ReportsNothingOfSchema : SchemaReports → Type 0
ReportsNothingOfSchema reports = (entries reports.rules ≡ []) × (reports.input_fields.items ≡ [])

-- each report is true of the schema; of input fields there is none exactly where they are unique, and of the other rules,
-- where no limit is passed, none exactly where they hold
pub record AreReportsOfSchema (schema retained : Schema) (reports : SchemaReports) : Type 0 where
  pub rules : ReportsWithin IsLimitEntry (SchemaHolds schema × DefaultValuesHold retained) (SchemaEntryReport schema) [] (entries reports.rules)
  pub input_fields : Reports (SchemaInputFieldsAreUnique schema) (SchemaInputFieldReport schema) [] reports.input_fields.items

-- what a schema that was built comes to
abbrev pub Judges : Bounds → Schema → SchemaReading → Type 0
Judges bounds schema (Accepted retained) = IsAccepted schema retained
Judges bounds schema (Rejected (FirstSchemaRules list)) = AreFirst bounds (SchemaEntryReport schema) (entries list)
Judges bounds schema (Rejected (SchemaRules reports)) =
    ¬ ReportsNothingOfSchema reports × (retained : Schema) × SchemaRetainsUsedBuiltInScalars schema retained ×
    AreReportsOfSchema schema retained reports
Judges bounds schema (Rejected _) = ⊥
Judges bounds schema LacksIntrospection = (retained : Schema) × SchemaRetainsUsedBuiltInScalars schema retained × ¬ HasTypesOfMetaFields retained

-- what documents come to as a schema
pub data JudgesTrees (bounds : Bounds) (trees : List Document) : SchemaReading → Type 0 where
  does_not_build : {list : BuildingReportList} → ¬ SchemaBuilds trees → reports_of list ≢ [] → All (SchemaBuildingReport trees) (reports_of list) →
      JudgesTrees bounds trees (Rejected (Building list))
  breaks_more : {list : BuildingReportList} → AreFirst bounds (SchemaBuildingReport trees) (reports_of list) → JudgesTrees bounds trees (Rejected (FirstBuilding list))
  is_built : {reading : SchemaReading} (schema : Schema) → SchemaBuilds trees → SchemaSays trees schema → Judges bounds schema reading →
      JudgesTrees bounds trees reading

-- what texts come to as a schema
pub data ReadsSchema (bounds : Bounds) (sources : List SourceText) : SchemaReading → Type 0 where
  not_all_are_documents : {errors : Vec SyntaxReport Global} (trees : List Document) → ParsesTexts bounds sources trees errors.items → errors.items ≢ [] →
      ReadsSchema bounds sources (Rejected (Syntax errors))
  are_documents : {reading : SchemaReading} (trees : List Document) → AllZip (IsDocumentOf bounds) sources trees → JudgesTrees bounds trees reading →
      ReadsSchema bounds sources reading

-- documents can be validated against the schema, if there is one: what `validate_document` asks of it
pub record IsUsable (schema : Schema) : Type 0 where
  pub names : StandsUnderOwnNames schema
  pub output_fields : HasOutputFields schema

abbrev pub AcceptsOnlyUsableSchemas : SchemaReading → Type 0
AcceptsOnlyUsableSchemas (Accepted schema) = IsUsable schema
AcceptsOnlyUsableSchemas _ = Unit {0}
