-- What validation reports of a document within bounds. Specification: 5 Validation.
use Rattle.std.specs.Prelude.{Option}
use Rattle.graphql_diagnostics.specs.Diagnostics.{entries}
use Rattle.graphql_documents.specs.declared.documents.executables.ExecutableDocument.{ExecutableDocument}
use Rattle.graphql_documents.specs.declared.documents.schemas.Schema.{Schema}
use Rattle.graphql_parser.specs.declared.bounds.Bounds.{Bounds}
use Rattle.graphql_frontend.specs.Documents.{AreRuleReports, IsDocumentEntry}
use Rattle.graphql_frontend.specs.FirstReports.{AreFirst}
use Rattle.graphql_frontend.specs.Work.{IsWorkReport}
use Rattle.graphql_frontend.specs.declared.document_rules.RuleReports.{RuleReports}
use Rattle.graphql_frontend.specs.declared.document_rules.RuleReports.TheVariants as reading

-- all reports of validation; or the first of more than the bounds keep; or that the fields of the document take more work to compare
abbrev pub ReadsRules : Bounds → Option Schema → ExecutableDocument → RuleReports → Type 0
ReadsRules bounds schema document (reading.All rules) = AreRuleReports schema document (entries rules)
ReadsRules bounds schema document (reading.First rules) = AreFirst bounds (IsDocumentEntry schema document) (entries rules)
ReadsRules bounds schema document (reading.Work report) = IsWorkReport bounds document report
