-- What helps with reports. Specification: 2 Language, 5 Validation.
use Rattle.std.specs.Prelude.{ℕ, List, Option, None, Some}
use Rattle.graphql_building_reports.specs.declared.lists.BuildingReport.{BuildingReport}
use Rattle.graphql_diagnostics.specs.declared.lists.DiagnosticEntry.{DiagnosticEntry}
use Rattle.graphql_documents.specs.declared.documents.schemas.Schema.{Schema}
use Rattle.graphql_findings.specs.declared.helps.FindingHelp.{FindingHelp}
use Rattle.graphql_findings.specs.declared.helps.FindingHelp.TheVariants as by
use Rattle.graphql_shown_reports.specs.SourceText.{SourceText}
use Rattle.graphql_shown_reports.specs.SyntaxReport.{SyntaxReport}
use Rattle.graphql_helps.specs.HelpWords.{help_words}
use Rattle.graphql_helps.specs.Helps.{HelpsWithBuilding, HelpsWithDetails}
use Rattle.graphql_shown_reports.specs.Shown.{Report, building, syntax, text_of, validation}
use Rattle.graphql_syntax_helps.specs.HelpWords.{syntax_help_words}
use Rattle.graphql_syntax_helps.specs.SyntaxHelps.{HelpsWithSyntax}

-- by the text of its file
abbrev pub IsSyntaxHelp : List SourceText → SyntaxReport → FindingHelp → Type 0
IsSyntaxHelp sources report (by.Syntax h) = HelpsWithSyntax (text_of sources report.file_id) report.error h
IsSyntaxHelp sources report other = ⊥

-- by the schema against which the document was validated
abbrev pub IsBuildingHelp : Schema → BuildingReport → FindingHelp → Type 0
IsBuildingHelp schema report (by.Schema h) = HelpsWithBuilding schema report.rule h
IsBuildingHelp schema report other = ⊥

abbrev pub IsRuleHelp : Schema → DiagnosticEntry → FindingHelp → Type 0
IsRuleHelp schema entry (by.Schema h) = HelpsWithDetails schema entry.details h
IsRuleHelp schema entry other = ⊥

abbrev pub IsSchemaHelp : Report → Schema → FindingHelp → Type 0
IsSchemaHelp (building report) schema h = IsBuildingHelp schema report h
IsSchemaHelp (validation entry) schema h = IsRuleHelp schema entry h
IsSchemaHelp other schema h = ⊥

-- what helps with a report: with a syntax error, and with rules of building and of validation if there is a schema
abbrev pub HelpsWith : Report → Option Schema → List SourceText → FindingHelp → Type 0
HelpsWith (syntax report) schema sources h = IsSyntaxHelp sources report h
HelpsWith report None sources h = ⊥
HelpsWith report (Some schema) sources h = IsSchemaHelp report schema h

-- help in words
abbrev pub help_text : FindingHelp → List ℕ
help_text (by.Schema h) = help_words h
help_text (by.Syntax h) = syntax_help_words h
