-- Answers that report no limit.
use Rattle.std.specs.Prelude.{All}
use Rattle.graphql_diagnostics.specs.Diagnostics.{IsLimitEntry, entries}
use Rattle.graphql_frontend.specs.declared.reports.Reports.{Reports}
use Rattle.graphql_frontend.specs.declared.reports.Reports.TheVariants.{DocumentRules, FirstBuilding, FirstDocumentRules, FirstSchemaRules, SchemaRules, Work}
use Rattle.graphql_frontend.specs.declared.schemas.SchemaReading.{SchemaReading}
use Rattle.graphql_frontend.specs.declared.schemas.SchemaReading.TheVariants.{Rejected}
use Rattle.graphql_frontend.specs.declared.verdicts.Verdict.{Verdict}
use Rattle.graphql_frontend.specs.declared.verdicts.Verdict.TheVariants.{DocumentRejected, SchemaRejected}

-- none of the diagnostics is of a limit, there is no more to report than is kept, and the work is within its bound
abbrev pub ReportsNoLimit : Reports → Type 0
ReportsNoLimit (SchemaRules reports) = All (λ e. ¬ IsLimitEntry e) (entries reports.rules)
ReportsNoLimit (DocumentRules reports) = All (λ e. ¬ IsLimitEntry e) (entries reports.rules)
ReportsNoLimit (FirstBuilding list) = ⊥
ReportsNoLimit (FirstSchemaRules list) = ⊥
ReportsNoLimit (FirstDocumentRules list) = ⊥
ReportsNoLimit (Work report) = ⊥
ReportsNoLimit _ = Unit {0}

-- what is reported of a schema is of no limit
abbrev pub ReadsWithoutLimit : SchemaReading → Type 0
ReadsWithoutLimit (Rejected reports) = ReportsNoLimit reports
ReadsWithoutLimit _ = Unit {0}

-- what a verdict reports is of no limit
abbrev pub HasNoLimit : Verdict → Type 0
HasNoLimit (SchemaRejected reports) = ReportsNoLimit reports
HasNoLimit (DocumentRejected reports) = ReportsNoLimit reports
HasNoLimit _ = Unit {0}
