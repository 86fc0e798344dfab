-- What is shown of several lists of reports: each fault once, and in order.
use Rattle.std.specs.Prelude.{◌≡◌, ◌-◌, ℕ, IfSome, List, Option, ◌++◌, flat_map, length, map, take}
use Rattle.std.specs.List.{All, AllZip, Any, Contains}
use Rattle.std.specs.List.Sorted.{IsStrictlySortedBy}
use Rattle.std.specs.declared.cmp.Ordering.{Ordering}
use Rattle.graphql_documents.specs.declared.documents.schemas.Schema.{Schema}
use Rattle.graphql_findings.specs.Helps.{HelpsWith}
use Rattle.graphql_findings.specs.Notes.{AreNotesOf}
use Rattle.graphql_findings.specs.Order.{IsSameReport, report_cmp}
use Rattle.graphql_findings.specs.Singles.{report_of}
use Rattle.graphql_findings.specs.declared.findings.Finding.{Finding}
use Rattle.graphql_findings.specs.declared.findings.Findings.{Findings}
use Rattle.graphql_findings.specs.declared.order.Found.{Found}
use Rattle.graphql_findings.specs.declared.singles.Single.{Single}
use Rattle.graphql_shown_reports.specs.Reports.{Reports}
use Rattle.graphql_shown_reports.specs.SourceText.{SourceText}
use Rattle.graphql_parser.specs.declared.bounds.Bounds.{Bounds}
use Rattle.graphql_shown_reports.specs.Shown.{Report, Shows, listed}
use Rattle.graphql_shown_reports.specs.declared.shown.ShownReport.{ShownReport}

-- the single reports of several lists, in order
abbrev pub all_listed : List Reports → List Report
all_listed lists = flat_map listed lists

-- a report, and as it is shown
pub record Shown : Type 0 where
  pub report : Report
  pub shown : ShownReport

-- it is one of these reports, and shown as it is to be
pub record IsOneOf (sources : List SourceText) (bounds : Bounds) (reports : List Report) (s : Shown) : Type 0 where
  pub is_of : Contains reports s.report
  pub is_shown : Shows sources bounds s.report s.shown

-- a report is shown, or another that is the same
abbrev pub IsAmongShown : List SourceText → Bounds → List Shown → Report → Type 0
IsAmongShown sources bounds all report = (own : ShownReport) × Shows sources bounds report own × Any (λ (s : Shown). IsSameReport own s.shown) all

abbrev pub shown_cmp : Shown → Shown → Ordering
shown_cmp a b = report_cmp a.shown b.shown

-- a finding is a report as it is shown, with notes at the other places of the report; if it has help, that helps with the report
pub record IsFinding (schema : Option Schema) (sources : List SourceText) (bounds : Bounds) (s : Shown) (finding : Finding) : Type 0 where
  pub is_shown : finding.report ≡ s.shown
  pub has_notes : AreNotesOf sources bounds s.shown.location s.report finding.notes.items
  pub helps : IfSome finding.help (HelpsWith s.report schema sources)

-- Of these reports the distinct ones are found: each of them is one of the reports, and each report is one of them, or the same as one of them. They are
-- in order, so no two are the same. Of these the first ones are shown with their notes and help, at most so many, and the others are counted.
pub record AreShown (schema : Option Schema) (sources : List SourceText) (bounds : Bounds) (reports : List Report) (most : ℕ) (found : Findings) : Type 0 where
  pub all : List Shown
  pub each : All (IsOneOf sources bounds reports) all
  pub every : All (IsAmongShown sources bounds all) reports
  pub ordered : IsStrictlySortedBy shown_cmp all
  pub shown : AllZip (IsFinding schema sources bounds) (take most all) found.shown.items
  pub others : found.others ≡ length all - most

-- what was found shows a report
pub record IsFoundAs (sources : List SourceText) (bounds : Bounds) (report : Report) (found : Found) : Type 0 where
  pub is_of : report_of found.single ≡ report
  pub is_shown : Shows sources bounds report found.report

-- behind what was found is found what shows these reports, one for one and in order
abbrev pub Finds : List SourceText → Bounds → List Report → List Found → List Found → Type 0
Finds sources bounds reports old new = (more : List Found) × (new ≡ old ++ more) × AllZip (IsFoundAs sources bounds) reports more

-- behind what was found these are, of which the i-th shows the i-th single report
pub record IsJoined (shown : List ShownReport) (singles : List Single) (old new : List Found) : Type 0 where
  pub more : List Found
  pub grown : new ≡ old ++ more
  pub reports_are : map (λ (f : Found). f.report) more ≡ shown
  pub singles_are : map (λ (f : Found). f.single) more ≡ singles

-- a report that was found, as it is shown
abbrev pub shown_of : Found → Shown
shown_of found = record { report = report_of found.single; shown = found.report }

-- the finding of a report that was found
abbrev pub IsFindingOf : Option Schema → List SourceText → Bounds → Found → Finding → Type 0
IsFindingOf schema sources bounds found finding = IsFinding schema sources bounds (shown_of found) finding
