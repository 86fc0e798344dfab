-- What is left of texts without what cannot be built, and reports that are true of it. Specification: 2.2 Document; 5 Validation
use Rattle.std.specs.Prelude.{◌≡◌, ◌∷◌, ◌++◌, ◌⊎◌, All, Contains, List, [], None, Option, Some, String, filter, flat_map, ℕ}
use Rattle.std.specs.List.{AllZip}
use Rattle.std.specs.String.{string_bytes}
use Rattle.std.specs.declared.alloc.Global.{Global}
use Rattle.graphql_documents.specs.declared.documents.schemas.Schema.{Schema}
use Rattle.graphql_frontend.specs.Documents.{ValidatesDocument}
use Rattle.graphql_frontend.specs.declared.reports.DocumentReports.{DocumentReports}
use Rattle.graphql_frontend.specs.declared.reports.Reports.TheVariants.{DocumentRules}
use Rattle.graphql_frontend.specs.declared.reports.Reports.{Reports}
use Rattle.graphql_frontend.specs.declared.texts.SourceText.{SourceText}
use Rattle.graphql_kept_reports.specs.Cuts.{IsKeptOf}
use Rattle.graphql_kept_reports.specs.Kept.{Kept}
use Rattle.graphql_parser.specs.declared.bounds.Bounds.{Bounds}
use Rattle.graphql_project_checking.specs.Truth.{AreTrueOf, KnownFiles}
use Rattle.graphql_kept_projects.specs.declared.kept.Left.{Left}
use Rattle.graphql_kept_projects.specs.declared.kept.LeftText.{LeftText}
use Rattle.graphql_kept_reports.specs.DiagnosticList.{DiagnosticList}
use Rattle.graphql_kept_reports.specs.Diagnostics.{entries}
use Rattle.graphql_kept_reports.specs.Unreached.{is_known_of_fragment, spreading}
use Rattle.graphql_kept_reports.specs.declared.doubts.Doubts.{Doubts}
use Rattle.graphql_kept_reports.specs.FileId.{FileId}

-- what is left of a text in which some parts are blank, or `__typename`: after one step or several
pub data IsLeftOf (text : List ℕ) : List ℕ → Type 0 where
  all_is_left : IsLeftOf text text
  some_is_left : {left rest : List ℕ} (kept : Kept) → IsLeftOf text left → IsKeptOf left kept → rest ≡ string_bytes kept.text → IsLeftOf text rest

-- the second text is left of the first, and has its number
abbrev pub IsSourceLeft : SourceText → SourceText → Type 0
IsSourceLeft whole left = (left.file_id ≡ whole.file_id) × IsLeftOf whole.text.now left.text.now

pub record IsTextLeft (whole : SourceText) (left : LeftText) : Type 0 where
  pub same_file : left.file_id ≡ whole.file_id
  pub is_left : IsLeftOf whole.text.now (string_bytes left.text)

-- this is left of these texts, one by one
abbrev pub IsLeft : List SourceText → Left → Type 0
IsLeft read left = AllZip IsTextLeft read left.texts.items

-- the second is left of the first, text by text
abbrev pub IsLess : LeftText → LeftText → Type 0
IsLess left rest = (rest.file_id ≡ left.file_id) × IsLeftOf (string_bytes left.text) (string_bytes rest.text)

-- the text that is kept, or else the whole text
abbrev pub rest_text : String Global → Option Kept → String Global
rest_text text None = text
rest_text text (Some kept) = kept.text

-- the reports are true of what is left of these texts, of which some are judged, and the others lend fragments
pub record AreTrueOfLeft (bounds : Bounds) (schema : Schema) (read : List SourceText) (reports : Reports) : Type 0 where
  pub own : List SourceText
  pub lent : List SourceText
  pub left : AllZip IsSourceLeft read (own ++ lent)
  pub known : KnownFiles bounds schema own lent
  pub are : AreTrueOf bounds schema own lent known reports

-- the reports are these on rules of validation alone
pub record AreRules (rules : DiagnosticList) (reports : Reports) : Type 0 where
  pub some : DocumentReports
  pub are : reports ≡ DocumentRules some
  pub rules_are : entries some.rules ≡ entries rules
  pub no_undefined_variables : some.undefined_variables.items ≡ []
  pub no_input_fields : some.input_fields.items ≡ []
  pub no_usages : some.usages.items ≡ []

-- the reports are some of these, on rules of validation alone
pub record AreSomeOf (all : DocumentReports) (reports : Reports) : Type 0 where
  pub rules : DiagnosticList
  pub are : AreRules rules reports
  pub each : All (λ e. Contains (entries all.rules) e ⊎ Contains all.undefined_variables.items e) (entries rules)

-- the reports are some of those on one of these texts as a document without a schema
pub record AreTrueOfOne (bounds : Bounds) (read : List SourceText) (reports : Reports) : Type 0 where
  pub source : SourceText
  pub among : Contains read source
  pub all : DocumentReports
  pub validated : ValidatesDocument bounds None source (Some (DocumentRules all))
  pub are : AreSomeOf all reports

-- the reports are exactly those of these, on rules of validation, that are known to be true of fragments by themselves
pub record AreKnownOf (doubts : Doubts) (added : FileId) (all : DocumentReports) (reports : Reports) : Type 0 where
  pub rules : DiagnosticList
  pub are : AreRules rules reports
  pub known : entries rules ≡ filter (is_known_of_fragment doubts added) (entries all.rules)

-- the same of these reports, if they are on rules of documents
abbrev pub AreKnownOfList : Doubts → FileId → Reports → Reports → Type 0
AreKnownOfList doubts added (DocumentRules all) reports = AreKnownOf doubts added all reports
AreKnownOfList doubts added _ reports = ⊥

-- the same of one of these lists
abbrev pub AreKnownOfOne : Doubts → FileId → List Reports → Reports → Type 0
AreKnownOfOne doubts added lists reports = (all : Reports) × Contains lists all × AreKnownOfList doubts added all reports

-- the reports are known to be true of fragments, among those on what is left of these texts, and on operations of an added text that each spread one fragment alone
pub record AreTrueOfFragments (bounds : Bounds) (schema : Schema) (read : List SourceText) (reports : Reports) : Type 0 where
  pub names : List (List ℕ)
  pub added : SourceText
  pub text_is : added.text.now ≡ flat_map spreading names
  pub all : Reports
  pub are_true : AreTrueOfLeft bounds schema (added ∷ read) all
  pub doubts : Doubts
  pub are : AreKnownOfList doubts added.file_id all reports

-- the reports are true of what is left of these texts; or they are some of those on one of them as a document without a schema, or on fragments by themselves
pub data AreFurther (bounds : Bounds) (schema : Schema) (read : List SourceText) (reports : Reports) : Type 0 where
  of_left : AreTrueOfLeft bounds schema read reports → AreFurther bounds schema read reports
  of_one : AreTrueOfOne bounds read reports → AreFurther bounds schema read reports
  of_fragments : AreTrueOfFragments bounds schema read reports → AreFurther bounds schema read reports
