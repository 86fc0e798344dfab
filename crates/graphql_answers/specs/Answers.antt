-- What is answered of bytes. Specification: 2.2 Document; 3 Type System; 5 Validation; 7.1.2 Errors.
use Rattle.std.specs.Prelude.{◌≡◌, IsUtf8, ℕ, List, [], ◌∷◌, ◌++◌, Bool, true, false, Contains, None, Option, Some, codes, map}
use Rattle.json.specs.Print.{print}
use Rattle.json.specs.Token.{Token}
use Rattle.graphql_documents.specs.declared.documents.schemas.Schema.{Schema}
use Rattle.graphql_parser.specs.declared.bounds.TheConstants as bounds
use Rattle.graphql_report_formats.specs.Findings.Findings.{AreShown, all_listed}
use Rattle.graphql_report_formats.specs.Findings.declared.findings.Findings.{Findings}
use Rattle.graphql_report_formats.specs.JsonReports.{error_without_place, errors_object, object_begin, object_end}
use Rattle.graphql_report_formats.specs.NamedTexts.{Text}
use Rattle.graphql_kept_projects.specs.Documents.{AreFurtherOf, AreWithFurther}
use Rattle.graphql_kept_projects.specs.Schemas.{AreFurtherOfSchema}
use Rattle.graphql_kept_projects.specs.Frontend.Documents.{ValidatesDocument}
use Rattle.graphql_kept_projects.specs.Frontend.Schemas.{ReadsSchema}
use Rattle.graphql_kept_projects.specs.Frontend.Texts.{AreTextsOf, IsTextOf}
use Rattle.graphql_kept_projects.specs.Frontend.Verdicts.{Validates}
use Rattle.graphql_kept_projects.specs.Frontend.declared.reports.Reports.{Reports}
use Rattle.graphql_kept_projects.specs.Frontend.declared.schemas.SchemaReading.{SchemaReading}
use Rattle.graphql_kept_projects.specs.Frontend.declared.schemas.SchemaReading.TheVariants.{Accepted, Rejected, LacksIntrospection}
use Rattle.graphql_kept_projects.specs.Frontend.declared.texts.SourceText.{SourceText}
use Rattle.graphql_kept_projects.specs.Frontend.declared.verdicts.Verdict.{Verdict}
use Rattle.graphql_kept_projects.specs.Frontend.declared.verdicts.Verdict.TheVariants as verdict
use Rattle.graphql_answers.specs.declared.answers.Found.{Found}
use Rattle.graphql_answers.specs.declared.answers.Found.TheVariants.{Nothing, InSchema, InDocuments}
use Rattle.graphql_answers.specs.declared.answers.Refusal.{Refusal}
use Rattle.graphql_answers.specs.declared.answers.Refusal.TheVariants.{OutOfMemory, NotUtf8}
use Rattle.graphql_answers.specs.declared.limits.Limits.{Limits}
use Rattle.graphql_answers.specs.declared.limits.TheConstants as constants

-- a text that is of no file
abbrev pub unnamed : SourceText → Text
unnamed source = record { path = None; file_id = source.file_id; text = source.text.now }

-- the path that reports give the definitions that every schema has
abbrev pub built_in_path : Option (List ℕ)
built_in_path = Some (codes "<built-in>")

-- the texts that reports of a schema are about
abbrev pub schema_texts : List SourceText → List Text
schema_texts (first ∷ own) = record { path = built_in_path; file_id = first.file_id; text = first.text.now } ∷ map unnamed own
schema_texts [] = []

-- the object of what is shown of these lists of reports on these texts, at most as many findings as an answer has; of this file, if they have no place.
-- If the reports are on a document, it was validated against this schema
pub record AreFirstErrorsOf (limits : Limits) (schema : Option Schema) (texts : List Text) (path : Option (List ℕ)) (sources : List SourceText) (lists : List Reports)
    (object : List Token) : Type 0 where
  pub found : Findings
  pub are_shown : AreShown schema sources limits.bounds (all_listed lists) limits.reports found
  pub object_is : object ≡ errors_object texts path found.shown.items

-- the object of lists of reports: of this one, and of further ones
pub record IsObjectWith (IsFurther : Reports → Type 0) (IsObject : List Reports → List Token → Type 0) (first : Reports) (object : List Token) : Type 0 where
  pub lists : List Reports
  pub are : AreWithFurther first IsFurther lists
  pub is_object : IsObject lists object

-- the object of all that is found in the texts of a schema that is rejected with these reports: these, and what is reported of what is left of the texts
abbrev pub IsObjectOfRejected : Limits → List Text → Option (List ℕ) → List SourceText → Reports → List Token → Type 0
IsObjectOfRejected limits texts path sources first = IsObjectWith (AreFurtherOfSchema limits.bounds sources first) (AreFirstErrorsOf limits None texts path sources) first

-- the object of all that is found in a document that is rejected with these reports: these, and what is reported of its parts and of what is left of it
abbrev pub IsObjectOfReported : Limits → Schema → SourceText → Reports → List Token → Type 0
IsObjectOfReported limits schema source =
    IsObjectWith (AreFurtherOf limits.bounds schema (source ∷ [])) (AreFirstErrorsOf limits (Some schema) (unnamed source ∷ []) None (source ∷ []))

-- the default bounds, and all reports that are kept: no memory holds more findings than are taken
abbrev pub default_limits : Limits
default_limits = constants.Limits.DEFAULT

-- the object that says that the definitions are missing which every schema has
abbrev pub error_of_lack : List Token
error_of_lack = object_begin ++
    (error_without_place (codes "LacksIntrospection") (codes "the definitions that every schema has are missing") built_in_path ++ object_end)

abbrev pub IsErrorOfLack : List Token → Type 0
IsErrorOfLack object = object ≡ error_of_lack

-- the object without reports
abbrev pub no_errors : List Token
no_errors = errors_object [] None []

-- where a verdict finds what it reports
abbrev pub found_by : Verdict → Found
found_by verdict.Valid = Nothing
found_by (verdict.SchemaRejected _) = InSchema
found_by verdict.LacksIntrospection = InSchema
found_by (verdict.DocumentRejected _) = InDocuments

-- the object of what is reported of a document, which was validated against the schema that these texts say
pub record IsObjectOfDocument (sources : List SourceText) (source : SourceText) (reports : Reports) (object : List Token) : Type 0 where
  pub schema : Schema
  pub reads : ReadsSchema bounds.Bounds.DEFAULT sources (Accepted schema)
  pub validates : ValidatesDocument bounds.Bounds.DEFAULT (Some schema) source (Some reports)
  pub is_object : IsObjectOfReported default_limits schema source reports object

-- the object of a verdict
abbrev pub IsObjectOf : List SourceText → SourceText → Verdict → List Token → Type 0
IsObjectOf sources source verdict.Valid object = object ≡ no_errors
IsObjectOf sources source (verdict.SchemaRejected reports) object = IsObjectOfRejected default_limits (schema_texts sources) None sources reports object
IsObjectOf sources source verdict.LacksIntrospection object = IsErrorOfLack object
IsObjectOf sources source (verdict.DocumentRejected reports) object = IsObjectOfDocument sources source reports object

-- what is found in the bytes of a schema and of a document, and its JSON: what the verdict on their texts says
pub data Finds (schema document : List ℕ) : Found → List ℕ → Type 0 where
  by_verdict : {verdict : Verdict} (object : List Token) (sources : List SourceText) (source : SourceText) → AreTextsOf schema sources → IsTextOf document source →
      Validates bounds.Bounds.DEFAULT sources source verdict → IsObjectOf sources source verdict object → Finds schema document (found_by verdict) (print object)

-- whether a reading finds something to report
abbrev pub found_by_reading : SchemaReading → Found
found_by_reading (Accepted _) = Nothing
found_by_reading (Rejected _) = InSchema
found_by_reading LacksIntrospection = InSchema

-- the object of a reading
abbrev pub IsObjectOfReading : List SourceText → SchemaReading → List Token → Type 0
IsObjectOfReading sources (Accepted _) object = object ≡ no_errors
IsObjectOfReading sources (Rejected reports) object = IsObjectOfRejected default_limits (schema_texts sources) None sources reports object
IsObjectOfReading sources LacksIntrospection object = IsErrorOfLack object

-- what is found in the bytes of a schema, and its JSON
pub data FindsInSchema (schema : List ℕ) : Found → List ℕ → Type 0 where
  by_reading : {reading : SchemaReading} (object : List Token) (sources : List SourceText) → AreTextsOf schema sources →
      ReadsSchema bounds.Bounds.DEFAULT sources reading → IsObjectOfReading sources reading object → FindsInSchema schema (found_by_reading reading) (print object)

-- whether something is reported of the text of these bytes, as a document, and the object of it
pub data ChecksWithin (limits : Limits) (schema : Schema) (document : List ℕ) : Bool → List Token → Type 0 where
  reports_nothing : (source : SourceText) → IsTextOf document source →
      ValidatesDocument limits.bounds (Some schema) source None → ChecksWithin limits schema document false no_errors
  reports_some : {reports : Reports} {object : List Token} (source : SourceText) → IsTextOf document source →
      ValidatesDocument limits.bounds (Some schema) source (Some reports) → IsObjectOfReported limits schema source reports object →
      ChecksWithin limits schema document true object

-- the same by the default limits
abbrev pub Checks : Schema → List ℕ → Bool → List Token → Type 0
Checks = ChecksWithin default_limits

-- why there is no answer
pub data IsRefusalOf (texts : List (List ℕ)) : Refusal → Type 0 where
  lacks_memory : IsRefusalOf texts OutOfMemory
  is_no_text : (text : List ℕ) → Contains texts text → ¬ IsUtf8 text → IsRefusalOf texts NotUtf8
