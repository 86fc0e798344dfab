-- What a text comes to as an executable document, against a schema or without one. Specification: 5 Validation.
use Rattle.std.specs.Prelude.{◌≡◌, ◌≢◌, ◌↔◌, ◌*◌, ℕ, List, [], ◌∷◌, Option, None, Some, All, Contains, IsSome, Vec, flat_map, length, max, min, sum_by}
use Rattle.std.specs.List.{AllZip}
use Rattle.std.specs.declared.alloc.Global.{Global}
use Rattle.graphql_diagnostics.specs.Diagnostics.{IsLimitEntry, entries}
use Rattle.graphql_diagnostics.specs.Reports.{Reports as Reporting}
use Rattle.graphql_diagnostics.specs.declared.data.DiagnosticData.TheVariants as report
use Rattle.graphql_diagnostics.specs.declared.details.Details.TheVariants as details
use Rattle.graphql_diagnostics.specs.declared.lists.DiagnosticEntry.{DiagnosticEntry}
use Rattle.graphql_nodes.specs.Names.{NameText}
use Rattle.graphql_nodes.specs.declared.spans.SourceSpan.{SourceSpan}
use Rattle.graphql_documents.specs.Built.{IsBuilt}
use Rattle.graphql_documents.specs.declared.documents.executables.ExecutableDocument.{ExecutableDocument}
use Rattle.graphql_documents.specs.declared.documents.schemas.Schema.{Schema}
use Rattle.graphql_parser.specs.declared.bounds.Bounds.{Bounds}
use Rattle.graphql_document_rules.specs.DocumentRules.{DocumentRuleReport, DocumentRulesHold, DocumentRulesHoldBut}
use Rattle.graphql_document_rules.specs.Documents.{DocumentLimit}
use Rattle.graphql_document_rules.specs.RuleSets.{IsNeverOff, NamesRuleIn, RuleSet}
use Rattle.graphql_trees.specs.declared.documents.Document.{Document}
use Rattle.graphql_building_reports.specs.Checks.{reports_of}
use Rattle.graphql_building_reports.specs.declared.lists.BuildingReportList.{BuildingReportList}
use Rattle.graphql_document_checking.specs.BuildingRules.{DocumentBuilds}
use Rattle.graphql_document_checking.specs.Documents.{DocumentSays}
use Rattle.graphql_document_checking.specs.DocumentReports.{DocumentBuildingReport}
use Rattle.graphql_input_rules.specs.InputFields.{InputFieldReport, InputFieldsAreUnique}
use Rattle.graphql_nesting.specs.Nesting.{IsNestingReportOf, NestsWithin}
use Rattle.graphql_usage_rules.specs.Reach.{IsReachReportOf, ReachesWithin}
use Rattle.graphql_usage_rules.specs.ReachReport.{ReachReport}
use Rattle.graphql_usage_rules.specs.UndefinedVariables.{DocumentUndefinedReport, VariableUsesAreDefined}
use Rattle.graphql_usage_rules.specs.VariableMisuses.{DocumentMisuseReport, VariableUsagesAreAllowed}
use Rattle.graphql_usage_rules.specs.declared.reports.VariableMisuse.{VariableMisuse}
use Rattle.graphql_frontend.specs.FirstReports.{AreFirst}
use Rattle.graphql_frontend.specs.Texts.{IsDocumentOf, IsErrorOf, ParsesTexts}
use Rattle.graphql_frontend.specs.Work.{IsWorkReport}
use Rattle.graphql_frontend.specs.declared.reports.Reports.{Reports}
use Rattle.graphql_frontend.specs.declared.reports.Reports.TheVariants.{Syntax, Building, FirstBuilding, Nesting, Reach, Work, DocumentRules, FirstDocumentRules}
use Rattle.graphql_frontend.specs.declared.reports.DocumentReports.{DocumentReports}
use Rattle.graphql_frontend.specs.declared.texts.SourceText.{SourceText}
use Rattle.graphql_frontend.specs.declared.texts.SyntaxReport.{SyntaxReport}

-- a document that is validated against a schema was built against it
abbrev pub IsBuiltFor : Option Schema → ExecutableDocument → Type 0
IsBuiltFor (Some schema) document = IsBuilt schema document
IsBuiltFor None document = Unit {0}

-- the diagnostic names a rule that the document breaks; or it is of a limit that is passed
pub record IsDocumentEntry (schema : Option Schema) (document : ExecutableDocument) (e : DiagnosticEntry) : Type 0 where
  pub report : ¬ IsLimitEntry e → DocumentRuleReport schema document e.details e.location
  pub limit : IsLimitEntry e → DocumentLimit schema document e.details e.location

-- all usages of variables are allowed, as far as a schema tells: without one none is known not to be
abbrev pub UsagesAreAllowed : Option Schema → ExecutableDocument → Type 0
UsagesAreAllowed (Some schema) document = VariableUsagesAreAllowed schema document
UsagesAreAllowed None document = Unit {0}

-- every rule of documents holds that can be asked: those of validation; that each variable that an operation uses is defined, at any depth of a value;
-- that object values give each input field once; and that all usages of variables are allowed
pub record EveryRuleHolds (schema : Option Schema) (document : ExecutableDocument) : Type 0 where
  pub rules : DocumentRulesHold schema document
  pub variables : VariableUsesAreDefined document
  pub input_fields : InputFieldsAreUnique document
  pub usages : UsagesAreAllowed schema document

-- the same, except for rules that are off
pub record EveryRuleHoldsBut (off : RuleSet) (schema : Option Schema) (document : ExecutableDocument) : Type 0 where
  pub rules : DocumentRulesHoldBut off schema document
  pub variables : VariableUsesAreDefined document
  pub input_fields : InputFieldsAreUnique document
  pub usages : UsagesAreAllowed schema document

-- the reports on the rules of a document, if these are such
abbrev pub document_rules : Reports → Option DocumentReports
document_rules (DocumentRules reports) = Some reports
document_rules _ = None

-- nothing is among the reports
abbrev pub ReportsNothing : DocumentReports → Type 0
ReportsNothing reports =
    (entries reports.rules ≡ []) × (reports.undefined_variables.items ≡ []) × (reports.input_fields.items ≡ []) × (reports.usages.items ≡ [])

-- among the reports are only some of rules that are off
abbrev pub ReportsOnlyOff : RuleSet → DocumentReports → Type 0
ReportsOnlyOff off reports =
    All (λ e. NamesRuleIn off e.details) (entries reports.rules) × (reports.undefined_variables.items ≡ []) × (reports.input_fields.items ≡ []) ×
    (reports.usages.items ≡ [])

-- each report of the list is of a rule that is off
abbrev pub IsOnlyOff : RuleSet → Reports → Type 0
IsOnlyOff off (DocumentRules reports) = ReportsOnlyOff off reports
IsOnlyOff off _ = ⊥

-- the usage is not allowed, which only a schema tells
abbrev pub IsMisuseReport : Option Schema → ExecutableDocument → VariableMisuse → Type 0
IsMisuseReport (Some schema) document misuse = DocumentMisuseReport schema document misuse
IsMisuseReport None document misuse = ⊥

-- the second list is the first without the elements of which this holds
pub data Without {X : Type 0} (P : X → Type 0) : List X → List X → Type 0 where
  of_nothing : Without P [] []
  leaves_out : {x : X} {xs ys : List X} → P x → Without P xs ys → Without P (x ∷ xs) ys
  keeps : {x : X} {xs ys : List X} → ¬ P x → Without P xs ys → Without P (x ∷ xs) (x ∷ ys)

-- one of these diagnostics is of this place, and says of a variable that it is not defined
abbrev pub IsReportedUndefined : List DiagnosticEntry → Option SourceSpan → Type 0
IsReportedUndefined rules place =
    (e : DiagnosticEntry) × Contains rules e × IsSome place × (e.location ≡ place) × (name : NameText) × (e.details ≡ details.Diagnostic (report.UndefinedVariable name))

-- the places end at the same byte of one file
abbrev pub EndTogether : Option SourceSpan → Option SourceSpan → Type 0
EndTogether a b = (x : SourceSpan) × (y : SourceSpan) × (a ≡ Some x) × (b ≡ Some y) × (x.file_id ≡ y.file_id) × (x.end ≡ y.end)

-- the place of one of these diagnostics, of a rule that is never off, ends where this one does
abbrev pub EndsWithOne : List DiagnosticEntry → Option SourceSpan → Type 0
EndsWithOne rules place = (e : DiagnosticEntry) × Contains rules e × IsNeverOff e.details × EndTogether e.location place

-- each is a report of validation; if no limit is passed, there is none exactly if its rules hold; and if each is of a rule that is off, the others hold
pub record AreRuleReports (schema : Option Schema) (document : ExecutableDocument) (rules : List DiagnosticEntry) : Type 0 where
  pub each : All (IsDocumentEntry schema document) rules
  pub decides : IsBuiltFor schema document → All (λ e. ¬ IsLimitEntry e) rules → (rules ≡ []) ↔ DocumentRulesHold schema document
  pub others : IsBuiltFor schema document → (off : RuleSet) → All (λ e. NamesRuleIn off e.details) rules → DocumentRulesHoldBut off schema document

-- the reports of the variables that are used and not defined, which are none exactly if all are defined, without those that validation reports
pub record AreFurtherUndefined (document : ExecutableDocument) (rules further : List DiagnosticEntry) : Type 0 where
  pub all : List DiagnosticEntry
  pub all_are : Reporting (VariableUsesAreDefined document) (DocumentUndefinedReport document) [] all
  pub beside : Without (λ e. IsReportedUndefined rules e.location) all further

-- the reports of the usages that are not allowed, which are none exactly if all are allowed, without those that end where a report of validation does
-- whose rule is never off
pub record AreFurtherMisuses (schema : Option Schema) (document : ExecutableDocument) (rules : List DiagnosticEntry) (further : List VariableMisuse) : Type 0 where
  pub all : List VariableMisuse
  pub all_are : Reporting (UsagesAreAllowed schema document) (IsMisuseReport schema document) [] all
  pub beside : Without (λ u. EndsWithOne rules u.location) all further

-- each list decides its own rule; if no limit is passed, nothing is reported exactly if every rule holds; and if each report is of a rule that is off,
-- the others hold
pub record AreReportsOf (schema : Option Schema) (document : ExecutableDocument) (reports : DocumentReports) : Type 0 where
  pub rules : AreRuleReports schema document (entries reports.rules)
  pub undefined_variables : AreFurtherUndefined document (entries reports.rules) reports.undefined_variables.items
  pub input_fields : Reporting (InputFieldsAreUnique document) (InputFieldReport document) [] reports.input_fields.items
  pub usages : AreFurtherMisuses schema document (entries reports.rules) reports.usages.items
  pub decides : IsBuiltFor schema document → All (λ e. ¬ IsLimitEntry e) (entries reports.rules) → ReportsNothing reports ↔ EveryRuleHolds schema document
  pub others : IsBuiltFor schema document → (off : RuleSet) → ReportsOnlyOff off reports → EveryRuleHoldsBut off schema document

-- how many bytes of the texts of a document count: 65,536 at least
abbrev pub counted_bytes : ℕ → ℕ
counted_bytes bytes = max bytes 65536

-- how many bytes the operations of a document may reach that nests less than 100 levels: for each that counts the reach of the
-- bounds, as far as a number of 64 bits goes
abbrev pub most_reached : Bounds → ℕ → ℕ
most_reached bounds bytes = min (bounds.reach * counted_bytes bytes) 18446744073709551615

-- the operations of a document reach no more than the bytes of its texts, or than the bounds allow where it nests less than 100
-- levels: in a deeper one cycles are searched from each fragment through all others
pub data ReachesWithinBounds (bounds : Bounds) (bytes : ℕ) (document : ExecutableDocument) : Type 0 where
  reaches_its_bytes : ReachesWithin (counted_bytes bytes) document → ReachesWithinBounds bounds bytes document
  reaches_more : NestsWithin 99 document → ReachesWithin (most_reached bounds bytes) document → ReachesWithinBounds bounds bytes document

-- the report is of the operations of a document that reach more
pub data IsReachReport (bounds : Bounds) (bytes : ℕ) (document : ExecutableDocument) (report : ReachReport) : Type 0 where
  passes_its_bytes : ¬ NestsWithin 99 document → IsReachReportOf (counted_bytes bytes) document report → IsReachReport bounds bytes document report
  passes_the_bounds : NestsWithin 99 document → IsReachReportOf (most_reached bounds bytes) document report → IsReachReport bounds bytes document report

-- what a document that was built comes to: it nests deeper than the bound, or reaches more, or its fields take more work to compare, and it is not
-- validated further; or more rules are broken than the bounds keep; else nothing is reported only if every rule holds, and what is reported is true
abbrev pub JudgesDocument : Bounds → ℕ → Option Schema → ExecutableDocument → Option Reports → Type 0
JudgesDocument bounds bytes schema document None =
    NestsWithin bounds.depth document × ReachesWithinBounds bounds bytes document × (IsBuiltFor schema document → EveryRuleHolds schema document)
JudgesDocument bounds bytes schema document (Some (Nesting report)) = IsNestingReportOf bounds.depth document report
JudgesDocument bounds bytes schema document (Some (Reach report)) = NestsWithin bounds.depth document × IsReachReport bounds bytes document report
JudgesDocument bounds bytes schema document (Some (DocumentRules reports)) =
    NestsWithin bounds.depth document × ReachesWithinBounds bounds bytes document × ¬ ReportsNothing reports × AreReportsOf schema document reports
JudgesDocument bounds bytes schema document (Some (Work report)) =
    NestsWithin bounds.depth document × ReachesWithinBounds bounds bytes document × IsWorkReport bounds document report
JudgesDocument bounds bytes schema document (Some (FirstDocumentRules list)) =
    NestsWithin bounds.depth document × ReachesWithinBounds bounds bytes document × AreFirst bounds (IsDocumentEntry schema document) (entries list)
JudgesDocument bounds bytes schema document (Some _) = ⊥

-- what the tree of a document comes to of whose texts there are so many bytes
pub data JudgesTree (bounds : Bounds) (bytes : ℕ) (schema : Option Schema) (tree : Document) : Option Reports → Type 0 where
  does_not_build : {list : BuildingReportList} → ¬ DocumentBuilds schema tree → reports_of list ≢ [] → All (DocumentBuildingReport schema tree) (reports_of list) →
      JudgesTree bounds bytes schema tree (Some (Building list))
  breaks_more : {list : BuildingReportList} → AreFirst bounds (DocumentBuildingReport schema tree) (reports_of list) →
      JudgesTree bounds bytes schema tree (Some (FirstBuilding list))
  is_built : {reports : Option Reports} (document : ExecutableDocument) → DocumentBuilds schema tree → DocumentSays schema tree document →
      IsBuiltFor schema document → JudgesDocument bounds bytes schema document reports →
      JudgesTree bounds bytes schema tree reports

-- what a text comes to as a document
pub data ValidatesDocument (bounds : Bounds) (schema : Option Schema) (source : SourceText) : Option Reports → Type 0 where
  is_no_document : {errors : Vec SyntaxReport Global} (report : SyntaxReport) → IsErrorOf bounds source report → errors.items ≡ report ∷ [] →
      ValidatesDocument bounds schema source (Some (Syntax errors))
  is_document : {reports : Option Reports} (tree : Document) → IsDocumentOf bounds source tree →
      JudgesTree bounds (length source.text.now) schema tree reports → ValidatesDocument bounds schema source reports

-- the document has the definitions of these, in their order
abbrev pub HasDefinitionsOf : List Document → Document → Type 0
HasDefinitionsOf trees tree = tree.definitions ≡ flat_map (λ (t : Document). t.definitions) trees

-- how many bytes texts have together
abbrev pub bytes_of : List SourceText → ℕ
bytes_of sources = sum_by (λ (source : SourceText). length source.text.now) sources

-- what texts come to as one document
pub data ValidatesDocuments (bounds : Bounds) (schema : Option Schema) (sources : List SourceText) : Option Reports → Type 0 where
  are_not_all_documents : {errors : Vec SyntaxReport Global} (trees : List Document) → ParsesTexts bounds sources trees errors.items → errors.items ≢ [] →
      ValidatesDocuments bounds schema sources (Some (Syntax errors))
  are_documents : {reports : Option Reports} (trees : List Document) (tree : Document) → AllZip (IsDocumentOf bounds) sources trees →
      HasDefinitionsOf trees tree → JudgesTree bounds (bytes_of sources) schema tree reports → ValidatesDocuments bounds schema sources reports
