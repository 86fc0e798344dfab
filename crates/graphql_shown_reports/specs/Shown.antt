-- Reports as they are shown: one for one, and in order.
use Rattle.std.specs.Prelude.{◌≡◌, ◌==◌, ◌-◌, ◌^◌, ℕ, Bool, true, false, List, [], ◌∷◌, ◌++◌, Option, None, Some, codes, decimal, map, min, string_bytes, if◌then◌else◌}
use Rattle.std.specs.List.{AllZip}
use Rattle.std.specs.Str.{bytes_eq}
use Rattle.graphql_building_reports.specs.Checks.{reports_of}
use Rattle.graphql_building_reports.specs.Messages.{building_message}
use Rattle.graphql_building_reports.specs.declared.lists.BuildingReport.{BuildingReport}
use Rattle.graphql_building_reports.specs.declared.rules.BuildingRule.{BuildingRule}
use Rattle.graphql_building_reports.specs.declared.rules.BuildingRule.TheVariants as rule
use Rattle.graphql_diagnostics.specs.Diagnostics.{entries}
use Rattle.graphql_diagnostics.specs.Messages.{message}
use Rattle.graphql_diagnostics.specs.declared.build_errors.BuildError.{BuildError}
use Rattle.graphql_diagnostics.specs.declared.build_errors.BuildError.TheVariants as error
use Rattle.graphql_diagnostics.specs.declared.data.DiagnosticData.{DiagnosticData}
use Rattle.graphql_diagnostics.specs.declared.data.DiagnosticData.TheVariants as diagnostic
use Rattle.graphql_diagnostics.specs.declared.details.Details.{Details}
use Rattle.graphql_diagnostics.specs.declared.details.Details.TheVariants.{Diagnostic, Build, RecursionLimit}
use Rattle.graphql_diagnostics.specs.declared.lists.DiagnosticEntry.{DiagnosticEntry}
use Rattle.graphql_diagnostics.specs.BuildErrorMessages.{build_error_message}
use Rattle.graphql_shown_reports.specs.RuleNames.{building_name, details_name}
use Rattle.graphql_shown_reports.specs.ShownTexts.{IsShownText}
use Rattle.graphql_frontend.specs.declared.reports.Reports.{Reports}
use Rattle.graphql_frontend.specs.declared.reports.Reports.TheVariants as reports
use Rattle.graphql_shown_reports.specs.declared.shown.ShownReport.{ShownReport}
use Rattle.graphql_frontend.specs.declared.texts.SourceText.{SourceText}
use Rattle.graphql_frontend.specs.declared.texts.SyntaxReport.{SyntaxReport}
use Rattle.graphql_frontend.specs.declared.work.WorkReport.{WorkReport}
use Rattle.graphql_frontend.specs.Work.{work_message}
use Rattle.graphql_input_rules.specs.InputFields.{repetition_message}
use Rattle.graphql_input_rules.specs.declared.reports.InputFieldRepetition.{InputFieldRepetition}
use Rattle.graphql_nesting.specs.Messages.{nesting_message}
use Rattle.graphql_nesting.specs.declared.reports.NestingReport.{NestingReport}
use Rattle.graphql_nodes.specs.declared.spans.FileId.{FileId}
use Rattle.graphql_nodes.specs.declared.spans.SourceSpan.{SourceSpan}
use Rattle.graphql_parser.specs.Refusals.{error_at}
use Rattle.graphql_parser.specs.declared.bounds.Bounds.{Bounds}
use Rattle.graphql_parser.specs.declared.errors.SyntaxError.{SyntaxError}
use Rattle.graphql_parser.specs.declared.errors.SyntaxError.TheVariants as syntax_error
use Rattle.graphql_reach.specs.Messages.{reach_message}
use Rattle.graphql_reach.specs.declared.reports.ReachReport.{ReachReport}
use Rattle.graphql_specification.specs.Fragments.{fragment_depth_limit}
use Rattle.graphql_specification.specs.InputObjectCycles.{input_object_depth_limit}
use Rattle.graphql_syntax_messages.specs.SyntaxMessages.{IsMessageOf, message_text}
use Rattle.graphql_syntax_messages.specs.declared.messages.SyntaxMessage.{SyntaxMessage}
use Rattle.graphql_usage_rules.specs.VariableMisuses.{misuse_message}
use Rattle.graphql_usage_rules.specs.declared.reports.VariableMisuse.{VariableMisuse}

-- a single report
pub data Report : Type 0 where
  syntax : SyntaxReport → Report
  building : BuildingReport → Report
  nesting : NestingReport → Report
  reach : ReachReport → Report
  work : WorkReport → Report
  validation : DiagnosticEntry → Report
  input_field : InputFieldRepetition → Report
  usage : VariableMisuse → Report
  more : Report

-- once, if it is so
abbrev pub once_if : Bool → List (Unit {0})
once_if true = tt ∷ []
once_if false = []

-- the single reports, in order: of a schema or a document the rules of validation come first; of a document, undefined variables come next; then
-- input fields; and last usages of variables. If there are more than are kept, the last report says so
abbrev pub listed : Reports → List Report
listed (reports.Syntax errors) = map syntax errors.items
listed (reports.Building list) = map building (reports_of list)
listed (reports.FirstBuilding list) = map building (reports_of list) ++ (more ∷ [])
listed (reports.Nesting report) = nesting report ∷ []
listed (reports.Reach report) = reach report ∷ []
listed (reports.Work report) = work report ∷ []
listed (reports.FirstSchemaRules list) = map validation (entries list) ++ (more ∷ [])
listed (reports.FirstDocumentRules list) = map validation (entries list) ++ (more ∷ [])
listed (reports.SchemaRules found) =
    map validation (entries found.rules) ++ (map input_field found.input_fields.items ++ map (λ _. more) (once_if found.has_more))
listed (reports.DocumentRules found) =
    map validation (entries found.rules) ++
    (map validation found.undefined_variables.items ++
    (map input_field found.input_fields.items ++ (map usage found.usages.items ++ map (λ _. more) (once_if found.has_more))))

-- the place, the name of the rule and the other place are these, and the message is this, cut if it is long
pub record IsShownAs (location : Option SourceSpan) (rule text : List ℕ) (original : Option SourceSpan) (shown : ShownReport) : Type 0 where
  pub location_is : shown.location ≡ location
  pub rule_is : shown.rule.now ≡ rule
  pub message_is : IsShownText text (string_bytes shown.message)
  pub original_is : shown.original ≡ original

-- the text of a file: the first of these that is of it
abbrev pub text_of : List SourceText → FileId → List ℕ
text_of [] file_id = []
text_of (source ∷ sources) file_id = if source.file_id.0 == file_id.0 then source.text.now else text_of sources file_id

-- a byte as places have it, which have 32 bits
abbrev pub narrow : ℕ → ℕ
narrow at = min at (2 ^ 32 - 1)

-- where the token ends that an error names; of another error, the byte at which it is
abbrev pub error_end : List ℕ → SyntaxError → ℕ
error_end text (syntax_error.Unexpected (Some token) expected) = token.end
error_end text (syntax_error.TooDeep token) = token.end
error_end text other = narrow (error_at text other)

-- the place of an error in its text
abbrev pub error_span : FileId → List ℕ → SyntaxError → SourceSpan
error_span file_id text e = record { file_id = file_id; start = narrow (error_at text e); end = error_end text e }

-- a text that is no document, by the message of its error
abbrev pub ShowsError : Bounds → FileId → List ℕ → SyntaxError → ShownReport → Type 0
ShowsError bounds file_id text e shown =
    (m : SyntaxMessage) × IsMessageOf bounds text e m × IsShownAs (Some (error_span file_id text e)) (codes "Syntax") (message_text m) None shown

abbrev pub ShowsSyntax : List SourceText → Bounds → SyntaxReport → ShownReport → Type 0
ShowsSyntax sources bounds report shown = ShowsError bounds report.file_id (text_of sources report.file_id) report.error shown

-- where the first of a repetition is that keeps a schema or a document from being built
abbrev pub building_original : BuildingRule → Option SourceSpan
building_original (rule.OperationNameCollision name original) = original
building_original (rule.FragmentNameCollision name original) = original
building_original (rule.SchemaDefinitionCollision original) = original
building_original (rule.DuplicateRootOperation operation original) = original
building_original (rule.TypeDefinitionCollision name original) = original
building_original (rule.DirectiveDefinitionCollision name original) = original
building_original (rule.TypeExtensionKindMismatch name extension definition original) = original
building_original (rule.ImplementedNonInterface name definition original) = original
building_original (rule.MemberNameCollision kind type_name name original) = original
building_original (rule.DuplicateImplementsInterface kind type_name name original) = original
building_original _ = None

abbrev pub ShowsBuilding : BuildingReport → ShownReport → Type 0
ShowsBuilding report shown = IsShownAs report.location (building_name report.rule) (building_message report.rule) (building_original report.rule) shown

abbrev pub ShowsNesting : NestingReport → ShownReport → Type 0
ShowsNesting report shown = IsShownAs report.location (codes "NestsTooDeep") (nesting_message report) None shown

abbrev pub ShowsReach : ReachReport → ShownReport → Type 0
ShowsReach report shown = IsShownAs report.location (codes "ReachesTooMuch") (reach_message report) None shown

abbrev pub ShowsWork : WorkReport → ShownReport → Type 0
ShowsWork report shown = IsShownAs report.location (codes "TakesTooMuch") (work_message report) None shown

-- how many names of this kind a path may have on which a cycle is searched: input objects and directives have one limit
abbrev pub path_limit : List ℕ → ℕ
path_limit describe = if bytes_eq describe (codes "fragment") then fragment_depth_limit else input_object_depth_limit

-- the message of a rule of validation. Of a limit it says that no rule is broken, and the number of one on names
abbrev pub validation_message : DiagnosticData → List ℕ
validation_message (diagnostic.DeeplyNestedType name describe) =
    message (diagnostic.DeeplyNestedType name describe) ++ (codes ": the limit of " ++ (decimal (path_limit describe.now) ++ codes " is passed, and no rule is broken"))
validation_message diagnostic.RecursionError = codes "too much recursion: a limit is passed, and no rule is broken"
validation_message broken = message broken

-- the message of what a diagnostic is about
abbrev pub details_message : Details → List ℕ
details_message (Diagnostic broken) = validation_message broken
details_message (Build e) = build_error_message e
details_message (RecursionLimit limit) = codes "too much recursion: a limit is passed, and no rule is broken"

-- where the first of a repetition is
abbrev pub diagnostic_original : DiagnosticData → Option SourceSpan
diagnostic_original (diagnostic.UniqueVariable name original redefined) = original
diagnostic_original (diagnostic.UniqueArgument name original redefined) = original
diagnostic_original (diagnostic.UniqueDirective name original) = original
diagnostic_original _ = None

-- where the first of a repetition is, or the other of two fields in conflict
abbrev pub build_error_original : BuildError → Option SourceSpan
build_error_original (error.DuplicateDeferLabel label original) = original
build_error_original (error.ConflictingFieldName alias original original_selection conflicting conflicting_selection) = original
build_error_original (error.ConflictingFieldArgument alias original coordinate value conflicting conflicting_coordinate conflicting_value) = original
build_error_original (error.ConflictingFieldType alias original coordinate ty conflicting conflicting_coordinate conflicting_type) = original
build_error_original _ = None

abbrev pub details_original : Details → Option SourceSpan
details_original (Diagnostic broken) = diagnostic_original broken
details_original (Build e) = build_error_original e
details_original (RecursionLimit limit) = None

abbrev pub ShowsEntry : DiagnosticEntry → ShownReport → Type 0
ShowsEntry entry shown = IsShownAs entry.location (details_name entry.details) (details_message entry.details) (details_original entry.details) shown

abbrev pub ShowsRepetition : InputFieldRepetition → ShownReport → Type 0
ShowsRepetition repetition shown = IsShownAs repetition.location (codes "UniqueInputField") (repetition_message repetition.name) repetition.original shown

abbrev pub ShowsMisuse : VariableMisuse → ShownReport → Type 0
ShowsMisuse misuse shown =
    IsShownAs misuse.location (codes "DisallowedVariableUsage") (misuse_message misuse.name misuse.variable_type.value.value misuse.location_type) misuse.definition_location shown

-- that there are more reports than are kept
abbrev pub ShowsThatMore : Unit {0} → ShownReport → Type 0
ShowsThatMore _ shown = IsShownAs None (codes "MoreReports") (codes "there are more reports than are kept") None shown

-- a report of these texts, as it is shown
abbrev pub Shows : List SourceText → Bounds → Report → ShownReport → Type 0
Shows sources bounds (syntax report) shown = ShowsSyntax sources bounds report shown
Shows sources bounds (building report) shown = ShowsBuilding report shown
Shows sources bounds (nesting report) shown = ShowsNesting report shown
Shows sources bounds (reach report) shown = ShowsReach report shown
Shows sources bounds (work report) shown = ShowsWork report shown
Shows sources bounds (validation entry) shown = ShowsEntry entry shown
Shows sources bounds (input_field repetition) shown = ShowsRepetition repetition shown
Shows sources bounds (usage misuse) shown = ShowsMisuse misuse shown
Shows sources bounds more shown = ShowsThatMore tt shown

-- behind what was shown, each of these is shown, in order
abbrev pub ShowsMore : {X : Type 0} → (X → ShownReport → Type 0) → List X → List ShownReport → List ShownReport → Type 0
ShowsMore ShowsOne reports old new = (more : List ShownReport) × (new ≡ old ++ more) × AllZip ShowsOne reports more
