-- The other places of reports. Specification: 5 Validation.
use Rattle.std.specs.Prelude.{List, [], ◌∷◌, ◌++◌, Option, codes}
use Rattle.graphql_documents.specs.TypeReferences.{type_text}
use Rattle.graphql_input_rules.specs.declared.reports.InputFieldRepetition.{InputFieldRepetition}
use Rattle.graphql_shown_reports.specs.SourceText.{SourceText}
use Rattle.graphql_shown_reports.specs.SyntaxReport.{SyntaxReport}
use Rattle.graphql_nodes.specs.declared.spans.SourceSpan.{SourceSpan}
use Rattle.graphql_notes.specs.Labels.{AreNotes, Label, label}
use Rattle.graphql_notes.specs.Notes.{building_labels, details_labels, first_here, of_type}
use Rattle.graphql_notes.specs.declared.notes.Note.{Note}
use Rattle.graphql_parser.specs.declared.bounds.Bounds.{Bounds}
use Rattle.graphql_shown_reports.specs.Shown.{Report, building, input_field, syntax, text_of, usage, validation}
use Rattle.graphql_syntax_helps.specs.Brackets.{IsPlaceOfOpen}
use Rattle.graphql_usage_rules.specs.declared.reports.VariableMisuse.{VariableMisuse}

-- the first of an input field that is given again
abbrev pub repetition_labels : InputFieldRepetition → List Label
repetition_labels repetition = first_here repetition.original

-- the definition of a variable that is not allowed at its place
abbrev pub usage_labels : VariableMisuse → List Label
usage_labels misuse = label misuse.definition_location (codes "`$" ++ (misuse.name.text ++ of_type misuse.variable_type.value.value)) ∷ []

-- the notes of a syntax error at this place: the innermost bracket that is open there, if there is one
abbrev pub HasBracketNote : List SourceText → Bounds → Option SourceSpan → SyntaxReport → List Note → Type 0
HasBracketNote sources bounds at report notes = (place : Option SourceSpan) ×
    IsPlaceOfOpen bounds report.file_id (text_of sources report.file_id) report.error place × AreNotes at (label place (codes "this bracket is not closed") ∷ []) notes

-- the other places of a report that is no syntax error, with what is there. A limit, and that there are more reports have no other place
abbrev pub labels_of : Report → List Label
labels_of (building report) = building_labels report.rule
labels_of (validation entry) = details_labels entry.details
labels_of (input_field repetition) = repetition_labels repetition
labels_of (usage misuse) = usage_labels misuse
labels_of _ = []

-- the notes of a report at this place
abbrev pub AreNotesOf : List SourceText → Bounds → Option SourceSpan → Report → List Note → Type 0
AreNotesOf sources bounds at (syntax report) notes = HasBracketNote sources bounds at report notes
AreNotesOf sources bounds at report notes = AreNotes at (labels_of report) notes
