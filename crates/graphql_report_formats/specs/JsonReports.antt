-- Findings as JSON: the errors of a response. Specification: 7.1.2 Errors.
use Rattle.std.specs.Prelude.{◌≡◌, ℕ, Bool, List, [], ◌∷◌, ◌++◌, Option, None, Some, OnOk, Result, codes, decimal, flat_map, string_bytes, if◌then◌else◌}
use Rattle.std.specs.List.{list_any}
use Rattle.std.specs.Option.{is_some}
use Rattle.json.specs.Token.{Token, begin_array, begin_object, end_array, end_object, key, number, string}
use Rattle.json.specs.Written.{Written}
use Rattle.graphql_findings.specs.Helps.{help_text}
use Rattle.graphql_findings.specs.declared.findings.Finding.{Finding}
use Rattle.graphql_findings.specs.declared.helps.FindingHelp.{FindingHelp}
use Rattle.graphql_notes.specs.declared.notes.Note.{Note}
use Rattle.graphql_places.specs.declared.Place.{Place}
use Rattle.graphql_report_formats.specs.NamedTexts.{Part, Text, part_at}

-- a member that is a number, or a string
abbrev pub number_member : List ℕ → ℕ → List Token
number_member name n = key name ∷ number (decimal n) ∷ []

abbrev pub text_member : List ℕ → List ℕ → List Token
text_member name text = key name ∷ string text ∷ []

-- a line and a column, both from 1
abbrev pub location : Place → List Token
location place = number_member (codes "line") place.line ++ number_member (codes "column") place.column

-- the location of a report that has a place
abbrev pub locations : Option Part → List Token
locations None = []
locations (Some at) = key (codes "locations") ∷ begin_array ∷ begin_object ∷ (location at.start ++ (end_object ∷ end_array ∷ []))

-- the path of the file, if it has one
abbrev pub file : Option (List ℕ) → List Token
file None = []
file (Some path) = text_member (codes "file") path

-- the file of a report; of one without a place, this one
abbrev pub file_of : Option Part → Option (List ℕ) → List Token
file_of None path = file path
file_of (Some at) path = file at.path

-- the bytes of a report that has a place
abbrev pub span : Option Part → List Token
span None = []
span (Some at) = key (codes "span") ∷ begin_object ∷ (number_member (codes "start") at.span.start ++ (number_member (codes "end") at.span.end ++ (end_object ∷ [])))

-- a note at a part of these texts; one at a place in another text is left out
abbrev pub note_at : Note → Option Part → List Token
note_at note None = []
note_at note (Some at) =
    begin_object ∷ (text_member (codes "message") (string_bytes note.message) ++ (file at.path ++ (location at.start ++ (span (Some at) ++ (end_object ∷ [])))))

abbrev pub notes_of : List Text → List Note → List Token
notes_of texts notes = flat_map (λ (note : Note). note_at note (part_at texts (Some note.place))) notes

abbrev pub is_located : List Text → Note → Bool
is_located texts note = is_some (part_at texts (Some note.place))

abbrev pub note_array : List Text → List Note → List Token
note_array texts notes = key (codes "related") ∷ begin_array ∷ (notes_of texts notes ++ (end_array ∷ []))

-- the notes at places in these texts, if there are any
abbrev pub related : List Text → List Note → List Token
related texts notes = if list_any (is_located texts) notes then note_array texts notes else []

-- what helps, if something does
abbrev pub help_member : Option FindingHelp → List Token
help_member None = []
help_member (Some h) = key (codes "help") ∷ begin_array ∷ string (help_text h) ∷ end_array ∷ []

-- an error: as it begins, up to its notes, and as it ends
abbrev pub error_begin : List ℕ → List ℕ → Option Part → Option (List ℕ) → List Token
error_begin rule message at path =
    begin_object ∷ (text_member (codes "message") message ++ (locations at ++ (key (codes "extensions") ∷ begin_object ∷
    (file_of at path ++ (text_member (codes "rule") rule ++ span at)))))

abbrev pub error_end : List Token
error_end = end_object ∷ end_object ∷ []

-- a finding in these texts, as an error
abbrev pub error : List Text → Option (List ℕ) → Finding → List Token
error texts path finding =
    error_begin finding.report.rule.now (string_bytes finding.report.message) (part_at texts finding.report.location) path ++
    (related texts finding.notes.items ++ (help_member finding.help ++ error_end))

-- an error that has no place, of this file
abbrev pub error_without_place : List ℕ → List ℕ → Option (List ℕ) → List Token
error_without_place rule message path = error_begin rule message None path ++ error_end

-- the findings, in order
abbrev pub errors : List Text → Option (List ℕ) → List Finding → List Token
errors texts path findings = flat_map (error texts path) findings

-- an object with errors: as it begins, and as it ends
abbrev pub errors_begin : List Token
errors_begin = key (codes "errors") ∷ begin_array ∷ []

abbrev pub object_begin : List Token
object_begin = begin_object ∷ errors_begin

abbrev pub object_end : List Token
object_end = end_array ∷ end_object ∷ []

-- the object with these findings
abbrev pub errors_object : List Text → Option (List ℕ) → List Finding → List Token
errors_object texts path findings = object_begin ++ (errors texts path findings ++ object_end)

-- a call that answers has appended these tokens; what stood before the writer began stays in any case
pub record Appends {E : Type 0} (result : Result (Unit {0}) E) (old new : Written) (more : List Token) : Type 0 where
  pub before : new.before ≡ old.before
  pub appended : OnOk result (new.tokens ≡ old.tokens ++ more)
