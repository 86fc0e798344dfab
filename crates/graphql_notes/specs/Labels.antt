-- What the notes of a report say, and where.
use Rattle.std.specs.Prelude.{◌≡◌, ◌==◌, ◌&&◌, ℕ, Bool, true, false, not, List, map, Option, None, Some, string_bytes}
use Rattle.std.specs.List.{filter}
use Rattle.graphql_nodes.specs.declared.spans.SourceSpan.{SourceSpan}
use Rattle.graphql_notes.specs.declared.notes.Note.{Note}

-- words on a place, if a text says where it is
pub record Label : Type 0 where
  pub place : Option SourceSpan
  pub text : List ℕ

abbrev pub label : Option SourceSpan → List ℕ → Label
label place text = record { place = place; text = text }

-- what a note says, and where
abbrev pub label_of : Note → Label
label_of note = record { place = Some note.place; text = string_bytes note.message }

-- two parts are of one file, and of the same bytes
abbrev pub is_same_part : SourceSpan → SourceSpan → Bool
is_same_part a b = (a.file_id.0 == b.file_id.0 && a.start == b.start) && a.end == b.end

-- a text says where the place is, and it is not this one
abbrev pub is_elsewhere : Option SourceSpan → Option SourceSpan → Bool
is_elsewhere at None = false
is_elsewhere None (Some place) = true
is_elsewhere (Some at) (Some place) = not (is_same_part at place)

-- the labels at other places than this one
abbrev pub labels_beside : Option SourceSpan → List Label → List Label
labels_beside at labels = filter (λ (l : Label). is_elsewhere at l.place) labels

-- the notes of a report at this place say these labels, in order: those at other places
abbrev pub AreNotes : Option SourceSpan → List Label → List Note → Type 0
AreNotes at labels notes = map label_of notes ≡ labels_beside at labels
