-- The texts that reports are about, and their parts.
use Rattle.std.specs.Prelude.{◌==◌, ℕ, List, [], ◌∷◌, ◌++◌, Option, None, Some, codes, length, map, min, if◌then◌else◌}
use Rattle.std.specs.Borrow.{Bor}
use Rattle.std.specs.Option.{option_map}
use Rattle.graphql_nodes.specs.declared.spans.FileId.{FileId}
use Rattle.graphql_nodes.specs.declared.spans.SourceSpan.{SourceSpan}
use Rattle.graphql_places.specs.Places.{column, line}
use Rattle.graphql_places.specs.declared.Place.{Place}
use Rattle.graphql_report_formats.specs.declared.named_texts.CountedSubject.{CountedSubject}
use Rattle.graphql_report_formats.specs.declared.named_texts.CountedText.{CountedText}
use Rattle.graphql_report_formats.specs.declared.named_texts.Located.{Located}
use Rattle.graphql_report_formats.specs.declared.named_texts.NamedText.{NamedText}
use Rattle.graphql_report_formats.specs.declared.named_texts.Texts.{Texts}

-- a text of a file, and the path of the file, if it has one
pub record Text : Type 0 where
  pub path : Option (List ℕ)
  pub file_id : FileId
  pub text : List ℕ

-- the path that a reference is to
abbrev pub path_of : Option (Bor (List ℕ)) → Option (List ℕ)
path_of None = None
path_of (Some path) = Some path.now

abbrev pub named_text : NamedText → Text
named_text named = record { path = path_of named.path; file_id = named.source.file_id; text = named.source.text.now }

abbrev pub counted_text : CountedText → Text
counted_text counted = record { path = path_of counted.path; file_id = counted.file_id; text = counted.lines }

-- the texts of a subject, in order
abbrev pub texts_of : CountedSubject → List Text
texts_of subject = map counted_text subject.texts.items

-- these texts, and those of a schema, if these are others
abbrev pub with_schema : List Text → Option (Bor CountedSubject) → List Text
with_schema texts None = texts
with_schema texts (Some schema) = texts ++ texts_of schema.now

-- the texts that are validated, and those of the schema
abbrev pub all_texts : Texts → List Text
all_texts texts = with_schema (texts_of texts.subject.now) texts.schema

-- the text of a file: the first of these that is of it
abbrev pub text_in : List Text → FileId → Option Text
text_in [] file_id = None
text_in (text ∷ texts) file_id = if text.file_id.0 == file_id.0 then Some text else text_in texts file_id

-- a part of a text, with the places where it begins and where it ends
pub record Part : Type 0 where
  pub path : Option (List ℕ)
  pub text : List ℕ
  pub span : SourceSpan
  pub start : Place
  pub end : Place

-- the place of a byte of a text; behind the text, the place of its end
abbrev pub place_in : List ℕ → ℕ → Place
place_in text at = record { line = line text (min at (length text)); column = column text (min at (length text)) }

abbrev pub part_of : SourceSpan → Text → Part
part_of span text = record { path = text.path; text = text.text; span = span; start = place_in text.text span.start; end = place_in text.text span.end }

-- the part that a span is of the text of its file, if one of the texts is of it
abbrev pub part_at : List Text → Option SourceSpan → Option Part
part_at texts None = None
part_at texts (Some span) = option_map (part_of span) (text_in texts span.file_id)

-- what a located part is
abbrev pub part : Located → Part
part located = record { path = path_of located.path; text = located.text.now; span = located.span; start = located.start; end = located.end }

-- the file of a report of a schema that has no place: the first file of a user, which comes behind the definitions that every schema has
abbrev pub schema_path : List Text → Option (List ℕ)
schema_path (first ∷ own ∷ others) = own.path
schema_path _ = Some (codes "<built-in>")
