-- The files of a schema, as texts. Specification: 2.2 Document; 3 Type System.
use Rattle.std.specs.Prelude.{◌==◌, ◌+◌, IsUtf8, ℕ, suc, List, [], ◌∷◌, Contains, None, Option, Some, map, min, if◌then◌else◌}
use Rattle.graphql_nodes.specs.declared.spans.FileId.{FileId}
use Rattle.graphql_nodes.specs.declared.spans.TheConstants as spans
use Rattle.graphql_schema_building.specs.declared.built_in.TheConstants as built_in
use Rattle.graphql_kept_projects.specs.Frontend.Texts.{schema_file}
use Rattle.graphql_kept_projects.specs.Frontend.declared.texts.SourceText.{SourceText}
use Rattle.graphql_report_formats.specs.NamedTexts.{Text}
use Rattle.graphql_report_formats.specs.declared.named_texts.NamedText.{NamedText}
use Rattle.graphql_answers.specs.Answers.{built_in_path}
use Rattle.graphql_answers.specs.declared.answers.Refusal.{Refusal}
use Rattle.graphql_answers.specs.declared.answers.Refusal.TheVariants.{OutOfMemory, NotUtf8}
use Rattle.graphql_answers.specs.declared.files.SchemaFile.{SchemaFile}

-- the number of the file at this place: the first one has that of the one text of a schema, and no other has that, or that of the document
abbrev pub file_at : ℕ → FileId
file_at place = if place == 0 then schema_file else record { 0 = min place 4294967293 + 2 }

-- what reports call a file, if it has a name
abbrev pub name_of : List ℕ → Option (List ℕ)
name_of [] = None
name_of (first ∷ others) = Some (first ∷ others)

-- the text of the file at this place
abbrev pub file_text : ℕ → SchemaFile → Text
file_text place file = record { path = name_of file.name.now; file_id = file_at place; text = file.text.now }

-- the texts of files, of which the first is at this place
abbrev pub texts_from : ℕ → List SchemaFile → List Text
texts_from place [] = []
texts_from place (file ∷ files) = file_text place file ∷ texts_from (suc place) files

-- the text of the definitions that every schema has
abbrev pub built_in_text : Text
built_in_text = record { path = built_in_path; file_id = spans.FileId.BUILT_IN; text = (built_in.BUILT_IN_DEFINITIONS).now }

-- the texts of a schema: the definitions that every schema has, and its files, in order
abbrev pub texts_of_files : List SchemaFile → List Text
texts_of_files files = built_in_text ∷ texts_from 0 files

-- texts without the paths of their files
abbrev pub sources_of : List NamedText → List SourceText
sources_of texts = map (λ (text : NamedText). text.source) texts

-- why a file has no text
pub data IsRefusalOfFile (file : SchemaFile) : Refusal → Type 0 where
  name_is_no_text : ¬ IsUtf8 file.name.now → IsRefusalOfFile file NotUtf8
  is_no_text : ¬ IsUtf8 file.text.now → IsRefusalOfFile file NotUtf8

-- why there is no answer on files
pub data IsRefusalOfFiles (files : List SchemaFile) : Refusal → Type 0 where
  lacks_memory : IsRefusalOfFiles files OutOfMemory
  is_of_file : {refusal : Refusal} (file : SchemaFile) → Contains files file → IsRefusalOfFile file refusal → IsRefusalOfFiles files refusal
