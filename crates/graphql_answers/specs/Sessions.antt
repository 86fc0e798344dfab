-- What is answered of a schema that is kept, and of documents against it. Specification: 3 Type System; 5 Validation.
use Rattle.std.specs.Prelude.{◌≡◌, ℕ, List, [], ◌∷◌, Bool, None, Option, Some, map}
use Rattle.std.specs.Arc.{arc_value}
use Rattle.std.specs.Option.{option_map}
use Rattle.json.specs.Print.{print}
use Rattle.json.specs.Token.{Token}
use Rattle.graphql_documents.specs.declared.documents.schemas.Schema.{Schema}
use Rattle.graphql_kept_projects.specs.Frontend.Schemas.{IsUsable, ReadsSchema}
use Rattle.graphql_kept_projects.specs.Frontend.declared.schemas.SchemaReading.{SchemaReading}
use Rattle.graphql_kept_projects.specs.Frontend.declared.schemas.SchemaReading.TheVariants.{Accepted, Rejected, LacksIntrospection}
use Rattle.graphql_report_formats.specs.NamedTexts.{named_text, schema_path}
use Rattle.graphql_report_formats.specs.declared.named_texts.NamedText.{NamedText}
use Rattle.graphql_schema_handles.specs.declared.sessions.Session.{Session}
use Rattle.graphql_answers.specs.Answers.{ChecksWithin, IsErrorOfLack, IsObjectOfRejected, IsRefusalOf, no_errors}
use Rattle.graphql_answers.specs.Batches.{found_in_documents}
use Rattle.graphql_answers.specs.Files.{sources_of, texts_of_files}
use Rattle.graphql_answers.specs.declared.answers.Found.{Found}
use Rattle.graphql_answers.specs.declared.answers.Found.TheVariants.{Nothing, InSchema}
use Rattle.graphql_answers.specs.declared.answers.Refusal.{Refusal}
use Rattle.graphql_answers.specs.declared.answers.Refusal.TheVariants.{NoSchema, OutOfMemory}
use Rattle.graphql_answers.specs.declared.files.SchemaFile.{SchemaFile}
use Rattle.graphql_answers.specs.declared.limits.Limits.{Limits}

-- the schema of a session, if it has one
abbrev pub schema_of : Session → Option Schema
schema_of session = option_map arc_value session.schema

-- the schema that a handle keeps, if it keeps one
abbrev pub schema_in : Option Session → Option Schema
schema_in None = None
schema_in (Some session) = schema_of session

-- the answer that a handle keeps: none, if it keeps nothing
abbrev pub answer_in : Option Session → List ℕ
answer_in None = []
answer_in (Some session) = session.answer.items

-- documents can be validated against the schema that is kept, if one is
abbrev pub IsUsableIfKept : Option Schema → Type 0
IsUsableIfKept None = Unit {0}
IsUsableIfKept (Some schema) = IsUsable schema

-- the object of what is reported of a schema, by the names of its files
abbrev pub IsObjectOfTexts : Limits → List NamedText → SchemaReading → List Token → Type 0
IsObjectOfTexts limits texts (Accepted _) object = ⊥
IsObjectOfTexts limits texts (Rejected reports) object =
    IsObjectOfRejected limits (map named_text texts) (schema_path (map named_text texts)) (sources_of texts) reports object
IsObjectOfTexts limits texts LacksIntrospection object = IsErrorOfLack object

-- what these texts come to: a schema, of which nothing is reported, or the JSON of what is reported
pub data IsReadFromTexts (limits : Limits) (texts : List NamedText) : Option Schema → List ℕ → Type 0 where
  is_accepted : {schema : Schema} → ReadsSchema limits.bounds (sources_of texts) (Accepted schema) → IsReadFromTexts limits texts (Some schema) (print no_errors)
  is_reported : {reading : SchemaReading} (object : List Token) → ReadsSchema limits.bounds (sources_of texts) reading →
      IsObjectOfTexts limits texts reading object → IsReadFromTexts limits texts None (print object)

-- what these files come to, by their texts
pub record IsReadFrom (limits : Limits) (files : List SchemaFile) (schema : Option Schema) (json : List ℕ) : Type 0 where
  pub texts : List NamedText
  pub texts_are : map named_text texts ≡ texts_of_files files
  pub reads : IsReadFromTexts limits texts schema json

-- something is reported exactly if no schema is kept
abbrev pub found_in_schema : Option Schema → Found
found_in_schema None = InSchema
found_in_schema (Some schema) = Nothing

-- what is found in the files of a schema, its JSON, and the schema that they say, unless something is reported
pub record FindsInFiles (limits : Limits) (files : List SchemaFile) (schema : Option Schema) (found : Found) (json : List ℕ) : Type 0 where
  pub is_read : IsReadFrom limits files schema json
  pub found_is : found ≡ found_in_schema schema

-- what is found in the bytes of a document against this schema, and its JSON
pub data FindsAgainst (limits : Limits) (schema : Schema) (document : List ℕ) : Found → List ℕ → Type 0 where
  by_checking : (reported : Bool) (object : List Token) → ChecksWithin limits schema document reported object →
      FindsAgainst limits schema document (found_in_documents reported) (print object)

-- the same against the schema that is kept. Without one nothing is found
abbrev pub FindsAgainstKept : Limits → Option Schema → List ℕ → Found → List ℕ → Type 0
FindsAgainstKept limits None document found json = ⊥
FindsAgainstKept limits (Some schema) document found json = FindsAgainst limits schema document found json

-- why there is no answer on a document
pub data IsRefusalOfKept : Option Schema → List ℕ → Refusal → Type 0 where
  has_no_schema : {document : List ℕ} → IsRefusalOfKept None document NoSchema
  is_of_document : {schema : Schema} {document : List ℕ} {refusal : Refusal} → IsRefusalOf (document ∷ []) refusal →
      IsRefusalOfKept (Some schema) document refusal

-- another handle keeps the schema that is kept, and no answer. Without a schema nothing is shared
abbrev pub IsSharedWith : Option Schema → Option Session → Type 0
IsSharedWith None other = ⊥
IsSharedWith (Some schema) other = (schema_in other ≡ Some schema) × (answer_in other ≡ [])

-- why the schema that is kept, if one is, is not shared
abbrev pub refusal_of_sharing : Option Schema → Refusal
refusal_of_sharing None = NoSchema
refusal_of_sharing (Some schema) = OutOfMemory
