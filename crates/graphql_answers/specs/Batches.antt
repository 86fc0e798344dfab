-- What is answered of the bytes of several documents.
use Rattle.std.specs.Prelude.{◌≡◌, IsUtf8, ℕ, zero, suc, ◌<◌, ◌≤◌, List, [], ◌∷◌, ◌++◌, flat_map, length, slice_index, slice_range, Bool, if◌then◌else◌}
use Rattle.std.specs.List.{AllZip, list_any}
use Rattle.json.specs.Print.{print}
use Rattle.json.specs.Token.{Token, begin_array, end_array}
use Rattle.json.specs.Written.{Written}
use Rattle.graphql_documents.specs.declared.documents.schemas.Schema.{Schema}
use Rattle.graphql_parser.specs.declared.bounds.TheConstants as bounds
use Rattle.graphql_kept_projects.specs.Frontend.Schemas.{ReadsSchema}
use Rattle.graphql_kept_projects.specs.Frontend.declared.schemas.SchemaReading.{SchemaReading}
use Rattle.graphql_kept_projects.specs.Frontend.declared.schemas.SchemaReading.TheVariants.{Accepted}
use Rattle.graphql_kept_projects.specs.Frontend.declared.texts.SourceText.{SourceText}
use Rattle.graphql_kept_projects.specs.Frontend.Texts.{AreTextsOf}
use Rattle.graphql_answers.specs.Answers.{Checks, IsObjectOfReading, found_by_reading}
use Rattle.graphql_answers.specs.declared.answers.Answer.{Answer}
use Rattle.graphql_answers.specs.declared.answers.Found.{Found}
use Rattle.graphql_answers.specs.declared.answers.Found.TheVariants.{Nothing, InSchema, InDocuments}
use Rattle.graphql_answers.specs.declared.answers.Refusal.{Refusal}
use Rattle.graphql_answers.specs.declared.answers.Refusal.TheVariants.{OutOfMemory, NotUtf8, BadEnds}

-- where the k-th document begins: where the one before it ends
abbrev pub start_of : List ℕ → ℕ → ℕ
start_of ends zero = 0
start_of ends (suc k) = slice_index ends k

-- the k-th document
abbrev pub document_at : List ℕ → List ℕ → ℕ → List ℕ
document_at bytes ends k = slice_range bytes (start_of ends k) (slice_index ends k)

-- the k-th document ends no sooner than it begins, and within the bytes
pub record IsWithin (bytes ends : List ℕ) (k : ℕ) : Type 0 where
  pub ordered : start_of ends k ≤ slice_index ends k
  pub within : slice_index ends k ≤ length bytes

-- why the k-th document has no text
pub data IsNoText (bytes ends : List ℕ) (k : ℕ) : Refusal → Type 0 where
  is_beyond : ¬ IsWithin bytes ends k → IsNoText bytes ends k BadEnds
  is_no_utf8 : ¬ IsUtf8 (document_at bytes ends k) → IsNoText bytes ends k NotUtf8

-- the first n documents
abbrev pub first_documents : List ℕ → List ℕ → ℕ → List (List ℕ)
first_documents bytes ends zero = []
first_documents bytes ends (suc n) = first_documents bytes ends n ++ document_at bytes ends n ∷ []

-- what is told of a document: whether something is reported, and the object
pub record Told : Type 0 where
  pub reported : Bool
  pub object : List Token

-- whether something is reported of one of the first n documents, and the objects, one for each of them and in order
pub record ChecksFirst (schema : Schema) (bytes ends : List ℕ) (n : ℕ) (reported : Bool) (objects : List Token) : Type 0 where
  pub told : List Told
  pub each : AllZip (λ document (t : Told). Checks schema document t.reported t.object) (first_documents bytes ends n) told
  pub reported_is : reported ≡ list_any (λ (t : Told). t.reported) told
  pub objects_are : objects ≡ flat_map (λ (t : Told). t.object) told

abbrev pub found_in_documents : Bool → Found
found_in_documents reported = if reported then InDocuments else Nothing

-- an array of these objects
abbrev pub array : List Token → List Token
array objects = begin_array ∷ (objects ++ end_array ∷ [])

-- an answer on documents
pub record IsAnswerOnEach (schema : Schema) (bytes ends : List ℕ) (answer : Answer) : Type 0 where
  pub reported : Bool
  pub objects : List Token
  pub found_is : answer.found ≡ found_in_documents reported
  pub checks : ChecksFirst schema bytes ends (length ends) reported objects
  pub json_is : answer.json.items ≡ print (array objects)

-- the objects of the first n documents were appended
pub record AppendsChecked (schema : Schema) (bytes ends : List ℕ) (n : ℕ) (reported : Bool) (old new : Written) : Type 0 where
  pub objects : List Token
  pub checks : ChecksFirst schema bytes ends n reported objects
  pub appended : new.tokens ≡ old.tokens ++ objects

-- what is found in the bytes of a schema, and of the documents, which are looked at if the schema is accepted, and its JSON: the object of the
-- schema, or an array of an object for each document
pub data FindsInEach (schema bytes ends : List ℕ) : Found → List ℕ → Type 0 where
  schema_is_reported : {reading : SchemaReading} (object : List Token) (sources : List SourceText) → AreTextsOf schema sources →
      ReadsSchema bounds.Bounds.DEFAULT sources reading → found_by_reading reading ≡ InSchema → IsObjectOfReading sources reading object →
      FindsInEach schema bytes ends InSchema (print object)
  schema_is_accepted : {reported : Bool} (objects : List Token) (sources : List SourceText) (accepted : Schema) → AreTextsOf schema sources →
      ReadsSchema bounds.Bounds.DEFAULT sources (Accepted accepted) → ChecksFirst accepted bytes ends (length ends) reported objects →
      FindsInEach schema bytes ends (found_in_documents reported) (print (array objects))

-- why there is no answer on documents
pub data IsRefusalOfDocuments (bytes ends : List ℕ) : Refusal → Type 0 where
  lacks_memory : IsRefusalOfDocuments bytes ends OutOfMemory
  is_no_text : {refusal : Refusal} (k : ℕ) → k < length ends → IsNoText bytes ends k refusal → IsRefusalOfDocuments bytes ends refusal

-- why there is no answer on a schema and documents
pub data IsRefusalOfEach (schema bytes ends : List ℕ) : Refusal → Type 0 where
  of_schema : ¬ IsUtf8 schema → IsRefusalOfEach schema bytes ends NotUtf8
  of_documents : {refusal : Refusal} → IsRefusalOfDocuments bytes ends refusal → IsRefusalOfEach schema bytes ends refusal
