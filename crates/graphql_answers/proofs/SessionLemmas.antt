-- What is read of one file without a name, and what is answered against it.
use Rattle.std.proofs.Common.{◌≡◌, ◌∙◌, ℕ, Bool, Bor, List, [], ◌∷◌, Err, IfErr, None, Ok, Option, Result, Some, ap, arith, get_or, length, map, refl, sym, subst}
use Rattle.json.specs.Print.{print}
use Rattle.json.specs.Token.{Token}
use Rattle.graphql_documents.specs.declared.documents.schemas.Schema.{Schema}
use Rattle.graphql_nodes.specs.declared.spans.FileId.{FileId}
use Rattle.graphql_kept_projects.specs.Frontend.Schemas.{ReadsSchema}
use Rattle.graphql_kept_projects.specs.Frontend.Texts.{AreTextsOf, IsTextOf, document_file}
use Rattle.graphql_kept_projects.specs.Frontend.Verdicts.{holds, rejected, schema_is_read}
use Rattle.graphql_kept_projects.specs.Frontend.declared.schemas.SchemaReading.{SchemaReading}
use Rattle.graphql_kept_projects.specs.Frontend.declared.schemas.SchemaReading.TheVariants.{Accepted, Rejected, LacksIntrospection}
use Rattle.graphql_kept_projects.specs.Frontend.declared.texts.SourceText.{SourceText}
use Rattle.graphql_report_formats.specs.NamedTexts.{Text, named_text, schema_path}
use Rattle.graphql_report_formats.specs.declared.named_texts.NamedText.{NamedText}
use Rattle.graphql_answers.specs.Answers.{ChecksWithin, Finds, FindsInSchema, IsObjectOfRejected, IsRefusalOf, by_reading, built_in_path, by_verdict, default_limits, no_errors, reports_nothing, reports_some, schema_texts}
use Rattle.graphql_answers.specs.Batches.{found_in_documents}
use Rattle.graphql_answers.specs.Files.{built_in_text, file_text, name_of, sources_of, texts_of_files}
use Rattle.graphql_answers.specs.Sessions.{FindsAgainst, FindsInFiles, IsObjectOfTexts, IsReadFrom, IsReadFromTexts, IsRefusalOfKept, by_checking, found_in_schema, has_no_schema, is_accepted, is_of_document, is_reported}
use Rattle.graphql_answers.specs.Objects.{IsAnswer}
use Rattle.graphql_answers.specs.declared.answers.Answer.{Answer}
use Rattle.graphql_answers.specs.declared.answers.Found.{Found}
use Rattle.graphql_answers.specs.declared.answers.Found.TheVariants.{Nothing, InSchema}
use Rattle.graphql_answers.specs.declared.answers.Refusal.{Refusal}
use Rattle.graphql_answers.specs.declared.answers.Refusal.TheVariants.{NoSchema}
use Rattle.graphql_answers.specs.declared.files.SchemaFile.{SchemaFile}
use Rattle.graphql_answers.specs.declared.limits.Limits.{Limits}

-- the text of a document
abbrev pub text_source : Bor (List ℕ) → SourceText
text_source text = record { file_id = document_file; text = text }

pub is_text_of : (text : Bor (List ℕ)) → IsTextOf text.now (text_source text)
is_text_of text = record { file_is = refl; is_not_built_in = λ e. grind (arith, ap (λ (f : FileId). f.0) e); text_is = refl }

-- the two texts of one file
record AreTwo (text : List ℕ) (texts : List NamedText) : Type 0 where
  pub first : NamedText
  pub own : NamedText
  pub texts_are : texts ≡ first ∷ own ∷ []
  pub first_is : named_text first ≡ built_in_text
  pub path_is : (named_text own).path ≡ None
  pub file_is : (named_text own).file_id ≡ record { 0 = 1 }
  pub text_is : (named_text own).text ≡ text

-- the texts of one file without a name are those of one text
texts_alike : (text : List ℕ) (texts : List NamedText) → AreTwo text texts → AreTextsOf text (sources_of texts)
texts_alike text texts two = record {
  first = two.first.source;
  own = two.own.source;
  sources_are = ap sources_of two.texts_are;
  first_file_is = ap (λ (t : Text). t.file_id) two.first_is;
  first_is = ap (λ (t : Text). t.text) two.first_is;
  own_file_is = two.file_is;
  own_is_not_built_in = λ e. grind (arith, ap (λ (f : FileId). f.0) (sym two.file_is ∙ e));
  own_is = two.text_is;
}

two_of : (file : SchemaFile) (texts : List NamedText) → file.name.now ≡ [] → map named_text texts ≡ texts_of_files (file ∷ []) → AreTwo file.text.now texts
two_of file [] none are = absurd (grind (arith, ap length are))
two_of file (x ∷ []) none are = absurd (grind (arith, ap length are))
two_of file (x ∷ y ∷ []) none are =
    let same : named_text y ≡ file_text 0 file = ap (λ l. get_or l 1 built_in_text) are in
    record {
      first = x;
      own = y;
      texts_are = refl;
      first_is = ap (λ l. get_or l 0 built_in_text) are;
      path_is = ap (λ (t : Text). t.path) same ∙ ap name_of none;
      file_is = ap (λ (t : Text). t.file_id) same;
      text_is = ap (λ (t : Text). t.text) same;
    }
two_of file (x ∷ y ∷ z ∷ zs) none are = absurd (grind (arith, ap length are))

checked_alike : (text : List ℕ) (sources : List SourceText) (schema : Schema) (document : List ℕ) → AreTextsOf text sources →
    ReadsSchema default_limits.bounds sources (Accepted schema) → {reported : Bool} {object : List Token} →
    ChecksWithin default_limits schema document reported object → Finds text document (found_in_documents reported) (print object)
checked_alike text sources schema document are reads (reports_nothing source is validates) =
    by_verdict no_errors sources source are is (schema_is_read schema reads (holds validates)) refl
checked_alike text sources schema document are reads (reports_some source is validates errors) =
    by_verdict _ sources source are is (schema_is_read schema reads (rejected validates))
    (record { schema = schema; reads = reads; validates = validates; is_object = errors })

accepted : {texts : List NamedText} {schema : Schema} {json : List ℕ} → IsReadFromTexts default_limits texts (Some schema) json →
    ReadsSchema default_limits.bounds (sources_of texts) (Accepted schema)
accepted (is_accepted reads) = reads

-- what is found against a schema that these texts say is what is found in them and the document
pub against : (text document : List ℕ) (sources : List SourceText) (schema : Schema) → AreTextsOf text sources →
    ReadsSchema default_limits.bounds sources (Accepted schema) → {found : Found} {json : List ℕ} →
    FindsAgainst default_limits schema document found json → Finds text document found json
against text document sources schema are reads (by_checking reported object checks) = checked_alike text sources schema document are reads checks

pub answered_alike : (file : SchemaFile) (schema : Schema) (read : List ℕ) → file.name.now ≡ [] →
    IsReadFrom default_limits (file ∷ []) (Some schema) read → (document : List ℕ) (found : Found) (json : List ℕ) →
    FindsAgainst default_limits schema document found json → Finds file.text.now document found json
answered_alike file schema read none is document found json finds =
    against file.text.now document (sources_of is.texts) schema (texts_alike file.text.now is.texts (two_of file is.texts none is.texts_are)) (accepted is.reads) finds

-- the texts as reports name them
named_alike : (text : List ℕ) (texts : List NamedText) → AreTwo text texts → map named_text texts ≡ schema_texts (sources_of texts)
named_alike text texts two =
    let first = two.first.source in
    let own = two.own.source in
    ap (map named_text) two.texts_are ∙
    ap (λ (p : Option (List ℕ)). record { path = p; file_id = first.file_id; text = first.text.now } ∷ named_text two.own ∷ []) (ap (λ (t : Text). t.path) two.first_is) ∙
    ap (λ (p : Option (List ℕ)). record { path = built_in_path; file_id = first.file_id; text = first.text.now } ∷ record { path = p; file_id = own.file_id; text = own.text.now } ∷ []) two.path_is ∙
    ap (λ l. schema_texts (sources_of l)) (sym two.texts_are)

path_alike : (text : List ℕ) (texts : List NamedText) → AreTwo text texts → schema_path (map named_text texts) ≡ None
path_alike text texts two = ap (λ l. schema_path (map named_text l)) two.texts_are ∙ two.path_is

reported_alike : (text : List ℕ) (texts : List NamedText) → AreTwo text texts → (reading : SchemaReading) (object : List Token) →
    ReadsSchema default_limits.bounds (sources_of texts) reading → IsObjectOfTexts default_limits texts reading object →
    FindsInSchema text InSchema (print object)
reported_alike text texts two (Accepted schema) object reads is = absurd is
reported_alike text texts two (Rejected reports) object reads is = by_reading object (sources_of texts) (texts_alike text texts two) reads
    (subst (λ p. IsObjectOfRejected default_limits (schema_texts (sources_of texts)) p (sources_of texts) reports object) (path_alike text texts two)
    (subst (λ t. IsObjectOfRejected default_limits t (schema_path (map named_text texts)) (sources_of texts) reports object) (named_alike text texts two) is))
reported_alike text texts two LacksIntrospection object reads is = by_reading object (sources_of texts) (texts_alike text texts two) reads is

texts_read : (text : List ℕ) (texts : List NamedText) → AreTwo text texts → {schema : Option Schema} {json : List ℕ} →
    IsReadFromTexts default_limits texts schema json → FindsInSchema text (found_in_schema schema) json
texts_read text texts two (is_accepted reads) = by_reading no_errors (sources_of texts) (texts_alike text texts two) reads refl
texts_read text texts two (is_reported object reads is) = reported_alike text texts two _ object reads is

pub read_alike : (file : SchemaFile) (schema : Option Schema) (found : Found) (json : List ℕ) → file.name.now ≡ [] →
    FindsInFiles default_limits (file ∷ []) schema found json → FindsInSchema file.text.now found json
read_alike file schema found json none finds =
    let is = finds.is_read in
    subst (λ f. FindsInSchema file.text.now f json) (sym finds.found_is) (texts_read file.text.now is.texts (two_of file is.texts none is.texts_are) is.reads)

-- nothing is reported of the texts
pub accepted_of_texts : (limits : Limits) (texts : List NamedText) (sources : List SourceText) (schema : Schema) (answer : Answer) → sources ≡ sources_of texts →
    ReadsSchema limits.bounds sources (Accepted schema) → IsAnswer Nothing (λ object. object ≡ no_errors) answer → IsReadFromTexts limits texts (Some schema) answer.json.items
accepted_of_texts limits texts sources schema answer same reads is =
    subst (IsReadFromTexts limits texts (Some schema)) (sym (is.json_is ∙ ap print is.is_object))
    (is_accepted (subst (λ s. ReadsSchema limits.bounds s (Accepted schema)) same reads))

-- something is reported of the texts
pub reported_of_texts : (limits : Limits) (texts : List NamedText) (sources : List SourceText) (reading : SchemaReading) (IsObject : List Token → Type 0) (answer : Answer)
    (schema : Option Schema) (json : List ℕ) → sources ≡ sources_of texts → ReadsSchema limits.bounds sources reading → IsAnswer InSchema IsObject answer →
    ((object : List Token) → IsObject object → IsObjectOfTexts limits texts reading object) → schema ≡ None → json ≡ answer.json.items → IsReadFromTexts limits texts schema json
reported_of_texts limits texts sources reading IsObject answer schema json same reads is of_texts none kept =
    subst (λ s. IsReadFromTexts limits texts s json) (sym none) (subst (IsReadFromTexts limits texts None) (sym (kept ∙ is.json_is))
    (is_reported is.object (subst (λ s. ReadsSchema limits.bounds s reading) same reads) (of_texts is.object is.is_object)))

-- why there is no answer on a document
pub refused_of_document : {T : Type 0} (r : Result T Refusal) (kept : Option Schema) (schema : Schema) (document : List ℕ) → kept ≡ Some schema →
    IfErr r (IsRefusalOf (document ∷ [])) → IfErr r (IsRefusalOfKept kept document)
refused_of_document (Ok x) kept schema document is refused = tt
refused_of_document (Err e) kept schema document is refused = subst (λ k. IsRefusalOfKept k document e) (sym is) (is_of_document refused)

pub refused_without : (kept : Option Schema) (document : List ℕ) → kept ≡ None → IsRefusalOfKept kept document NoSchema
refused_without kept document is = subst (λ k. IsRefusalOfKept k document NoSchema) (sym is) has_no_schema
