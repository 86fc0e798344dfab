-- Texts that are valid by one choice of typed values are valid by each.
use Rattle.std.proofs.Common.{◌≡◌, ◌≤◌, List, None, Some, length, refl, sym, subst}
use Rattle.graphql_building_laws.proofs.OutputFieldLaws.{has_output_fields}
use Rattle.graphql_building_laws.proofs.OwnNameLaws.{retained_under_own_names, said_under_own_names}
use Rattle.graphql_building_laws.proofs.SameSchemaLemmas.{schema_is_same}
use Rattle.graphql_building_laws.specs.SameSchemas.{SameSchema}
use Rattle.graphql_document_building.proofs.BuiltLemmas.{document_is_built}
use Rattle.graphql_document_building.specs.Documents.{DocumentSays}
use Rattle.graphql_documents.specs.Built.{IsBuilt}
use Rattle.graphql_documents.specs.declared.documents.executables.ExecutableDocument.{ExecutableDocument}
use Rattle.graphql_documents.specs.declared.documents.schemas.Schema.{Schema}
use Rattle.graphql_frontend.specs.Documents.{EveryRuleHolds, ValidatesDocument, counted_bytes, most_reached}
use Rattle.graphql_frontend.specs.Schemas.{IsAccepted, ReadsSchema}
use Rattle.graphql_frontend.specs.Verdicts.{Validates, holds, lacks_introspection, rejected, schema_is_read, schema_is_rejected}
use Rattle.graphql_frontend.specs.declared.schemas.SchemaReading.TheVariants as reading
use Rattle.graphql_frontend.specs.declared.texts.SourceText.{SourceText}
use Rattle.graphql_frontend.specs.declared.verdicts.Verdict.{Verdict}
use Rattle.graphql_frontend.specs.declared.verdicts.Verdict.TheVariants.{Valid}
use Rattle.graphql_parser.specs.declared.bounds.Bounds.{Bounds}
use Rattle.graphql_sameness_laws.proofs.RetainedLemmas.{retained_alike}
use Rattle.graphql_sameness_laws.proofs.SaidDocumentLemmas.{said_against_same_schemas}
use Rattle.graphql_schema_building.specs.SchemaSays.{SchemaSays}
use Rattle.graphql_specification.specs.BuiltInScalars.{SchemaRetainsUsedBuiltInScalars}
use Rattle.graphql_trees.specs.declared.documents.Document.{Document}
use Rattle.graphql_verdict_laws.proofs.DocumentVerdictLemmas.{one_document_verdict}
use Rattle.graphql_verdict_laws.proofs.EveryRuleLemmas.{accepted_too, every_rule_too}
use Rattle.graphql_verdict_laws.proofs.SchemaReadingLemmas.{one_reading}
use Rattle.graphql_verdict_laws.specs.Limits.{HasNoLimit}

module _ (bounds : Bounds) (sources : List SourceText) (source : SourceText) where
  -- the schema of a valid text, against which the document is valid
  record ValidTexts : Type 0 where
    accepted : Schema
    reads : ReadsSchema bounds sources (reading.Accepted accepted)
    valid : ValidatesDocument bounds (Some accepted) source None

  valid_texts : (verdict : Verdict) → verdict ≡ Valid → Validates bounds sources source verdict → ValidTexts
  valid_texts verdict e (schema_is_rejected reads) = absurd (let no : ⊥ = cc in no)
  valid_texts verdict e (lacks_introspection reads) = absurd (let no : ⊥ = cc in no)
  valid_texts verdict e (schema_is_read accepted reads (holds valid)) = record { accepted = accepted; reads = reads; valid = valid }
  valid_texts verdict e (schema_is_read accepted reads (rejected wrong)) = absurd (let no : ⊥ = cc in no)

  module _ (enough : counted_bytes (length source.text.now) ≤ most_reached bounds (length source.text.now)) where
    by_stage : ValidTexts → (verdict : Verdict) → Validates bounds sources source verdict → HasNoLimit verdict → verdict ≡ Valid
    by_stage v verdict (schema_is_rejected {reports = reports} reads) no_limit =
        let other = one_reading bounds sources v.accepted (reading.Rejected reports) v.reads reads no_limit in
        let is = other.1 in
        absurd (let no : ⊥ = cc in no)
    by_stage v verdict (lacks_introspection reads) no_limit =
        let other = one_reading bounds sources v.accepted reading.LacksIntrospection v.reads reads tt in
        let is = other.1 in
        absurd (let no : ⊥ = cc in no)
    by_stage v verdict (schema_is_read accepted reads (holds valid)) no_limit = refl
    by_stage v verdict (schema_is_read accepted reads (rejected {reports = reports} wrong)) no_limit =
        let other = one_reading bounds sources v.accepted (reading.Accepted accepted) v.reads reads tt in
        let is = other.1 in
        let one : accepted ≡ other.0 = cc in
        let same : SameSchema v.accepted accepted = subst (SameSchema v.accepted) (sym one) other.2 in
        let none = one_document_verdict bounds (Some v.accepted) (Some accepted) same source enough (Some reports) v.valid wrong no_limit in
        absurd (let no : ⊥ = cc in no)

    pub one_verdict : (verdict : Verdict) → Validates bounds sources source Valid → Validates bounds sources source verdict → HasNoLimit verdict → verdict ≡ Valid
    one_verdict verdict valid also no_limit = by_stage (valid_texts Valid refl valid) verdict also no_limit

pub holds_by_each_choice : (trees : List Document) (tree : Document) (said accepted other retained : Schema) (d e : ExecutableDocument) →
    SchemaSays trees said → IsAccepted said accepted → DocumentSays (Some accepted) tree d → EveryRuleHolds (Some accepted) d →
    SchemaSays trees other → SchemaRetainsUsedBuiltInScalars other retained → DocumentSays (Some retained) tree e →
    IsAccepted other retained × IsBuilt retained e × EveryRuleHolds (Some retained) e
holds_by_each_choice trees tree said accepted other retained d e says is its_says rules says_other retains its_other =
    let same = schema_is_same trees said other says says_other in
    let too = accepted_too said other accepted retained same is retains in
    let alike = retained_alike said other accepted retained same is.retains retains in (
      too,
      document_is_built retained tree e its_other (retained_under_own_names other retained (said_under_own_names trees other says_other) retains)
          (has_output_fields other retained too.holds retains too.meta_fields),
      every_rule_too (Some accepted) (Some retained) alike d e
          (said_against_same_schemas (Some accepted) (Some retained) alike tree d e its_says its_other) rules,
    )
