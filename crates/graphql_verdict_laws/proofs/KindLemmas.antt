-- Verdicts on the same texts are of one kind.
use Rattle.std.proofs.Common.{◌≡◌, ◌∙◌, ◌⊎◌, ◌≤◌, inl, inr, false, true, List, length, refl, sym, ap, subst}
use Rattle.graphql_documents.specs.declared.documents.schemas.Schema.{Schema}
use Rattle.graphql_frontend.specs.Documents.{counted_bytes, most_reached}
use Rattle.graphql_frontend.specs.Schemas.{ReadsSchema}
use Rattle.graphql_frontend.specs.Verdicts.{Validates, holds, lacks_introspection, rejected, schema_is_read, schema_is_rejected}
use Rattle.graphql_frontend.specs.declared.schemas.SchemaReading.{SchemaReading}
use Rattle.graphql_frontend.specs.declared.schemas.SchemaReading.TheVariants as reading
use Rattle.graphql_frontend.specs.declared.texts.SourceText.{SourceText}
use Rattle.graphql_frontend.specs.declared.verdicts.Verdict.{Verdict}
use Rattle.graphql_frontend.specs.declared.verdicts.Verdict.TheVariants.{DocumentRejected, LacksIntrospection, SchemaRejected, Valid}
use Rattle.graphql_parser.specs.declared.bounds.Bounds.{Bounds}
use Rattle.graphql_verdict_laws.proofs.OneVerdictLemmas.{one_verdict}
use Rattle.graphql_verdict_laws.proofs.SchemaReadingLemmas.{one_reading}
use Rattle.graphql_verdict_laws.specs.Kinds.{is_valid, refuses_schema}
use Rattle.graphql_verdict_laws.specs.Limits.{HasNoLimit, ReadsWithoutLimit}

module _ (bounds : Bounds) (sources : List SourceText) (source : SourceText) where
  -- the schema is accepted
  record Accepts (v : Verdict) : Type 0 where
    looks_on : refuses_schema v ≡ false
    accepted : Schema
    reads : ReadsSchema bounds sources (reading.Accepted accepted)

  -- it is not
  record Refuses (v : Verdict) : Type 0 where
    stops : refuses_schema v ≡ true
    answer : SchemaReading
    reads : ReadsSchema bounds sources answer
    no_limit : ReadsWithoutLimit answer
    not_accepted : (s : Schema) → answer ≡ reading.Accepted s → ⊥

  stage : (v : Verdict) → Validates bounds sources source v → HasNoLimit v → Accepts v ⊎ Refuses v
  stage v (schema_is_rejected {reports = reports} reads) no_limit = inr (record {
    stops = refl;
    answer = reading.Rejected reports;
    reads = reads;
    no_limit = no_limit;
    not_accepted = λ s e. let no : ⊥ = cc in no;
  })
  stage v (lacks_introspection reads) no_limit = inr (record {
    stops = refl;
    answer = reading.LacksIntrospection;
    reads = reads;
    no_limit = tt;
    not_accepted = λ s e. let no : ⊥ = cc in no;
  })
  stage v (schema_is_read accepted reads (holds valid)) no_limit = inl (record { looks_on = refl; accepted = accepted; reads = reads })
  stage v (schema_is_read accepted reads (rejected wrong)) no_limit = inl (record { looks_on = refl; accepted = accepted; reads = reads })

  apart : (v w : Verdict) → Accepts v → Refuses w → ⊥
  apart v w a r = let other = one_reading bounds sources a.accepted r.answer a.reads r.reads r.no_limit in r.not_accepted other.0 other.1

  refuse_alike : (v w : Verdict) → Accepts v ⊎ Refuses v → Accepts w ⊎ Refuses w → refuses_schema v ≡ refuses_schema w
  refuse_alike v w (inl a) (inl b) = a.looks_on ∙ sym b.looks_on
  refuse_alike v w (inr a) (inr b) = a.stops ∙ sym b.stops
  refuse_alike v w (inl a) (inr b) = absurd (apart v w a b)
  refuse_alike v w (inr a) (inl b) = absurd (apart w v b a)

  valid_alike : (v w : Verdict) → (v ≡ Valid → w ≡ Valid) → (w ≡ Valid → v ≡ Valid) → is_valid v ≡ is_valid w
  valid_alike Valid w to from = ap is_valid (sym (to refl))
  valid_alike v Valid to from = ap is_valid (from refl)
  valid_alike (SchemaRejected x) (SchemaRejected y) to from = refl
  valid_alike (SchemaRejected x) LacksIntrospection to from = refl
  valid_alike (SchemaRejected x) (DocumentRejected y) to from = refl
  valid_alike LacksIntrospection (SchemaRejected y) to from = refl
  valid_alike LacksIntrospection LacksIntrospection to from = refl
  valid_alike LacksIntrospection (DocumentRejected y) to from = refl
  valid_alike (DocumentRejected x) (SchemaRejected y) to from = refl
  valid_alike (DocumentRejected x) LacksIntrospection to from = refl
  valid_alike (DocumentRejected x) (DocumentRejected y) to from = refl

  pub one_kind : counted_bytes (length source.text.now) ≤ most_reached bounds (length source.text.now) → (v w : Verdict) →
      Validates bounds sources source v → Validates bounds sources source w → HasNoLimit v → HasNoLimit w →
      (is_valid v ≡ is_valid w) × (refuses_schema v ≡ refuses_schema w)
  one_kind enough v w first second no_limit none = (
    valid_alike v w
        (λ e. one_verdict bounds sources source enough w (subst (Validates bounds sources source) e first) second none)
        (λ e. one_verdict bounds sources source enough v (subst (Validates bounds sources source) e second) first no_limit),
    refuse_alike v w (stage v first no_limit) (stage w second none),
  )
