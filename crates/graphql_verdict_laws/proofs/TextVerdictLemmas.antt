-- The texts of a schema and of a document have verdicts of one kind.
use Rattle.std.proofs.Common.{◌≡◌, ◌≤◌, List, length, sym, subst}
use Rattle.std.specs.Prelude.{ℕ}
use Rattle.graphql_frontend.specs.Documents.{counted_bytes, most_reached}
use Rattle.graphql_frontend.specs.Verdicts.{ValidatesTexts}
use Rattle.graphql_frontend.specs.declared.verdicts.Verdict.{Verdict}
use Rattle.graphql_parser.specs.declared.bounds.Bounds.{Bounds}
use Rattle.graphql_verdict_laws.proofs.KindLemmas.{one_kind}
use Rattle.graphql_verdict_laws.proofs.SameTextLemmas.{same_document_text, same_schema_texts, verdict_too}
use Rattle.graphql_verdict_laws.specs.Kinds.{is_valid, refuses_schema}
use Rattle.graphql_verdict_laws.specs.Limits.{HasNoLimit}

pub one_kind_of_texts : (bounds : Bounds) (schema document : List ℕ) → counted_bytes (length document) ≤ most_reached bounds (length document) →
    (v w : Verdict) → ValidatesTexts bounds schema document v → ValidatesTexts bounds schema document w → HasNoLimit v → HasNoLimit w →
    (is_valid v ≡ is_valid w) × (refuses_schema v ≡ refuses_schema w)
one_kind_of_texts bounds schema document enough v w a b =
    let schemas = same_schema_texts schema b.sources a.sources b.are_texts a.are_texts in
    let same = same_document_text document b.source a.source b.is_text a.is_text in
    let other = verdict_too bounds b.sources a.sources schemas b.source a.source same w b.validates in
    let enough_here : counted_bytes (length a.source.text.now) ≤ most_reached bounds (length a.source.text.now) =
    subst (λ t. counted_bytes (length t) ≤ most_reached bounds (length t)) (sym a.is_text.text_is) enough in
    one_kind bounds a.sources a.source enough_here v w a.validates other
