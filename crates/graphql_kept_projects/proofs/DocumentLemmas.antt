-- All reports of a document.
use Rattle.std.proofs.Common.{◌≡◌, ◌∙◌, List, [], ◌∷◌, ◌++◌, ap, arith, refl, subst, sym}
use Rattle.std.specs.Prelude.{All, Any, Contains}
use Rattle.std.specs.String.{string_bytes}
use Rattle.std.proofs.lemmas.List.{append_assoc}
use Rattle.std.proofs.lemmas.List.Elements.{All-append, All-cons, All-nil, All-weaker}
use Rattle.graphql_documents.proofs.ListLemmas.{each_standing, only_one}
use Rattle.graphql_documents.specs.declared.documents.schemas.Schema.{Schema}
use Rattle.graphql_frontend.specs.declared.reports.Reports.{Reports}
use Rattle.graphql_frontend.specs.declared.texts.SourceText.{SourceText}
use Rattle.graphql_kept_projects.specs.Documents.{AddsParts, AreFurtherOf, IsAllOrPart, AreWithFurther, IsOneOrPart, IsPartOf, IsPartOfOne, is_all, is_part}
use Rattle.graphql_kept_projects.specs.Left.{AreFurther, AreTrueOfLeft, of_left}
use Rattle.graphql_kept_projects.specs.declared.kept.LeftText.{LeftText}
use Rattle.graphql_kept_reports.specs.Reports.{KeepsReports}
use Rattle.graphql_parser.specs.declared.bounds.Bounds.{Bounds}
use Rattle.graphql_project_checking.proofs.TruthLemmas.{adds_so, adds_then}

-- each text is one of them
pub all_are_one : (sources : List SourceText) → All (IsOneOrPart sources) sources
all_are_one sources = each_standing (IsOneOrPart sources) sources (λ s (i, within, is). (i, s, within, is, (refl, is_all)))

-- what is true of them and of their parts
pub further_of_parts : (bounds : Bounds) (schema : Schema) (whole read : List SourceText) (old new : List Reports) → All (IsOneOrPart whole) read →
    KeepsReports (AreFurther bounds schema read) old new → KeepsReports (AreFurtherOf bounds schema whole) old new
further_of_parts bounds schema whole read old new each adds =
    adds_so (AreFurther bounds schema read) (AreFurtherOf bounds schema whole) old new (λ r are. record { read = read; parts = each; are = are }) adds

pub left_of_parts : (bounds : Bounds) (schema : Schema) (whole read : List SourceText) (old new : List Reports) → All (IsOneOrPart whole) read →
    KeepsReports (AreTrueOfLeft bounds schema read) old new → KeepsReports (AreFurtherOf bounds schema whole) old new
left_of_parts bounds schema whole read old new each adds =
    adds_so (AreTrueOfLeft bounds schema read) (AreFurtherOf bounds schema whole) old new (λ r are. record { read = read; parts = each; are = of_left are }) adds

-- the first list, and what was added
pub with_first : (first : Reports) (P : Reports → Type 0) (old new : List Reports) → old ≡ [] ++ first ∷ [] → KeepsReports P old new → AreWithFurther first P new
with_first first P old new is adds = (adds.added, adds.appended ∙ ap (λ l. l ++ adds.added) is, adds.each)

-- a part of one of these texts
part_among : (sources : List SourceText) (source : SourceText) (part : LeftText) → Contains sources source → IsPartOfOne (source ∷ []) part → IsPartOfOne sources part
part_among sources source part (i, within, is) (k, w, within', is', p) =
    (i, source, within, is, subst (IsPartOf part) (only_one source w (k, within', is')) p)

-- parts of one of these texts
pub parts_among : (sources : List SourceText) (source : SourceText) (old mid new : List LeftText) → Contains sources source → AddsParts sources old mid →
    AddsParts (source ∷ []) mid new → AddsParts sources old new
parts_among sources source old mid new among (more, grown, each) (more', grown', each') = (
  more ++ more',
  grown' ∙ ap (λ l. l ++ more') grown ∙ append_assoc old more more',
  All-append (IsPartOfOne sources) more more' each (All-weaker (IsPartOfOne (source ∷ [])) (IsPartOfOne sources) (λ t part. part_among sources source t among part) more' each'),
)

-- a text with a part behind it
pub more_parts : (whole : List SourceText) (part : LeftText) (source : SourceText) → source.file_id ≡ part.file_id → source.text.now ≡ string_bytes part.text →
    IsPartOfOne whole part → IsOneOrPart whole source
more_parts whole part source file text (k, w, within, is, (same, start, end, bytes)) =
    (k, w, within, is, (file ∙ same, subst (IsAllOrPart w.text.now) (sym (text ∙ bytes)) (is_part start end)))

-- one more part of a text
pub one_more_part : (source : SourceText) (old mid new : List LeftText) (part : LeftText) → AddsParts (source ∷ []) old mid → new ≡ mid ++ part ∷ [] →
    IsPartOf part source → AddsParts (source ∷ []) old new
one_more_part source old mid new part (more, grown, each) pushed is =
    let P = IsPartOfOne (source ∷ []) in (
      more ++ part ∷ [],
      pushed ∙ ap (λ l. l ++ part ∷ []) grown ∙ append_assoc old more (part ∷ []),
      All-append P more (part ∷ []) each (All-cons P part [] (0, source, omega arith, refl, is) (All-nil P)),
    )

-- parts that are added to none
pub parts_of_none : (sources : List SourceText) (old new : List LeftText) → old ≡ [] → AddsParts sources old new → All (IsPartOfOne sources) new
parts_of_none sources old new none (more, grown, each) = subst (All (IsPartOfOne sources)) (sym (grown ∙ ap (λ l. l ++ more) none)) each
