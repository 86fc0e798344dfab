-- What is left of the texts of a schema.
use Rattle.std.proofs.Common.{◌≡◌, ◌∙◌, ℕ, ◌+◌, ◌<◌, List, [], ◌∷◌, ◌++◌, None, Option, Some, ap, append-nil, append_assoc, arith, get_or, inl, inr, length, refl, sym, subst, take}
use Rattle.std.specs.Prelude.{◌⊎◌, All, Contains, IfSome}
use Rattle.std.proofs.lemmas.List.Elements.{All-append, All-cons, All-nil}
use Rattle.std.specs.List.{AllZip}
use Rattle.std.specs.String.{string_bytes}
use Rattle.graphql_blanks.specs.Blanks.{part_text}
use Rattle.graphql_documents.proofs.ListLemmas.{more_is}
use Rattle.graphql_frontend.specs.declared.texts.SourceText.{SourceText}
use Rattle.graphql_frontend.specs.Schemas.{schema_rules}
use Rattle.graphql_frontend.specs.Texts.{IsErrorOf}
use Rattle.graphql_frontend.specs.declared.reports.Reports.TheVariants.{Building, DocumentRules, FirstBuilding, FirstDocumentRules, FirstSchemaRules, Nesting, Reach, SchemaRules, Syntax, Work}
use Rattle.graphql_frontend.specs.declared.reports.SchemaReports.{SchemaReports}
use Rattle.graphql_frontend.specs.declared.reports.Reports.{Reports}
use Rattle.graphql_frontend.specs.declared.texts.SyntaxReport.{SyntaxReport}
use Rattle.graphql_kept_projects.specs.Documents.{IsAllOrPart, IsTextOrPart, is_part}
use Rattle.graphql_kept_projects.specs.Left.{IsLeftOf, IsTextLeft}
use Rattle.graphql_kept_projects.specs.Schemas.{AreCertainOfSome, AreMadeOf, AreSourcesOf, AreTextsLeft, AreTrueOfLeftSchema, IsErrorOfPart, IsInDoubt, RejectsLeft, building_rules, next_is_left_out, next_is_made, none}
use Rattle.graphql_kept_reports.specs.Reports.{KeepsReports}
use Rattle.graphql_kept_reports.specs.BuildingRule.{BuildingRule}
use Rattle.graphql_kept_reports.specs.SchemaCuts.{AreDoubtsOf, rules_of}
use Rattle.graphql_kept_reports.specs.declared.BuildingReportList.{BuildingReportList}
use Rattle.graphql_kept_reports.specs.declared.schema_doubts.SchemaDoubts.{SchemaDoubts}
use Rattle.graphql_parser.specs.declared.bounds.Bounds.{Bounds}
use Rattle.graphql_kept_projects.proofs.LeftLemmas.{refuted}
use Rattle.graphql_project_checking.proofs.TruthLemmas.{adds_so, any_among}
use Rattle.graphql_text_parts.specs.Lexical.{AreTokens}
use Rattle.graphql_kept_projects.specs.declared.kept.LeftText.{LeftText}

module _ {A B : Type 0} (L : A → Type 0) (R : A → B → Type 0) where
  -- one more is made
  pub made_more : {xs : List A} {ys : List B} (x : A) (y : B) → AreMadeOf L R xs ys → R x y → AreMadeOf L R (xs ++ x ∷ []) (ys ++ y ∷ [])
  made_more x y none r = next_is_made r none
  made_more x y (next_is_made q rest) r = next_is_made q (made_more x y rest r)
  made_more x y (next_is_left_out l rest) r = next_is_left_out l (made_more x y rest r)

  -- one more is left out
  pub left_out_more : {xs : List A} {ys : List B} (x : A) → AreMadeOf L R xs ys → L x → AreMadeOf L R (xs ++ x ∷ []) ys
  left_out_more x none l = next_is_left_out l none
  left_out_more x (next_is_made q rest) l = next_is_made q (left_out_more x rest l)
  left_out_more x (next_is_left_out k rest) l = next_is_left_out k (left_out_more x rest l)

  pub made_take : (xs : List A) (ys ys' : List B) (i : ℕ) (x : A) (y : B) → i < length xs → x ≡ get_or xs i x → ys' ≡ ys ++ y ∷ [] →
      AreMadeOf L R (take i xs) ys → R x y → AreMadeOf L R (take (i + 1) xs) ys'
  made_take xs ys ys' i x y within item grown made r =
      subst (λ l. AreMadeOf L R l ys') (sym (more_is xs i x within item)) (subst (AreMadeOf L R (take i xs ++ x ∷ [])) (sym grown) (made_more x y made r))

  pub left_out_take : (xs : List A) (ys : List B) (i : ℕ) (x : A) → i < length xs → x ≡ get_or xs i x → AreMadeOf L R (take i xs) ys → L x →
      AreMadeOf L R (take (i + 1) xs) ys
  left_out_take xs ys i x within item made l = subst (λ l. AreMadeOf L R l ys) (sym (more_is xs i x within item)) (left_out_more x made l)

-- what is left, as texts, is left of the texts
pub texts_left : (read : List SourceText) (lefts : List LeftText) (sources : List SourceText) → AllZip IsTextLeft read lefts → AreSourcesOf lefts sources →
    AreTextsLeft read sources
texts_left [] [] [] zip none = none
texts_left [] [] (r ∷ rs) zip made = elim made [ ]
texts_left [] (l ∷ ls) sources zip made = absurd zip
texts_left (s ∷ ss) [] sources zip made = absurd zip
texts_left (s ∷ ss) (l ∷ ls) (r ∷ rs) zip (next_is_made same rest) =
    next_is_made (same.0 ∙ zip.0.same_file, subst (IsLeftOf s.text.now) (sym same.1) zip.0.is_left) (texts_left ss ls rs zip.1 rest)
texts_left (s ∷ ss) (l ∷ ls) sources zip (next_is_left_out no_token rest) =
    next_is_left_out (record { left = string_bytes l.text; is_left = zip.0.is_left; no_token = no_token }) (texts_left ss ls sources zip.1 rest)

-- what is certain of what is left is true of it
pub adds_certain : (bounds : Bounds) (whole : List SourceText) (first : List BuildingRule) (doubts : SchemaDoubts) (reports : Option Reports) (old new : List Reports) →
    IsInDoubt first doubts → IfSome reports (RejectsLeft bounds whole) → KeepsReports (AreCertainOfSome doubts reports) old new →
    KeepsReports (AreTrueOfLeftSchema bounds whole first) old new
adds_certain bounds whole first doubts reports old new in_doubt rejects =
    adds_so (AreCertainOfSome doubts reports) (AreTrueOfLeftSchema bounds whole first) old new
    (λ r (all, is, certain). record {
      all = all;
      rejects = subst (λ (o : Option Reports). IfSome o (RejectsLeft bounds whole)) is rejects;
      doubts = doubts;
      in_doubt = in_doubt;
      certain = certain;
    })

-- the rules of reports on building
pub rules_in_building : (reports : Reports) (list : BuildingReportList) → reports ≡ Building list → rules_of list ≡ building_rules reports
rules_in_building reports list is = ap building_rules (sym is)

-- what the first rules say is in doubt, and nothing else yet
pub first_in_doubt : (first : List BuildingRule) (doubts : SchemaDoubts) → AreDoubtsOf first doubts → IsInDoubt first doubts
first_in_doubt first doubts are = ([], subst (λ l. AreDoubtsOf l doubts) (sym (append-nil first)) are)

-- more is in doubt
pub in_doubt_more : (first : List BuildingRule) (old new : SchemaDoubts) (more : List BuildingRule) → IsInDoubt first old →
    ((found : List BuildingRule) → AreDoubtsOf found old → AreDoubtsOf (found ++ more) new) → IsInDoubt first new
in_doubt_more first old new more (later, are) adds = (later ++ more, subst (λ l. AreDoubtsOf l new) (append_assoc first later more) (adds (first ++ later) are))

-- an error of a part of one of the texts
pub part_among : (bounds : Bounds) (whole : List SourceText) (source : SourceText) → Contains whole source → (e : SyntaxReport) →
    IsErrorOfPart bounds (source ∷ []) e → IsErrorOfPart bounds whole e
part_among bounds whole source among e of = record {
  part = of.part;
  is_part = any_among (IsTextOrPart of.part) (source ∷ []) whole
      (All-cons (Contains whole) source [] among (All-nil (Contains whole))) of.is_part;
  is_error = of.is_error;
}

-- all still are so
pub all_kept : {X : Type 0} (P : X → Type 0) (old new : List X) → All P old → KeepsReports P old new → All P new
all_kept P old new all kept = subst (All P) (sym kept.appended) (All-append P old kept.added all kept.each)

-- the error of a part of a text is one of a part of one text
pub error_in_part : (bounds : Bounds) (source part : SourceText) (start end : ℕ) (report : SyntaxReport) → part.file_id ≡ source.file_id →
    part.text.now ≡ part_text source.text.now start end → IsErrorOf bounds part report → IsErrorOfPart bounds (source ∷ []) report
error_in_part bounds source part start end report same text is_error = record {
  part = part;
  is_part = (0, source, omega arith, refl, (same, subst (IsAllOrPart source.text.now) (sym text) (is_part start end)));
  is_error = is_error;
}

-- the list with these reports on rules
pub schema_rules_in : (x : Reports) (reports : SchemaReports) → Some reports ≡ schema_rules x → x ≡ SchemaRules reports
schema_rules_in (Syntax e) reports is = absurd (refuted is)
schema_rules_in (Building l) reports is = absurd (refuted is)
schema_rules_in (FirstBuilding l) reports is = absurd (refuted is)
schema_rules_in (Nesting r) reports is = absurd (refuted is)
schema_rules_in (Reach r) reports is = absurd (refuted is)
schema_rules_in (Work r) reports is = absurd (refuted is)
schema_rules_in (SchemaRules r) reports is = cc
schema_rules_in (FirstSchemaRules r) reports is = absurd (refuted is)
schema_rules_in (DocumentRules r) reports is = absurd (refuted is)
schema_rules_in (FirstDocumentRules l) reports is = absurd (refuted is)

-- one more text is left, or nothing of it
pub source_is_made : (before : List LeftText) (old new : List SourceText) (left : LeftText) (source : SourceText) → AreSourcesOf before old → new ≡ old ++ source ∷ [] →
    source.file_id ≡ left.file_id → source.text.now ≡ string_bytes left.text → AreSourcesOf (before ++ left ∷ []) new
source_is_made before old new left source made grown same text = subst (AreSourcesOf (before ++ left ∷ [])) (sym grown) (made_more _ _ left source made (same, text))

pub source_is_left_out : (before : List LeftText) (sources : List SourceText) (left : LeftText) → AreSourcesOf before sources → {text : List ℕ} →
    text ≡ string_bytes left.text → AreTokens text [] → AreSourcesOf (before ++ left ∷ []) sources
source_is_left_out before sources left made is no_token = left_out_more _ _ left made (subst (λ t. AreTokens t []) is no_token)

-- errors of parts of one of the texts
pub errors_among : (bounds : Bounds) (whole : List SourceText) (source : SourceText) (old new : List SyntaxReport) → Contains whole source →
    KeepsReports (IsErrorOfPart bounds (source ∷ [])) old new → KeepsReports (IsErrorOfPart bounds whole) old new
errors_among bounds whole source old new among = adds_so (IsErrorOfPart bounds (source ∷ [])) (IsErrorOfPart bounds whole) old new (part_among bounds whole source among)
