-- What is left of texts, step by step, and reports that are added.
use Rattle.std.proofs.Common.{◌≡◌, ◌∙◌, Bool, filter, not, refl, ℕ, ◌+◌, ◌<◌, List, [], ◌∷◌, ◌++◌, None, Option, Some, Ok, Err, Result, ap, get_or, length, sym, subst, take}
use Rattle.std.specs.List.{AllZip}
use Rattle.std.specs.Prelude.{◌⊎◌, All, Contains, IfSome, OnOk, String, flat_map}
use Rattle.std.specs.String.{string_bytes}
use Rattle.std.specs.declared.alloc.Global.{Global}
use Rattle.std.proofs.lemmas.List.Elements.{All-cons, All-contains, All-filter, All-nil, Contains-append_left}
use Rattle.graphql_documents.proofs.ListLemmas.{more_is, only_one}
use Rattle.graphql_frontend.specs.declared.texts.SourceText.{SourceText}
use Rattle.graphql_documents.specs.declared.documents.schemas.Schema.{Schema}
use Rattle.graphql_frontend.specs.Documents.{document_rules}
use Rattle.graphql_frontend.specs.declared.reports.DocumentReports.{DocumentReports}
use Rattle.graphql_frontend.specs.declared.reports.Reports.TheVariants.{Building, DocumentRules, FirstBuilding, FirstDocumentRules, FirstSchemaRules, Nesting, Reach, SchemaRules, Syntax, Work}
use Rattle.graphql_kept_projects.specs.Left.{AreFurther, AreKnownOfOne, AreTrueOfFragments, AreTrueOfLeft, AreTrueOfOne, IsLeftOf, IsLess, IsSourceLeft, IsTextLeft, all_is_left, of_fragments, of_left, rest_text, some_is_left}
use Rattle.graphql_kept_projects.specs.Rounds.{AddsKnown, is_doubtful_list}
use Rattle.graphql_kept_reports.specs.declared.doubts.Doubts.{Doubts}
use Rattle.graphql_kept_projects.specs.declared.kept.LeftText.{LeftText}
use Rattle.graphql_frontend.specs.declared.reports.Reports.{Reports}
use Rattle.graphql_parser.specs.declared.bounds.Bounds.{Bounds}
use Rattle.graphql_kept_reports.specs.Cuts.{IsKeptOf}
use Rattle.graphql_kept_reports.specs.Kept.{Kept}
use Rattle.graphql_kept_reports.specs.Reports.{KeepsReports}
use Rattle.graphql_kept_reports.specs.Unreached.{spreading}
use Rattle.graphql_project_checking.specs.Truth.{AreAllTrue, AreTrueOf}
use Rattle.graphql_project_checking.proofs.TruthLemmas.{adds_so, adds_then}

-- one pair more
pub zip_more : {A B : Type 0} (R : A → B → Type 0) (xs : List A) (ys : List B) (x : A) (y : B) → AllZip R xs ys → R x y → AllZip R (xs ++ x ∷ []) (ys ++ y ∷ [])
zip_more R [] [] x y zip r = (r, tt)
zip_more R [] (b ∷ ys) x y zip r = absurd zip
zip_more R (a ∷ xs) [] x y zip r = absurd zip
zip_more R (a ∷ xs) (b ∷ ys) x y zip r = (zip.0, zip_more R xs ys x y zip.1 r)

pub zip_take : {A B : Type 0} (R : A → B → Type 0) (xs : List A) (ys ys' : List B) (i : ℕ) (x : A) (y : B) → i < length xs → x ≡ get_or xs i x → ys' ≡ ys ++ y ∷ [] →
    AllZip R (take i xs) ys → R x y → AllZip R (take (i + 1) xs) ys'
zip_take R xs ys ys' i x y within item grown zip r =
    subst (λ l. AllZip R l ys') (sym (more_is xs i x within item)) (subst (AllZip R (take i xs ++ x ∷ [])) (sym grown) (zip_more R (take i xs) ys x y zip r))

-- what is left of what is left
pub left_of_left : {text left rest : List ℕ} → IsLeftOf text left → IsLeftOf left rest → IsLeftOf text rest
left_of_left first all_is_left = first
left_of_left first (some_is_left kept left is_kept is) = some_is_left kept (left_of_left first left) is_kept is

pub rest_is_left : (text rest : String Global) (kept : Option Kept) → IfSome kept (IsKeptOf (string_bytes text)) → rest ≡ rest_text text kept → IsLeftOf (string_bytes text) (string_bytes rest)
rest_is_left text rest None kept is = subst (λ (r : String Global). IsLeftOf (string_bytes text) (string_bytes r)) (sym is) all_is_left
rest_is_left text rest (Some it) kept is = some_is_left it all_is_left kept (ap string_bytes is)

pub zip_less : (read : List SourceText) (lefts rests : List LeftText) → AllZip IsTextLeft read lefts → AllZip IsLess lefts rests → AllZip IsTextLeft read rests
zip_less [] [] [] first rest = tt
zip_less [] [] (r ∷ rs) first rest = absurd rest
zip_less [] (l ∷ ls) rests first rest = absurd first
zip_less (s ∷ ss) [] rests first rest = absurd first
zip_less (s ∷ ss) (l ∷ ls) [] first rest = absurd rest
zip_less (s ∷ ss) (l ∷ ls) (r ∷ rs) first rest = (record { same_file = rest.0.0 ∙ first.0.same_file; is_left = left_of_left first.0.is_left rest.0.1 }, zip_less ss ls rs first.1 rest.1)

-- what is left, as texts
abbrev pub IsSourceOf : LeftText → SourceText → Type 0
IsSourceOf t s = (s.file_id ≡ t.file_id) × (s.text.now ≡ string_bytes t.text)

pub zip_sources : (read : List SourceText) (lefts : List LeftText) (sources : List SourceText) → AllZip IsTextLeft read lefts → AllZip IsSourceOf lefts sources → AllZip IsSourceLeft read sources
zip_sources [] [] [] first rest = tt
zip_sources [] [] (r ∷ rs) first rest = absurd rest
zip_sources [] (l ∷ ls) sources first rest = absurd first
zip_sources (s ∷ ss) [] sources first rest = absurd first
zip_sources (s ∷ ss) (l ∷ ls) [] first rest = absurd rest
zip_sources (s ∷ ss) (l ∷ ls) (r ∷ rs) first rest =
    ((rest.0.0 ∙ first.0.same_file, subst (IsLeftOf s.text.now) (sym rest.0.1) first.0.is_left), zip_sources ss ls rs first.1 rest.1)

-- one of two lists has it
abbrev pub InEither : {X : Type 0} → List X → List X → X → Type 0
InEither xs ys e = Contains xs e ⊎ Contains ys e

-- reports that are added
module _ {X : Type 0} where
  pub adds_one_on_ok : {T E : Type 0} (r : Result T E) (P : X → Type 0) (old new : List X) (x : X) → OnOk r (new ≡ old ++ x ∷ []) → P x → OnOk r (KeepsReports P old new)
  adds_one_on_ok (Ok y) P old new x grown p = record { added = x ∷ []; appended = grown; each = All-cons P x [] p (All-nil P) }
  adds_one_on_ok (Err e) P old new x grown p = tt

-- those that pass a test
pub adds_filtered : {X : Type 0} (P : X → Type 0) (test : X → Bool) (further old new : List X) → new ≡ old ++ filter test further → All P further → KeepsReports P old new
adds_filtered P test further old new grown all = record { added = filter test further; appended = grown; each = All-filter test P further all }

pub on_ok : {T E : Type 0} (r : Result T E) (P Q : Type 0) → (P → Q) → OnOk r P → OnOk r Q
on_ok (Ok x) P Q f p = f p
on_ok (Err e) P Q f p = tt

-- what is true of one of these texts
pub one_of_them : (bounds : Bounds) (read own rest : List SourceText) (source : SourceText) (i : ℕ) → read ≡ own ++ rest → i < length own → source ≡ get_or own i source →
    (old new : List Reports) → KeepsReports (AreTrueOfOne bounds (source ∷ [])) old new → KeepsReports (AreTrueOfOne bounds read) old new
one_of_them bounds read own rest source i both within is old new =
    adds_so (AreTrueOfOne bounds (source ∷ [])) (AreTrueOfOne bounds read) old new (λ r one. record {
      source = one.source;
      among = subst (λ s. Contains read s) (sym (only_one source one.source one.among)) (subst (λ l. Contains l source) (sym both) (Contains-append_left own rest source (i, within, sym is)));
      all = one.all;
      validated = one.validated;
      are = one.are;
    })

-- all of these texts is left
pub zip_all : (read : List SourceText) → AllZip IsSourceLeft read read
zip_all [] = tt
zip_all (s ∷ ss) = ((refl, all_is_left), zip_all ss)

-- what a round adds
pub adds_round : (bounds : Bounds) (schema : Schema) (read : List SourceText) (doubts : Doubts) (further old mid new : List Reports) →
    All (AreTrueOfLeft bounds schema read) further → KeepsReports (AreTrueOfFragments bounds schema read) old mid → AddsKnown doubts further mid new →
    KeepsReports (AreFurther bounds schema read) old new
adds_round bounds schema read doubts further old mid new all fragments known =
    let One = AreFurther bounds schema read in
    adds_then One old mid new (adds_so (AreTrueOfFragments bounds schema read) One old mid (λ r true. of_fragments true) fragments)
    (adds_so (AreTrueOfLeft bounds schema read) One mid new (λ r true. of_left true)
    (adds_filtered (AreTrueOfLeft bounds schema read) (λ r. not (is_doubtful_list doubts r)) further mid new known all))

pub refuted : {X : Type 0} {x : X} → Some x ≡ None → ⊥
refuted is = cc

-- the list with these reports on rules
pub rules_in : (x : Reports) (reports : DocumentReports) → Some reports ≡ document_rules x → x ≡ DocumentRules reports
rules_in (Syntax e) reports is = absurd (refuted is)
rules_in (Building l) reports is = absurd (refuted is)
rules_in (FirstBuilding l) reports is = absurd (refuted is)
rules_in (Nesting r) reports is = absurd (refuted is)
rules_in (Reach r) reports is = absurd (refuted is)
rules_in (Work r) reports is = absurd (refuted is)
rules_in (SchemaRules r) reports is = absurd (refuted is)
rules_in (FirstSchemaRules r) reports is = absurd (refuted is)
rules_in (DocumentRules r) reports is = cc
rules_in (FirstDocumentRules l) reports is = absurd (refuted is)

-- what a filter adds to nothing
pub filtered : {X : Type 0} (test : X → Bool) (xs items old new : List X) → old ≡ [] → items ≡ xs → new ≡ old ++ filter test items → new ≡ filter test xs
filtered test xs items old new none is grown = grown ∙ ap (λ l. l ++ filter test items) none ∙ ap (filter test) is

-- what is true of operations that are added is true of fragments
pub of_fragments_of : (bounds : Bounds) (schema : Schema) (read left : List SourceText) (added : SourceText) (names : List (List ℕ)) (doubts : Doubts) (lists old new : List Reports) →
    AllZip IsSourceLeft read left → added.text.now ≡ flat_map spreading names → AreAllTrue bounds schema (added ∷ []) left lists →
    KeepsReports (AreKnownOfOne doubts added.file_id lists) old new → KeepsReports (AreTrueOfFragments bounds schema read) old new
of_fragments_of bounds schema read left added names doubts lists old new zip text (known, each) adds =
    adds_so (AreKnownOfOne doubts added.file_id lists) (AreTrueOfFragments bounds schema read) old new
    (λ r (all, among, are). record {
      names = names;
      added = added;
      text_is = text;
      all = all;
      are_true = record {
        own = added ∷ [];
        lent = left;
        left = ((refl, all_is_left), zip);
        known = known;
        are = All-contains (AreTrueOf bounds schema (added ∷ []) left known) lists all each among;
      };
      doubts = doubts;
      are = are;
    }) adds
