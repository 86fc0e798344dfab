-- Reports that are found, joined with what shows them, and shown with their notes.
use Rattle.std.proofs.Common.{◌≡◌, ◌∙◌, ◌⊎◌, ◌<◌, ◌≤◌, ◌+◌, ◌-◌, ℕ, List, [], ◌∷◌, ◌++◌, All, Any, Contains, Less, Option, ap, append_assoc, append-nil, arith, flat_map, get_or, length, map, refl, sym, subst, take, drop}
use Rattle.std.specs.List.{AllByRecursion, AllZip}
use Rattle.std.specs.List.Sorted.{IsStrictlySortedBy}
use Rattle.std.proofs.lemmas.List.{drop_more, get_or-map, length-map, map_push, take-map, take_all, take_more}
use Rattle.std.proofs.lemmas.List.Elements.{All-cons, All-contains, All-map, All-nil, All-weaker}
use Rattle.std.proofs.lemmas.Slice.Zip.{AllZip-long}
use Rattle.graphql_documents.proofs.ListLemmas.{stands_behind, stands_first}
use Rattle.graphql_documents.specs.declared.documents.schemas.Schema.{Schema}
use Rattle.graphql_shown_reports.specs.Reports.{Reports}
use Rattle.graphql_shown_reports.specs.SourceText.{SourceText}
use Rattle.graphql_parser.specs.declared.bounds.Bounds.{Bounds}
use Rattle.graphql_shown_reports.specs.Shown.{Report, Shows, listed}
use Rattle.graphql_shown_reports.specs.declared.shown.ShownReport.{ShownReport}
use Rattle.graphql_findings.specs.Findings.{AreShown, Finds, IsFindingOf, IsAmongShown, IsFinding, IsFoundAs, IsJoined, IsOneOf, Shown, shown_cmp, shown_of}
use Rattle.graphql_findings.specs.Order.{AreDistinctOf, IsAmong, IsSameReport, found_cmp}
use Rattle.graphql_findings.specs.Singles.{report_of}
use Rattle.graphql_findings.specs.declared.findings.Findings.{Findings}
use Rattle.graphql_findings.specs.declared.order.Found.{Found}
use Rattle.graphql_findings.specs.declared.singles.Single.{Single}

-- before the first one nothing is joined
pub none_joined : (old : List Found) → IsJoined [] [] old old
none_joined old = record { more = []; grown = sym (append-nil old); reports_are = refl; singles_are = refl }

-- the first i are joined, and the next
pub joined_more : (shown : List ShownReport) (singles : List Single) (i : ℕ) (s : ShownReport) (x : Single) (f : Found) (old mid new : List Found) →
    i < length shown → i < length singles → s ≡ get_or shown i s → x ≡ get_or singles i x → f.report ≡ s → f.single ≡ x →
    IsJoined (take i shown) (take i singles) old mid → new ≡ mid ++ f ∷ [] → IsJoined (take (i + 1) shown) (take (i + 1) singles) old new
joined_more shown singles i s x f old mid new within fits is at of_s of_x j pushed = record {
  more = j.more ++ f ∷ [];
  grown = pushed ∙ ap (λ l. l ++ f ∷ []) j.grown ∙ append_assoc old j.more (f ∷ []);
  reports_are = rw (take_more shown i s within, ← is)
      (map_push (λ (f : Found). f.report) j.more f ∙ ap (λ l. l ++ f.report ∷ []) j.reports_are ∙ ap (λ r. take i shown ++ r ∷ []) of_s);
  singles_are = rw (take_more singles i x fits, ← at)
      (map_push (λ (f : Found). f.single) j.more f ∙ ap (λ l. l ++ f.single ∷ []) j.singles_are ∙ ap (λ r. take i singles ++ r ∷ []) of_x);
}

abbrev first_of : {X : Type 0} → X → List X → X
first_of d [] = d
first_of d (x ∷ xs) = x

abbrev rest_of : {X : Type 0} → List X → List X
rest_of [] = []
rest_of (x ∷ xs) = xs

-- an iterator that has the i-th and those behind it left gives the i-th, and has those behind it left; then one more is joined
pub join_step : (shown : List ShownReport) (singles : List Single) (i n m : ℕ) (s : ShownReport) (x : Single) (f : Found) (left after : List ShownReport) (old mid new : List Found) →
    length shown ≡ length singles → i < length singles → x ≡ get_or singles i x →
    (left ≡ drop i shown) × (n + i ≡ length singles) × IsJoined (take i shown) (take i singles) old mid →
    left ≡ s ∷ after → m + 1 ≡ n → f.report ≡ s → f.single ≡ x → new ≡ mid ++ f ∷ [] →
    (after ≡ drop (i + 1) shown) × (m + (i + 1) ≡ length singles) × IsJoined (take (i + 1) shown) (take (i + 1) singles) old new
join_step shown singles i n m s x f left after old mid new long fits at (are, count, j) gives falls of_s of_x pushed =
    let within : i < length shown = omega (arith, long, fits) in
    let split : s ∷ after ≡ get_or shown i s ∷ drop (i + 1) shown = sym gives ∙ are ∙ drop_more shown i s within in
    (ap rest_of split, omega (arith, count, falls), joined_more shown singles i s x f old mid new within fits (ap (first_of s) split) at of_s of_x j pushed)

module _ (sources : List SourceText) (bounds : Bounds) where
  -- what is joined shows the reports
  zipped : (reports : List Report) (shown : List ShownReport) (singles : List Single) (more : List Found) → AllZip (Shows sources bounds) reports shown →
      map report_of singles ≡ reports → map (λ (f : Found). f.report) more ≡ shown → map (λ (f : Found). f.single) more ≡ singles → AllZip (IsFoundAs sources bounds) reports more
  zipped reports shown singles more all are parts ones =
      let same : reports ≡ map report_of (map (λ (f : Found). f.single) more) = sym (ap (map report_of) ones ∙ are) in
      subst (λ l. AllZip (IsFoundAs sources bounds) l more) (sym same) (each more (subst (λ l. AllZip (Shows sources bounds) l (map (λ (f : Found). f.report) more)) same (subst (AllZip (Shows sources bounds) reports) (sym parts) all)))
    where
      each : (more : List Found) → AllZip (Shows sources bounds) (map report_of (map (λ (f : Found). f.single) more)) (map (λ (f : Found). f.report) more) →
          AllZip (IsFoundAs sources bounds) (map report_of (map (λ (f : Found). f.single) more)) more
      each [] all = tt
      each (f ∷ fs) all = (record { is_of = refl; is_shown = all.0 }, each fs all.1)

  -- as many are shown as there are single reports
  pub as_many_shown : (reports : List Report) (shown : List ShownReport) (singles : List Single) (n : ℕ) → n ≡ length singles → map report_of singles ≡ reports →
      AllZip (Shows sources bounds) (take n reports) shown → length shown ≡ length singles
  as_many_shown reports shown singles n is are all =
      let long : length reports ≡ length singles = sym (ap length are) ∙ length-map singles report_of in
      AllZip-long (Shows sources bounds) (take n reports) shown all ∙ ap length (take_all n reports (omega (arith, long, is))) ∙ long

  pub found_of_joined : (reports : List Report) (shown : List ShownReport) (singles : List Single) (n : ℕ) (old new : List Found) → n ≡ length singles → map report_of singles ≡ reports →
      AllZip (Shows sources bounds) (take n reports) shown → IsJoined shown singles old new → Finds sources bounds reports old new
  found_of_joined reports shown singles n old new is are all j =
      let long : length reports ≡ length singles = sym (ap length are) ∙ length-map singles report_of in
      let whole : take n reports ≡ reports = take_all n reports (omega (arith, long, is)) in
      (j.more, j.grown, zipped reports shown singles j.more (subst (λ l. AllZip (Shows sources bounds) l shown) whole all) are j.reports_are j.singles_are)

  zip_appended : {Y Z : Type 0} (R : Y → Z → Type 0) (xs ys : List Y) (us vs : List Z) → AllZip R xs us → AllZip R ys vs → AllZip R (xs ++ ys) (us ++ vs)
  zip_appended R [] ys [] vs all more = more
  zip_appended R [] ys (u ∷ us) vs all more = absurd all
  zip_appended R (x ∷ xs) ys [] vs all more = absurd all
  zip_appended R (x ∷ xs) ys (u ∷ us) vs all more = (all.0, zip_appended R xs ys us vs all.1 more)

  flat_push : (lists : List Reports) (r : Reports) → flat_map listed (lists ++ r ∷ []) ≡ flat_map listed lists ++ listed r
  flat_push [] r = append-nil (listed r)
  flat_push (l ∷ lists) r = ap (λ k. listed l ++ k) (flat_push lists r) ∙ sym (append_assoc (listed l) (flat_map listed lists) (listed r))

  -- the reports of the first i lists are found, and those of the next
  pub found_more : (lists : List Reports) (i : ℕ) (r : Reports) (mid new : List Found) → i < length lists → r ≡ get_or lists i r →
      AllZip (IsFoundAs sources bounds) (flat_map listed (take i lists)) mid → Finds sources bounds (listed r) mid new →
      AllZip (IsFoundAs sources bounds) (flat_map listed (take (i + 1) lists)) new
  found_more lists i r mid new within is all (more, grown, these) =
      rw (take_more lists i r within, ← is, flat_push (take i lists) r)
      (subst (AllZip (IsFoundAs sources bounds) (flat_map listed (take i lists) ++ listed r)) (sym grown) (zip_appended (IsFoundAs sources bounds) (flat_map listed (take i lists)) (listed r) mid more all these))

  -- some of these meet this one
  abbrev Meets : {Y Z : Type 0} → (Y → Z → Type 0) → List Y → Z → Type 0
  Meets {Y} R ys z = (y : Y) × Contains ys y × R y z

  -- of two lists that go together, each of the second has a partner in the first
  partner : {Y Z : Type 0} (R : Y → Z → Type 0) (ys : List Y) (zs : List Z) → AllZip R ys zs → All (Meets R ys) zs
  partner R [] [] all = All-nil (Meets R [])
  partner R [] (z ∷ zs) all = absurd all
  partner R (y ∷ ys) [] all = absurd all
  partner R (y ∷ ys) (z ∷ zs) all =
      All-cons (Meets R (y ∷ ys)) z zs (y, stands_first y ys, all.0) (All-weaker (Meets R ys) (Meets R (y ∷ ys)) (λ w h. (h.0, stands_behind y ys h.0 h.1, h.2)) zs (partner R ys zs all.1))

  turned : {Y Z : Type 0} (R : Y → Z → Type 0) (ys : List Y) (zs : List Z) → AllZip R ys zs → AllZip (λ z y. R y z) zs ys
  turned R [] [] all = tt
  turned R [] (z ∷ zs) all = absurd all
  turned R (y ∷ ys) [] all = absurd all
  turned R (y ∷ ys) (z ∷ zs) all = (all.0, turned R ys zs all.1)

  mapped_all : (P : Shown → Type 0) (xs : List Found) → AllByRecursion (λ f. P (shown_of f)) xs → AllByRecursion P (map shown_of xs)
  mapped_all P [] all = tt
  mapped_all P (x ∷ xs) all = (all.0, mapped_all P xs all.1)

  mapped_sorted : (xs : List Found) → IsStrictlySortedBy found_cmp xs → IsStrictlySortedBy shown_cmp (map shown_of xs)
  unfolding IsStrictlySortedBy
  mapped_sorted [] up = tt
  mapped_sorted (x ∷ xs) up = (mapped_all (λ s. shown_cmp (shown_of x) s ≡ Less) xs up.0, mapped_sorted xs up.1)

  zip_mapped : {X Y Z : Type 0} (f : X → Y) (R : Y → Z → Type 0) (xs : List X) (zs : List Z) → AllZip (λ x z. R (f x) z) xs zs → AllZip R (map f xs) zs
  zip_mapped f R [] [] all = tt
  zip_mapped f R [] (z ∷ zs) all = absurd all
  zip_mapped f R (x ∷ xs) [] all = absurd all
  zip_mapped f R (x ∷ xs) (z ∷ zs) all = (all.0, zip_mapped f R xs zs all.1)

  any_mapped : (own : ShownReport) (xs : List Found) → Any (λ (k : Found). IsSameReport own k.report) xs → Any (λ (s : Shown). IsSameReport own s.shown) (map shown_of xs)
  any_mapped own xs h = (h.0, shown_of h.1, omega (arith, h.2, length-map xs shown_of), get_or-map shown_of xs h.0 h.1 (shown_of h.1) h.2 ∙ ap shown_of h.3, h.4)

  pub shown_of_distinct : (schema : Option Schema) (reports : List Report) (most : ℕ) (found kept : List Found) (result : Findings) → AllZip (IsFoundAs sources bounds) reports found → AreDistinctOf found kept →
      AllZip (IsFindingOf schema sources bounds) (take most kept) result.shown.items → result.others ≡ length kept - most → AreShown schema sources bounds reports most result
  shown_of_distinct schema reports most found kept result all d noted counted = record {
    all = map shown_of kept;
    each = All-map (IsOneOf sources bounds reports) shown_of kept (All-weaker (Contains found) (λ f. IsOneOf sources bounds reports (shown_of f)) one kept d.each);
    every = All-weaker (Meets (λ f r. IsFoundAs sources bounds r f) found) (IsAmongShown sources bounds (map shown_of kept))
        (λ r h. (h.0.report, h.2.is_shown, any_mapped h.0.report kept (All-contains (IsAmong kept) found h.0 d.every h.1))) reports
        (partner (λ f r. IsFoundAs sources bounds r f) found reports (turned (IsFoundAs sources bounds) reports found all));
    ordered = mapped_sorted kept d.ordered;
    shown = rw (take-map shown_of most kept) (zip_mapped shown_of (IsFinding schema sources bounds) (take most kept) result.shown.items noted);
    others = rw (length-map kept shown_of) counted;
  } where
    one : (f : Found) → Contains found f → IsOneOf sources bounds reports (shown_of f)
    one f there =
        let h = All-contains (Meets (IsFoundAs sources bounds) reports) found f (partner (IsFoundAs sources bounds) reports found all) there in
        record {
          is_of = subst (Contains reports) (sym h.2.is_of) h.1;
          is_shown = subst (λ r. Shows sources bounds r f.report) (sym h.2.is_of) h.2.is_shown;
        }
