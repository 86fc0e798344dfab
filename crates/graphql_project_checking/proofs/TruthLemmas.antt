-- What is true of further reports, from one call to the next.
use Rattle.std.proofs.Common.{◌≡◌, ◌∙◌, ℕ, suc, ◌<◌, List, [], ◌∷◌, ◌++◌, Ok, Err, Result, arith, get_or, length, ap, sym, subst}
use Rattle.std.specs.Prelude.{◌≢◌, All, Any, Contains, MatchResult, OnErr, OnOk, Vec, true, false, Bool, ◌==◌}
use Rattle.std.specs.Vec.{vec_len}
use Rattle.std.specs.declared.alloc.Global.{Global}
use Rattle.std.proofs.lemmas.List.{append_assoc, append-nil}
use Rattle.std.proofs.lemmas.List.Elements.{All-append, All-cons, All-contains, All-nil, All-weaker}
use Rattle.graphql_building_reports.specs.Checks.{reports_of}
use Rattle.graphql_building_reports.specs.declared.lists.BuildingReport.{BuildingReport}
use Rattle.graphql_diagnostics.specs.Diagnostics.{entries}
use Rattle.graphql_diagnostics.specs.Reports.{KeepsReports, Reports as Reporting, ReportsWithin}
use Rattle.graphql_diagnostics.specs.declared.lists.DiagnosticEntry.{DiagnosticEntry}
use Rattle.graphql_frontend.specs.declared.reports.Reports.{Reports}
use Rattle.graphql_frontend.specs.declared.reports.Reports.TheVariants.{Building, DocumentRules, FirstBuilding, FirstDocumentRules}
use Rattle.graphql_frontend.specs.InputFieldRepetition.{InputFieldRepetition}
use Rattle.graphql_project_checking.specs.Truth.{AreOfBuilding, AreOfInputFields, AreOfRules}

-- ==== further reports

module _ {X : Type 0} where
  pub adds_nothing : (P : X → Type 0) (old : List X) → KeepsReports P old old
  adds_nothing P old = record { added = []; appended = sym (append-nil old); each = All-nil P }

  pub adds_one : (P : X → Type 0) (old new : List X) (x : X) → new ≡ old ++ x ∷ [] → P x → KeepsReports P old new
  adds_one P old new x grown p = record { added = x ∷ []; appended = grown; each = All-cons P x [] p (All-nil P) }

  pub adds_then : (P : X → Type 0) (old mid new : List X) → KeepsReports P old mid → KeepsReports P mid new → KeepsReports P old new
  adds_then P old mid new a b = record {
    added = a.added ++ b.added;
    appended = b.appended ∙ ap (λ l. l ++ b.added) a.appended ∙ append_assoc old a.added b.added;
    each = All-append P a.added b.added a.each b.each;
  }

  pub adds_so : (P Q : X → Type 0) (old new : List X) → ((x : X) → P x → Q x) → KeepsReports P old new → KeepsReports Q old new
  adds_so P Q old new f a = record { added = a.added; appended = a.appended; each = All-weaker P Q f a.added a.each }

  pub all_added : (P : X → Type 0) (old new : List X) → KeepsReports P old new → old ≡ [] → All P new
  all_added P old new a none = subst (All P) (sym (a.appended ∙ ap (λ l. l ++ a.added) none)) a.each

  -- what a check reports is true, whether it answers or not
  pub each_checked : {T E : Type 0} (r : Result T E) (H : Type 0) (Q : X → Type 0) (old new : List X) →
      MatchResult r (λ _. Reporting H Q old new) (λ _. KeepsReports Q old new) → old ≡ [] → All Q new
  each_checked (Ok x) H Q old new checks none = subst (All Q) (sym (checks.appended ∙ ap (λ l. l ++ checks.added) none)) checks.each
  each_checked (Err e) H Q old new checks none = all_added Q old new checks none

  pub each_within : {T E : Type 0} (r : Result T E) (L : X → Type 0) (H : Type 0) (Q : X → Type 0) (old new : List X) →
      MatchResult r (λ _. ReportsWithin L H Q old new) (λ _. KeepsReports Q old new) → old ≡ [] → All Q new
  each_within (Ok x) L H Q old new checks none = subst (All Q) (sym (checks.appended ∙ ap (λ l. l ++ checks.added) none)) checks.each
  each_within (Err e) L H Q old new checks none = all_added Q old new checks none

  -- a push adds what is true, or nothing
  pub pushed : {T E : Type 0} (r : Result T E) (Q : X → Type 0) (old new : List X) (x : X) → OnOk r (new ≡ old ++ x ∷ []) → OnErr r (new ≡ old) → Q x →
      KeepsReports Q old new
  pushed (Ok y) Q old new x ok err q = adds_one Q old new x ok q
  pushed (Err e) Q old new x ok err q = subst (KeepsReports Q old) (sym err) (adds_nothing Q old)

  pub some_items : (v : Vec X Global) (answer : Bool) → answer ≡ (vec_len v == 0) → answer ≡ false → v.items ≢ []
  some_items v answer is other none =
      let zero : vec_len v ≡ 0 = v.ok.0 ∙ ap length none in
      let both : false ≡ true = sym other ∙ is ∙ ap (λ n. n == 0) zero in
      let h : ⊥ = cc in
      h

  -- the one at an index
  pub stands_at : (xs : List X) (i : ℕ) (x : X) → i < length xs → x ≡ get_or xs i x → Contains xs x
  stands_at xs i x within is = (i, within, sym is)

  -- one of a list that begins with one more
  pub any_behind : (P : X → Type 0) (x : X) (xs : List X) → Any P xs → Any P (x ∷ xs)
  any_behind P x xs (k, y, within, is, p) = (suc k, y, omega (arith, within), is, p)

  pub any_among : (P : X → Type 0) (xs ys : List X) → All (Contains ys) xs → Any P xs → Any P ys
  any_among P xs ys all (k, y, within, is, p) =
      let c = All-contains (Contains ys) xs y all (k, within, is) in
      (c.0, y, c.1, c.2, p)

-- ==== what a list has

pub building_so : (P Q : BuildingReport → Type 0) → ((r : BuildingReport) → P r → Q r) → (x : Reports) → AreOfBuilding P x → AreOfBuilding Q x
building_so P Q f (Building list) are = (are.0, All-weaker P Q f (reports_of list) are.1)
building_so P Q f (FirstBuilding list) are = (are.0, All-weaker P Q f (reports_of list) are.1)
building_so P Q f _ are = absurd are

pub rules_so : (P Q : DiagnosticEntry → Type 0) → ((e : DiagnosticEntry) → P e → Q e) → (x : Reports) → AreOfRules P x → AreOfRules Q x
rules_so P Q f (DocumentRules reports) are = (are.0, All-weaker P Q f (entries reports.rules) are.1, are.2, are.3, are.4)
rules_so P Q f (FirstDocumentRules list) are = (are.0, All-weaker P Q f (entries list) are.1)
rules_so P Q f _ are = absurd are

pub fields_so : (P Q : InputFieldRepetition → Type 0) → ((r : InputFieldRepetition) → P r → Q r) → (x : Reports) → AreOfInputFields P x → AreOfInputFields Q x
fields_so P Q f (DocumentRules reports) are = (are.0, are.1, are.2, All-weaker P Q f reports.input_fields.items are.3, are.4)
fields_so P Q f _ are = absurd are

module _ (old new : List Reports) where
  -- what is true of each report of a list is true of what is added of it
  pub of_building_list : (Q : BuildingReport → Type 0) (list : List BuildingReport) → All Q list → KeepsReports (AreOfBuilding (Contains list)) old new →
      KeepsReports (AreOfBuilding Q) old new
  of_building_list Q list all adds =
      adds_so (AreOfBuilding (Contains list)) (AreOfBuilding Q) old new (building_so (Contains list) Q (λ r c. All-contains Q list r all c)) adds

  pub of_rule_list : (Q : DiagnosticEntry → Type 0) (list : List DiagnosticEntry) → All Q list → KeepsReports (AreOfRules (Contains list)) old new →
      KeepsReports (AreOfRules Q) old new
  of_rule_list Q list all adds =
      adds_so (AreOfRules (Contains list)) (AreOfRules Q) old new (rules_so (Contains list) Q (λ e c. All-contains Q list e all c)) adds

  pub of_field_list : (Q : InputFieldRepetition → Type 0) (list : List InputFieldRepetition) → All Q list → KeepsReports (AreOfInputFields (Contains list)) old new →
      KeepsReports (AreOfInputFields Q) old new
  of_field_list Q list all adds =
      adds_so (AreOfInputFields (Contains list)) (AreOfInputFields Q) old new (fields_so (Contains list) Q (λ r c. All-contains Q list r all c)) adds
