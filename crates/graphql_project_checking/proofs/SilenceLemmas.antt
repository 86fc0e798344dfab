-- What follows where nothing is reported.
use Rattle.std.proofs.Common.{rules, ap, refl, ◌≡◌, ◌∙◌, List, [], ◌∷◌, ◌++◌, Ok, Some, Err, Result, sym, subst}
use Rattle.std.specs.Prelude.{◌==◌, All, Bool, Vec, true, IfOk, IsOk, MatchResult, OnOk}
use Rattle.std.specs.Vec.{vec_len}
use Rattle.std.specs.declared.alloc.Global.{Global}
use Rattle.std.proofs.lemmas.List.{append-nil, nil_from_length}
use Rattle.std.proofs.lemmas.List.Elements.{All-head, All-nil}
use Rattle.graphql_diagnostics.specs.Reports.{KeepsReports, Reports as Reporting, ReportsWithin}
use Rattle.graphql_building_reports.specs.declared.lists.BuildingReport.{BuildingReport}
use Rattle.graphql_document_checking.specs.DocumentReports.{DocumentBuildingReport}
use Rattle.graphql_documents.specs.declared.documents.schemas.Schema.{Schema}
use Rattle.graphql_frontend.specs.declared.reports.Reports.{Reports}
use Rattle.graphql_frontend.specs.declared.reports.Reports.TheVariants.{Building, FirstBuilding, Syntax}
use Rattle.graphql_frontend.specs.declared.texts.SourceText.{SourceText}
use Rattle.graphql_parser.specs.declared.bounds.Bounds.{Bounds}
use Rattle.graphql_project_checking.specs.Truth.{AreErrorsOf, AreOfBuilding, AreOfOneDocument}
use Rattle.graphql_trees.specs.declared.documents.Document.{Document}
use Rattle.graphql_diagnostics.specs.declared.lists.DiagnosticEntry.{DiagnosticEntry}
use Rattle.graphql_documents.proofs.ListLemmas.{All-append_left, All-append_right}
use Rattle.graphql_frontend.specs.Documents.{IsOnlyOff}
use Rattle.graphql_frontend.specs.RuleSets.{NamesRuleIn, RuleSet}
use Rattle.graphql_project_checking.specs.Silence.{QuietOnlyIf, SilentOnlyIf}

-- what follows for what is answered
pub on_ok : {T E : Type 0} (P Q : Type 0) → (P → Q) → (r : Result T E) → OnOk r P → OnOk r Q
on_ok P Q f (Ok x) p = f p
on_ok P Q f (Err e) p = tt

pub if_ok : {T E : Type 0} (P Q : T → Type 0) → ((x : T) → P x → Q x) → (r : Result T E) → IfOk r P → IfOk r Q
if_ok P Q f (Ok x) p = f x p
if_ok P Q f (Err e) p = tt

pub not_nil : {X : Type 0} (xs : List X) (x : X) → xs ++ x ∷ [] ≡ [] → ⊥
not_nil [] x is = cc
not_nil (y ∷ ys) x is = cc

pub no_items : {X : Type 0} (v : Vec X Global) (answer : Bool) → answer ≡ (vec_len v == 0) → answer ≡ true → v.items ≡ []
no_items v answer is empty = nil_from_length v.items (search rules)

-- nothing is added
pub stays_silent : (old : List Reports) (H : Type 0) → H → SilentOnlyIf old old H
stays_silent old H h none = (none, h)

-- something is added
pub is_not_silent : (old new : List Reports) (x : Reports) (H : Type 0) → new ≡ old ++ x ∷ [] → SilentOnlyIf old new H
is_not_silent old new x H grown none = absurd (not_nil old x (sym grown ∙ none))

pub silent_so : (old new : List Reports) (H K : Type 0) → (H → K) → SilentOnlyIf old new H → SilentOnlyIf old new K
silent_so old new H K f silent none = let a = silent none in (a.0, f a.1)

pub silent_then : (old mid new : List Reports) (H K L : Type 0) → (H → K → L) → SilentOnlyIf old mid H → SilentOnlyIf mid new K → SilentOnlyIf old new L
silent_then old mid new H K L f first rest none =
    let b = rest none in
    let a = first b.0 in
    (a.0, f a.1 b.1)

-- ==== if all reports are of rules that are off

-- nothing is added
pub stays_quiet : (old : List Reports) (H : RuleSet → Type 0) → ((off : RuleSet) → H off) → QuietOnlyIf old old H
stays_quiet old H h off all = (all, h off)

-- something is added
pub quiet_one : (old new : List Reports) (x : Reports) (H : RuleSet → Type 0) → new ≡ old ++ x ∷ [] → ((off : RuleSet) → IsOnlyOff off x → H off) → QuietOnlyIf old new H
quiet_one old new x H grown h off all =
    let parts = subst (All (IsOnlyOff off)) grown all in (
      All-append_left (IsOnlyOff off) old (x ∷ []) parts,
      h off (All-head (IsOnlyOff off) x [] (All-append_right (IsOnlyOff off) old (x ∷ []) parts)),
    )

pub is_not_quiet : (old new : List Reports) (x : Reports) → new ≡ old ++ x ∷ [] → ((off : RuleSet) → ¬ IsOnlyOff off x) → (off : RuleSet) → ¬ All (IsOnlyOff off) new
is_not_quiet old new x grown never off all = (quiet_one old new x (λ off. ⊥) grown never off all).1

pub never_quiet : (old new : List Reports) (H : RuleSet → Type 0) → ((off : RuleSet) → ¬ All (IsOnlyOff off) new) → QuietOnlyIf old new H
never_quiet old new H never off all = absurd (never off all)

pub quiet_so : (old new : List Reports) (H K : RuleSet → Type 0) → ((off : RuleSet) → H off → K off) → QuietOnlyIf old new H → QuietOnlyIf old new K
quiet_so old new H K f quiet off all = let a = quiet off all in (a.0, f off a.1)

pub quiet_then : (old mid new : List Reports) (H K L : RuleSet → Type 0) → ((off : RuleSet) → H off → K off → L off) → QuietOnlyIf old mid H → QuietOnlyIf mid new K → QuietOnlyIf old new L
quiet_then old mid new H K L f first rest off all =
    let b = rest off all in
    let a = first off b.0 in
    (a.0, f off a.1 b.1)

-- lists that are never of rules that are off: then none was added
pub none_was_added : (Q : Reports → Type 0) (old new : List Reports) → KeepsReports Q old new → (off : RuleSet) → ((r : Reports) → Q r → ¬ IsOnlyOff off r) →
    All (IsOnlyOff off) new → (new ≡ old) × All (IsOnlyOff off) old
none_was_added Q old new kept off never all =
    let parts = subst (All (IsOnlyOff off)) kept.appended all in
    let none : kept.added ≡ [] = nothing kept.added kept.each (All-append_right (IsOnlyOff off) old kept.added parts) in
    (kept.appended ∙ ap (λ l. old ++ l) none ∙ append-nil old, All-append_left (IsOnlyOff off) old kept.added parts)
  where
    nothing : (added : List Reports) → All Q added → All (IsOnlyOff off) added → added ≡ []
    nothing [] each offs = refl
    nothing (x ∷ xs) each offs = absurd (never x (All-head Q x xs each) (All-head (IsOnlyOff off) x xs offs))

-- errors of texts, and what keeps documents from being built, are never off
pub errors_are_not_off : (bounds : Bounds) (sources : List SourceText) (off : RuleSet) (r : Reports) → AreErrorsOf bounds sources r → ¬ IsOnlyOff off r
errors_are_not_off bounds sources off (Syntax errors) are only = only
errors_are_not_off bounds sources off _ are only = are

pub rules_of_building_are_not_off : (P : BuildingReport → Type 0) (off : RuleSet) (r : Reports) → AreOfBuilding P r → ¬ IsOnlyOff off r
rules_of_building_are_not_off P off (Building list) are only = only
rules_of_building_are_not_off P off (FirstBuilding list) are only = only
rules_of_building_are_not_off P off _ are only = are

pub building_is_not_off : (s : Schema) (off : RuleSet) (trees : List Document) (old new : List Reports) → KeepsReports (AreOfOneDocument s trees) old new →
    All (IsOnlyOff off) new → (new ≡ old) × All (IsOnlyOff off) old
building_is_not_off s off trees old new kept all =
    none_was_added (AreOfOneDocument s trees) old new kept off (λ r are. rules_of_building_are_not_off (DocumentBuildingReport (Some s) are.0) off r are.2) all

-- what was there, if more was added
pub part_of_off : (off : RuleSet) (old new added : List Reports) → new ≡ old ++ added → All (IsOnlyOff off) new → All (IsOnlyOff off) old
part_of_off off old new added grown all = All-append_left (IsOnlyOff off) old added (subst (All (IsOnlyOff off)) grown all)

-- diagnostics that are never of rules that are off
pub no_entry : (Q : DiagnosticEntry → Type 0) (off : RuleSet) → ((e : DiagnosticEntry) → Q e → ¬ NamesRuleIn off e.details) → (list : List DiagnosticEntry) →
    All Q list → All (λ e. NamesRuleIn off e.details) list → list ≡ []
no_entry Q off never [] each offs = refl
no_entry Q off never (e ∷ rest) each offs = absurd (never e (All-head Q e rest each) (All-head (λ x. NamesRuleIn off x.details) e rest offs))

-- ==== checks

-- where a check answers, and its list began empty and is empty, its rule holds
module _ {Entry : Type 0} where
  added_is : (old added new : List Entry) → new ≡ old ++ added → old ≡ [] → new ≡ added
  added_is old added new e none = subst (λ l. new ≡ l ++ added) none e

  pub holds_of : (H : Type 0) (Q : Entry → Type 0) (old new : List Entry) → Reporting H Q old new → old ≡ [] → new ≡ [] → H
  holds_of H Q old new r none empty = r.silent.0 (sym (added_is old r.added new r.appended none) ∙ empty)

  pub holds_within : (L : Entry → Type 0) (H : Type 0) (Q : Entry → Type 0) (old new : List Entry) → ReportsWithin L H Q old new → old ≡ [] → new ≡ [] → H
  holds_within L H Q old new r none empty =
      let nothing : r.added ≡ [] = sym (added_is old r.added new r.appended none) ∙ empty in
      (r.silent (subst (λ l. All (λ e. ¬ L e) l) (sym nothing) (All-nil (λ e. ¬ L e)))).0 nothing

  pub checked_holds : {T E : Type 0} (r : Result T E) (H : Type 0) (Q : Entry → Type 0) (old new : List Entry) →
      MatchResult r (λ _. Reporting H Q old new) (λ _. KeepsReports Q old new) → old ≡ [] → IsOk r → new ≡ [] → H
  checked_holds (Ok x) H Q old new checks none ok empty = holds_of H Q old new checks none empty
  checked_holds (Err e) H Q old new checks none ok empty = absurd (let no : ⊥ = cc in no)

  pub checked_within : {T E : Type 0} (r : Result T E) (L : Entry → Type 0) (H : Type 0) (Q : Entry → Type 0) (old new : List Entry) →
      MatchResult r (λ _. ReportsWithin L H Q old new) (λ _. KeepsReports Q old new) → old ≡ [] → IsOk r → new ≡ [] → H
  checked_within (Ok x) L H Q old new checks none ok empty = holds_within L H Q old new checks none empty
  checked_within (Err e) L H Q old new checks none ok empty = absurd (let no : ⊥ = cc in no)

pub at_ok : {T E : Type 0} (P : Type 0) (r : Result T E) → OnOk r P → IsOk r → P
at_ok P (Ok x) p ok = p
at_ok P (Err e) p ok = absurd (let no : ⊥ = cc in no)
