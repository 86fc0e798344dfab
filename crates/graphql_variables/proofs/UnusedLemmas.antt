-- What is reported of the variables that an operation does not use.
use Rattle.std.proofs.Common.{◌≡◌, ◌↔◌, ℕ, ◌+◌, ◌<◌, Bool, true, false, List, [], ◌∷◌, ◌++◌, length, get_or, take, map, refl, sym, ap, ◌∙◌, subst, All, Contains, Option}
use Rattle.std.specs.Prelude.{Result, Ok, Err, OnOk, MatchResult}
use Rattle.std.specs.Borrow.{Bor}
use Rattle.std.specs.List.{AllByRecursion, IsDistinct}
use Rattle.std.specs.Map.{keys_of}
use Rattle.std.proofs.lemmas.List.{append_assoc, map-append}
use Rattle.std.proofs.lemmas.List.Elements.{All-nil, All-cons, All-head, All-tail, All-contains}
use Rattle.std.proofs.lemmas.Grind.{fold-append}
use Rattle.std.proofs.lemmas.List.Folds.{find-append}
use Rattle.indexmap.specs.IndexMap.{insert_entry}
use Rattle.graphql_diagnostics.specs.Diagnostics.{IsDiagnostic}
use Rattle.graphql_nodes.specs.Names.{NameText, SameName, different_names, same_name, with_name}
use Rattle.graphql_diagnostics.specs.Reports.{Appends, KeepsReports}
use Rattle.graphql_documents.specs.Selections.{Fragments}
use Rattle.graphql_nodes.specs.Spans.{recompose}
use Rattle.graphql_specification.specs.Variables.{AreUnusedReports, AreUsesReports, UsesLimitReport, UnusedVariableReport, UsesReport, are_unused, defined_names, is_bound, no_name, unused_name, used_name}
use Rattle.graphql_documents.specs.VariableUses.{UsesVariable}
use Rattle.graphql_documents.specs.Walks.{HasListed}
use Rattle.graphql_diagnostics.specs.declared.data.DiagnosticData.TheVariants as report
use Rattle.graphql_diagnostics.specs.declared.data.DiagnosticData.{DiagnosticData}
use Rattle.graphql_diagnostics.specs.declared.lists.DiagnosticEntry.{DiagnosticEntry}
use Rattle.graphql_documents.specs.declared.documents.definitions.VariableDefinition.{VariableDefinition}
use Rattle.graphql_documents.specs.declared.documents.executables.Operation.{Operation}
use Rattle.graphql_documents.specs.declared.documents.executables.Selection.{Selection}
use Rattle.graphql_nodes.specs.declared.nodes.Node.{Node}
use Rattle.graphql_nodes.specs.declared.spans.SourceSpan.{SourceSpan}
use Rattle.graphql_diagnostics.proofs.DiagnosticLemmas.{diagnostic_wider}
use Rattle.graphql_nodes.proofs.NameLemmas.{same_name_back, same_name_itself}
use Rattle.graphql_diagnostics.proofs.ReportLemmas.{appended_then}
use Rattle.graphql_documents.proofs.ListLemmas.{more_is}
use Rattle.graphql_variables.specs.Uses.{IsLastDefinition}
use Rattle.graphql_variables.proofs.NameSetLemmas.{apart, apart_back, entry_names, names_inserted, same_key}
use Rattle.graphql_documents.proofs.VariableUseLemmas.{uses_same}

-- a name with its last variable
abbrev pub LastEntry : Type 0
LastEntry = Bor NameText × Bor (Node VariableDefinition)

abbrev pub IsLast : List (Node VariableDefinition) → LastEntry → Type 0
IsLast variables e = IsLastDefinition variables e.0.now e.1.now

-- the last variable of a name, when one more is defined
module _ (variables : List (Node VariableDefinition)) (x : Node VariableDefinition) where
  last_itself : (name : NameText) (v : Node VariableDefinition) → v ≡ x → SameName name x.value.value.name → IsLastDefinition (variables ++ x ∷ []) name v
  last_itself name v is same =
      subst (IsLastDefinition (variables ++ x ∷ []) name) (sym is) (record { before = variables; after = []; split = refl; is_last = refl; same = same })

  last_still : (name : NameText) (v : Node VariableDefinition) → same_name x.value.value.name name ≡ false → IsLastDefinition variables name v →
      IsLastDefinition (variables ++ x ∷ []) name v
  last_still name v other l = record {
    before = l.before;
    after = l.after ++ x ∷ [];
    split = ap (λ vs. vs ++ x ∷ []) l.split ∙ append_assoc l.before (v ∷ l.after) (x ∷ []);
    is_last = find-append (λ w. same_name w.value.value.name v.value.value.name) l.after (x ∷ []) ∙
        rw (l.is_last, apart_back x.value.value.name name v.value.value.name other l.same) refl;
    same = l.same;
  }

  -- those of names that differ from a name stay
  rest_still : (entries : List LastEntry) (known : Bor NameText) → SameName x.value.value.name known.now →
      AllByRecursion (λ y. same_key known y ≡ false) (keys_of entries) → All (IsLast variables) entries → All (IsLast (variables ++ x ∷ [])) entries
  rest_still [] known same others all = All-nil (IsLast (variables ++ x ∷ []))
  rest_still (e ∷ entries) known same others all =
      All-cons (IsLast (variables ++ x ∷ [])) e entries
      (last_still e.0.now e.1.now (apart x.value.value.name known.now e.0.now same others.0) (All-head (IsLast variables) e entries all))
      (rest_still entries known same others.1 (All-tail (IsLast variables) e entries all))

  module _ (k : Bor NameText) (v : Bor (Node VariableDefinition)) (named : k.now ≡ x.value.value.name) (is : v.now ≡ x) where
    one_inserted : (e : LastEntry) (entries : List LastEntry) → IsDistinct same_key (keys_of (e ∷ entries)) → All (IsLast variables) (e ∷ entries) →
        All (IsLast (variables ++ x ∷ [])) (insert_entry same_key entries k v) →
        (b : Bool) → same_key k e.0 ≡ b → All (IsLast (variables ++ x ∷ [])) (insert_entry same_key (e ∷ entries) k v)
    unfolding IsDistinct
    one_inserted e entries distinct all more true known =
        let same : SameName x.value.value.name e.0.now = subst (λ n. SameName n e.0.now) named known in
        let entry : insert_entry same_key (e ∷ entries) k v ≡ (e.0, v) ∷ entries = rw known refl in
        subst (All (IsLast (variables ++ x ∷ []))) (sym entry)
        (All-cons (IsLast (variables ++ x ∷ [])) (e.0, v) entries (last_itself e.0.now v.now is (same_name_back x.value.value.name e.0.now same))
        (rest_still entries e.0 same distinct.0 (All-tail (IsLast variables) e entries all)))
    one_inserted e entries distinct all more false other =
        let differs : same_name x.value.value.name e.0.now ≡ false = subst (λ n. same_name n e.0.now ≡ false) named other in
        let entry : insert_entry same_key (e ∷ entries) k v ≡ e ∷ insert_entry same_key entries k v = rw other refl in
        subst (All (IsLast (variables ++ x ∷ []))) (sym entry)
        (All-cons (IsLast (variables ++ x ∷ [])) e (insert_entry same_key entries k v) (last_still e.0.now e.1.now differs (All-head (IsLast variables) e entries all)) more)

    pub last_inserted : (entries : List LastEntry) → IsDistinct same_key (keys_of entries) → All (IsLast variables) entries →
        All (IsLast (variables ++ x ∷ [])) (insert_entry same_key entries k v)
    unfolding IsDistinct
    last_inserted [] distinct all =
        All-cons (IsLast (variables ++ x ∷ [])) (k, v) [] (last_itself k.now v.now is (subst (λ n. SameName k.now n) named (same_name_itself k.now)))
        (All-nil (IsLast (variables ++ x ∷ [])))
    last_inserted (e ∷ entries) distinct all =
        one_inserted e entries distinct all (last_inserted entries distinct.1 (All-tail (IsLast variables) e entries all)) (same_key k e.0) refl

-- the last variables of each name, when one more is walked over
module _ (variables : List (Node VariableDefinition)) (i : ℕ) (x : Node VariableDefinition) (within : i < length variables) (item : x ≡ get_or variables i x)
    (entries : List LastEntry) (k : Bor NameText) (v : Bor (Node VariableDefinition)) (named : k.now ≡ x.value.value.name) where
  pub names_more : entry_names entries ≡ different_names (map (λ v. v.value.value.name) (take i variables)) →
      entry_names (insert_entry same_key entries k v) ≡ different_names (map (λ v. v.value.value.name) (take (i + 1) variables))
  names_more are =
      names_inserted entries k v ∙ ap (λ l. with_name l k.now) are ∙ ap (with_name (different_names (map (λ v. v.value.value.name) (take i variables)))) named ∙
      sym (ap (λ l. different_names (map (λ v. v.value.value.name) l)) (more_is variables i x within item) ∙
      ap different_names (map-append (λ (v : Node VariableDefinition). v.value.value.name) (take i variables) (x ∷ [])) ∙
      fold-append with_name [] (map (λ v. v.value.value.name) (take i variables)) (x.value.value.name ∷ []))

  pub last_more : v.now ≡ x → IsDistinct same_key (keys_of entries) → All (IsLast (take i variables)) entries →
      All (IsLast (take (i + 1) variables)) (insert_entry same_key entries k v)
  last_more is distinct all =
      subst (λ l. All (IsLast l) (insert_entry same_key entries k v)) (sym (more_is variables i x within item))
      (last_inserted (take i variables) x k v named is entries distinct all)

-- reports of unused variables after others
pub reports_then : {fragments : Fragments} {o : Operation} {names : List NameText} {reports : List DiagnosticEntry} → AreUnusedReports fragments o names reports →
    {more : List NameText} {others : List DiagnosticEntry} → AreUnusedReports fragments o more others → AreUnusedReports fragments o (names ++ more) (reports ++ others)
reports_then no_name rest = rest
reports_then (used_name used others) rest = used_name used (reports_then others rest)
reports_then (unused_name says others) rest = unused_name says (reports_then others rest)

-- each of them is a true report
says_unused : (fragments : Fragments) (o : Operation) (name : NameText) (e : DiagnosticEntry) → IsDiagnostic (UnusedVariableReport fragments o name) e → IsDiagnostic (UsesReport fragments o) e
says_unused fragments o name e says = diagnostic_wider (UnusedVariableReport fragments o name) (UsesReport fragments o) wide e says where
  wide : (r : DiagnosticData) (at : Option SourceSpan) → UnusedVariableReport fragments o name r at → UsesReport fragments o r at
  wide (report.UnusedVariable reported) at h = h.1
  wide r at h = absurd h

pub each_says_unused : {fragments : Fragments} {o : Operation} {names : List NameText} {reports : List DiagnosticEntry} → AreUnusedReports fragments o names reports →
    All (IsDiagnostic (UsesReport fragments o)) reports
each_says_unused {fragments = fragments} {o = o} no_name = All-nil (IsDiagnostic (UsesReport fragments o))
each_says_unused (used_name used others) = each_says_unused others
each_says_unused {fragments = fragments} {o = o} (unused_name {name = name} {entry = e} {reports = reports} says others) =
    All-cons (IsDiagnostic (UsesReport fragments o)) e reports (says_unused fragments o name e says) (each_says_unused others)

-- a variable of this name is used, and the last one is reported where it is not
pub used_report : {fragments : Fragments} {o : Operation} {name : NameText} {v : Node VariableDefinition} → IsLastDefinition o.variables.items name v →
    UsesVariable fragments o v.value.value.name → AreUnusedReports fragments o (name ∷ []) []
used_report {fragments = fragments} {o = o} {name = name} {v = v} last used =
    used_name (uses_same fragments o v.value.value.name name (same_name_back name v.value.value.name last.same) used) no_name

pub unused_report : {fragments : Fragments} {o : Operation} {name reported : NameText} {v : Node VariableDefinition} {place : Option SourceSpan} →
    IsLastDefinition o.variables.items name v → ¬ UsesVariable fragments o v.value.value.name → reported ≡ v.value.value.name →
    place ≡ recompose v.location v.value.value.name.location →
    UnusedVariableReport fragments o name (report.UnusedVariable reported) place
unused_report {name = name} {v = v} last unused is at = (
  subst (λ n. SameName n name) (sym is) (same_name_back name v.value.value.name last.same),
  record {
    before = last.before;
    v = v;
    after = last.after;
    split = last.split;
    is_last = last.is_last;
    unused = unused;
    name_is = is;
    at_is = at;
  },
)

-- reports of more names behind those of others
pub appends_then : {fragments : Fragments} {o : Operation} {names more : List NameText} {old mid new : List DiagnosticEntry} →
    Appends (AreUnusedReports fragments o names) old mid → Appends (AreUnusedReports fragments o more) mid new →
    Appends (AreUnusedReports fragments o (names ++ more)) old new
appends_then {old = old} {mid = mid} {new = new} a b = record {
  added = a.added ++ b.added;
  appended = appended_then old mid new a.added b.added a.appended b.appended;
  are = reports_then a.are b.are;
}

pub appends_kept : {fragments : Fragments} {o : Operation} {names : List NameText} {old new : List DiagnosticEntry} →
    Appends (AreUnusedReports fragments o names) old new → KeepsReports (IsDiagnostic (UsesReport fragments o)) old new
appends_kept a = record { added = a.added; appended = a.appended; each = each_says_unused a.are }

-- a walk that came to its end lists what it is to meet
pub lists_all : {IsVisited : Selection → Type 0} {Passes : Type 0} {listed : List Selection} {complete : Bool} → HasListed IsVisited Passes listed complete →
    complete ≡ true → (s : Selection) → Contains listed s ↔ IsVisited s
lists_all {IsVisited = IsVisited} {listed = listed} h is s = (λ there. All-contains IsVisited listed s h.each there, h.all is s)

-- the diagnostic of the limit
pub bound_reported : {T E : Type 0} (r : Result T E) (fragments : Fragments) (o : Operation) (old new : List DiagnosticEntry) (e : DiagnosticEntry) →
    IsDiagnostic (UsesLimitReport fragments o) e → OnOk r (new ≡ old ++ e ∷ []) → OnOk r (Appends (AreUsesReports fragments o) old new)
bound_reported (Ok x) fragments o old new e says ok = record { added = e ∷ []; appended = ok; are = is_bound says }
bound_reported (Err x) fragments o old new e says ok = ok

-- the diagnostics of each unused variable
pub uses_reported : {T E : Type 0} (r : Result T E) (fragments : Fragments) (o : Operation) (old new : List DiagnosticEntry) →
    MatchResult r (λ _. Appends (AreUnusedReports fragments o (defined_names o)) old new) (λ _. KeepsReports (IsDiagnostic (UsesReport fragments o)) old new) →
    OnOk r (Appends (AreUsesReports fragments o) old new)
uses_reported (Ok x) fragments o old new h = record { added = h.added; appended = h.appended; are = are_unused h.are }
uses_reported (Err x) fragments o old new h = tt

pub uses_kept : {T E : Type 0} (r : Result T E) (fragments : Fragments) (o : Operation) (old new : List DiagnosticEntry) →
    MatchResult r (λ _. Appends (AreUnusedReports fragments o (defined_names o)) old new) (λ _. KeepsReports (IsDiagnostic (UsesReport fragments o)) old new) →
    KeepsReports (IsDiagnostic (UsesReport fragments o)) old new
uses_kept (Ok x) fragments o old new h = appends_kept h
uses_kept (Err x) fragments o old new h = h
