-- How the conflicts of groups come together, field by field and group by group.
use Rattle.std.proofs.Common.{◌≡◌, List, [], ◌∷◌, ◌++◌, sym, subst, All, Contains}
use Rattle.std.proofs.lemmas.List.{append-nil}
use Rattle.std.proofs.lemmas.List.Elements.{All-cons, All-contains_itself, All-head, All-nil, All-tail, All-weaker, Contains-append_left}
use Rattle.std.specs.Prelude.{Result, Ok, Err, MatchResult}
use Rattle.graphql_specification.specs.Merging.{Pass, FieldSelection}
use Rattle.graphql_specification.specs.MergedSets.{Agree, AreConflicts, ConflictsWith, ConflictReport, agreeing_field, conflicting_field, empty_group, next_group, no_field, no_groups}
use Rattle.graphql_diagnostics.specs.Reports.{Appends, KeepsReports}
use Rattle.graphql_diagnostics.specs.declared.lists.DiagnosticEntry.{DiagnosticEntry}
use Rattle.graphql_documents.specs.declared.documents.schemas.Schema.{Schema}
use Rattle.graphql_documents.proofs.ListLemmas.{only_one, stands_behind, stands_first}
use Rattle.graphql_diagnostics.proofs.ReportLemmas.{appended_then, kept_wider}
use Rattle.graphql_merging.specs.Passes.{IsConflictAmong}

module _ (schema : Schema) (pass : Pass) where
  -- a field agrees with the first, and nothing is reported
  pub compared_alike : (first x : FieldSelection) (old : List DiagnosticEntry) → Agree schema pass first x → Appends (ConflictsWith schema pass first (x ∷ [])) old old
  compared_alike first x old agree = record { added = []; appended = sym (append-nil old); are = agreeing_field agree no_field }

  -- a field does not, and a diagnostic says so
  pub compared_apart : {T E : Type 0} (r : Result T E) (first x : FieldSelection) (old new : List DiagnosticEntry) →
      MatchResult r
      (λ _. (entry : DiagnosticEntry) × (new ≡ old ++ entry ∷ []) × ConflictReport schema pass first x entry.details entry.location)
      (λ _. new ≡ old) →
      MatchResult r (λ _. Appends (ConflictsWith schema pass first (x ∷ [])) old new) (λ _. new ≡ old)
  compared_apart (Ok v) first x old new (e, is, says) = record { added = e ∷ []; appended = is; are = conflicting_field says no_field }
  compared_apart (Err v) first x old new is = is

  -- the conflicts with some fields and with more are those with all
  more_conflicts : {first : FieldSelection} {a b : List FieldSelection} {xs ys : List DiagnosticEntry} →
      ConflictsWith schema pass first a xs → ConflictsWith schema pass first b ys → ConflictsWith schema pass first (a ++ b) (xs ++ ys)
  more_conflicts no_field second = second
  more_conflicts (agreeing_field agree rest) second = agreeing_field agree (more_conflicts rest second)
  more_conflicts (conflicting_field says rest) second = conflicting_field says (more_conflicts rest second)

  pub compared_none : (first : FieldSelection) (old : List DiagnosticEntry) → Appends (ConflictsWith schema pass first []) old old
  compared_none first old = record { added = []; appended = sym (append-nil old); are = no_field }

  pub compared_then : {first : FieldSelection} {a b : List FieldSelection} {old mid new : List DiagnosticEntry} →
      Appends (ConflictsWith schema pass first a) old mid → Appends (ConflictsWith schema pass first b) mid new → Appends (ConflictsWith schema pass first (a ++ b)) old new
  compared_then {old = old} {mid = mid} {new = new} x y = record {
    added = x.added ++ y.added;
    appended = appended_then old mid new x.added y.added x.appended y.appended;
    are = more_conflicts x.are y.are;
  }

  -- the conflicts with the first field are those of the group
  pub group_compared : (first : FieldSelection) (rest : List FieldSelection) (old new : List DiagnosticEntry) →
      Appends (ConflictsWith schema pass first rest) old new → Appends (AreConflicts schema pass ((first ∷ rest) ∷ [])) old new
  group_compared first rest old new x = record {
    added = x.added;
    appended = x.appended;
    are = subst (AreConflicts schema pass ((first ∷ rest) ∷ [])) (append-nil x.added) (next_group x.are no_groups);
  }

  pub empty_compared : (old : List DiagnosticEntry) → Appends (AreConflicts schema pass ([] ∷ [])) old old
  empty_compared old = record { added = []; appended = sym (append-nil old); are = empty_group no_groups }

  -- each of the diagnostics is of a conflict in the group
  with_first : (first : FieldSelection) (group : List FieldSelection) (groups : List (List FieldSelection)) →
      Contains groups group → Contains group first → {rest : List FieldSelection} {reports : List DiagnosticEntry} →
      All (Contains group) rest → ConflictsWith schema pass first rest reports → All (IsConflictAmong schema pass groups) reports
  with_first first group groups stands in_first within no_field = All-nil (IsConflictAmong schema pass groups)
  with_first first group groups stands in_first within (agreeing_field {x = x} {rest = rest} agree behind) =
      with_first first group groups stands in_first (All-tail (Contains group) x rest within) behind
  with_first first group groups stands in_first within (conflicting_field {x = x} {rest = rest} {entry = entry} {reports = reports} says behind) =
      All-cons (IsConflictAmong schema pass groups) entry reports
      (record { group = group; x = first; y = x; stands = stands; in_x = in_first; in_y = All-head (Contains group) x rest within; says = says })
      (with_first first group groups stands in_first (All-tail (Contains group) x rest within) behind)

  pub truly_compared : (first : FieldSelection) (done left group : List FieldSelection) (old new : List DiagnosticEntry) → group ≡ first ∷ (done ++ left) →
      Appends (ConflictsWith schema pass first done) old new → KeepsReports (IsConflictAmong schema pass (group ∷ [])) old new
  truly_compared first done left group old new is x =
      subst (λ l. KeepsReports (IsConflictAmong schema pass (l ∷ [])) old new) (sym is) (record {
        added = x.added;
        appended = x.appended;
        each = with_first first all (all ∷ []) (stands_first all []) (stands_first first (done ++ left)) within x.are;
      }) where
        all : List FieldSelection
        all = first ∷ (done ++ left)

        within : All (Contains all) done
        within =
            All-weaker (Contains done) (Contains all) (λ y stands. stands_behind first (done ++ left) y (Contains-append_left done left y stands))
            done (All-contains_itself done)

  -- a conflict in one of the groups is one in them
  pub kept_among : (group : List FieldSelection) (groups : List (List FieldSelection)) (old new : List DiagnosticEntry) → Contains groups group →
      KeepsReports (IsConflictAmong schema pass (group ∷ [])) old new → KeepsReports (IsConflictAmong schema pass groups) old new
  kept_among group groups old new stands = kept_wider (λ e among. record {
    group = among.group;
    x = among.x;
    y = among.y;
    stands = subst (Contains groups) (sym (only_one group among.group among.stands)) stands;
    in_x = among.in_x;
    in_y = among.in_y;
    says = among.says;
  })
