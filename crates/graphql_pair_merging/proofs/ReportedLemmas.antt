-- What is reported of two fields that meet: it is true of an operation, whose fields then do not merge.
use Rattle.std.proofs.Common.{◌≡◌, ◌↔◌, List, [], ◌∷◌, ◌++◌, Option, refl, sym, subst, All, Contains}
use Rattle.std.specs.Borrow.{Bor}
use Rattle.std.specs.List.{AllZip, Any}
use Rattle.std.specs.Prelude.{Err, MatchResult, Ok, OnOk, Result}
use Rattle.std.proofs.lemmas.List.{append-nil}
use Rattle.std.proofs.lemmas.List.Elements.{All-cons, All-contains, All-nil}
use Rattle.graphql_nodes.specs.declared.spans.SourceSpan.{SourceSpan}
use Rattle.graphql_diagnostics.proofs.ReportLemmas.{kept}
use Rattle.graphql_diagnostics.specs.Reports.{Appends, KeepsReports}
use Rattle.graphql_diagnostics.specs.declared.build_errors.BuildError.TheVariants as build
use Rattle.graphql_diagnostics.specs.declared.details.Details.TheVariants as details
use Rattle.graphql_diagnostics.specs.declared.details.Details.{Details}
use Rattle.graphql_diagnostics.specs.declared.lists.DiagnosticEntry.{DiagnosticEntry}
use Rattle.graphql_documents.proofs.ListLemmas.{each_standing, made_of, stands_mapped}
use Rattle.graphql_documents.specs.Selections.{Fragments}
use Rattle.graphql_documents.specs.declared.documents.executables.Operation.{Operation}
use Rattle.graphql_nodes.specs.declared.nodes.Node.{Node}
use Rattle.graphql_documents.specs.declared.documents.executables.SelectionSet.{SelectionSet}
use Rattle.graphql_documents.specs.declared.documents.schemas.Schema.{Schema}
use Rattle.graphql_specification.specs.MergedSets.{Agree, ConflictReport, Meet, MeetingFieldsAgree, meet_below, meet_here}
use Rattle.graphql_specification.specs.Merging.{Chain, ComeTogether, FieldSelection, FieldsCanMerge, MergingReport, ParentsMayOverlap, Pass, SameKey, chain_of_more, chain_of_one, field_pass, of_conflict, shape_pass}
use Rattle.graphql_laws.proofs.MeetingLaws.{merges_by_meeting}
use Rattle.graphql_field_conflicts.specs.FieldSelections.{selection_of}
use Rattle.graphql_pair_merging.specs.Meetings.{IsMetConflict}
use Rattle.graphql_pair_merging.specs.NumberedSets.{operation_sets}
use Rattle.graphql_pair_merging.specs.declared.disagreements.Conflict.{Conflict}

-- what a diagnostic of a conflict says is that two fields do not agree
disagree : (schema : Schema) (pass : Pass) (x y : FieldSelection) (said : Details) (at : Option SourceSpan) → ConflictReport schema pass x y said at → ¬ Agree schema pass x y
disagree schema shape_pass x y (details.Build (build.ConflictingFieldType alias original_location original original_type conflicting_location conflicting conflicting_type)) at says agree = says.differ agree
disagree schema field_pass x y (details.Build (build.ConflictingFieldName alias original_location original conflicting_location conflicting)) at says agree =
    let same = agree.name in let other = says.differ in (let no : ⊥ = cc in no)
disagree schema field_pass x y (details.Build (build.ConflictingFieldArgument alias original_location original original_value conflicting_location conflicting conflicting_value)) at says agree =
    let name = says.differ.given.value.value.name in
    says.differ.differ (agree.arguments.names name, λ a b. agree.arguments.values name a b)
disagree schema pass x y said at says agree = absurd says

module _ (schema : Schema) (fragments : Fragments) where
  -- the ends of two chains from two sets with the same keys
  record Ends (Step : FieldSelection → FieldSelection → Type 0) (s t : SelectionSet) (x y : FieldSelection) : Type 0 where
    xs : List FieldSelection
    ys : List FieldSelection
    first : Chain fragments s (xs ++ x ∷ [])
    second : Chain fragments t (ys ++ y ∷ [])
    keys : AllZip SameKey (xs ++ x ∷ []) (ys ++ y ∷ [])
    steps : AllZip Step (xs ++ x ∷ []) (ys ++ y ∷ [])

  shape_ends : {s t : SelectionSet} {x y : FieldSelection} → Meet schema fragments shape_pass s t x y → Ends SameKey s t x y
  shape_ends (meet_here in_x in_y put) = record { xs = []; ys = []; first = chain_of_one in_x; second = chain_of_one in_y; keys = (put, tt); steps = (put, tt) }
  shape_ends (meet_below u v in_u in_v put below) =
      let more = shape_ends below in
      record {
        xs = u ∷ more.xs;
        ys = v ∷ more.ys;
        first = chain_of_more in_u more.first;
        second = chain_of_more in_v more.second;
        keys = (put, more.keys);
        steps = (put, more.steps);
      }

  field_ends : {s t : SelectionSet} {x y : FieldSelection} → Meet schema fragments field_pass s t x y → Ends (ParentsMayOverlap schema) s t x y
  field_ends (meet_here in_x in_y put) = record { xs = []; ys = []; first = chain_of_one in_x; second = chain_of_one in_y; keys = (put.0, tt); steps = (put.1, tt) }
  field_ends (meet_below u v in_u in_v put below) =
      let more = field_ends below in
      record {
        xs = u ∷ more.xs;
        ys = v ∷ more.ys;
        first = chain_of_more in_u more.first;
        second = chain_of_more in_v more.second;
        keys = (put.0, more.keys);
        steps = (put.1, more.steps);
      }

  -- two fields that meet in a set come together
  come_together : (pass : Pass) (set : SelectionSet) (x y : FieldSelection) → Meet schema fragments pass set set x y → ComeTogether schema fragments pass set x y
  come_together shape_pass set x y meet = let e = shape_ends meet in (e.xs, e.ys, record { first = e.first; second = e.second; keys = e.keys })
  come_together field_pass set x y meet = let e = field_ends meet in (e.xs, e.ys, record { first = e.first; second = e.second; keys = e.keys }, e.steps)

  report_of : (pass : Pass) (set : SelectionSet) (x y : FieldSelection) (said : Details) (at : Option SourceSpan) → ComeTogether schema fragments pass set x y →
      ConflictReport schema pass x y said at → MergingReport schema fragments set said at
  report_of pass set x y (details.Build e) at together says = of_conflict (record { pass = pass; x = x; y = y; together = together; conflict = says })
  report_of pass set x y said at together says = absurd says

  -- two fields that come together agree where all do, so a true report is of an operation whose fields do not merge
  agrees : (pass : Pass) (set : SelectionSet) (x y : FieldSelection) → ComeTogether schema fragments pass set x y → FieldsCanMerge schema fragments set → Agree schema pass x y
  agrees shape_pass set x y (xs, ys, path) merges = merges.shapes xs ys x y path
  agrees field_pass set x y (xs, ys, path, overlap) merges = merges.fields xs ys x y path overlap

  pub report_breaks : (set : SelectionSet) {said : Details} {at : Option SourceSpan} → MergingReport schema fragments set said at → ¬ FieldsCanMerge schema fragments set
  report_breaks set (of_conflict {e = e} {at = at} r) merges =
      disagree schema r.pass r.x r.y (details.Build e) at r.conflict (agrees r.pass set r.x r.y r.together merges)

  -- the conflict of two fields that meet was reported, unless memory was refused
  abbrev pub Reported : {T E : Type 0} → Result T E → Pass → FieldSelection → FieldSelection → List DiagnosticEntry → List DiagnosticEntry → Type 0
  Reported r pass x y old new =
      MatchResult r
      (λ _. (entry : DiagnosticEntry) × (new ≡ old ++ entry ∷ []) × ConflictReport schema pass x y entry.details entry.location)
      (λ _. new ≡ old)

  module _ (operations : List (Bor (Node Operation))) where
    abbrev set_in : Bor (Node Operation) → SelectionSet
    set_in o = o.now.value.value.selection_set

    abbrev Merges : Bor (Node Operation) → Type 0
    Merges o = FieldsCanMerge schema fragments (set_in o)

    abbrev IsReportOf : DiagnosticEntry → Bor (Node Operation) → Type 0
    IsReportOf e o = MergingReport schema fragments (set_in o) e.details e.location

    abbrev pub IsTrueReport : DiagnosticEntry → Type 0
    IsTrueReport e = Any (IsReportOf e) operations

    -- a report of one of the operations
    of_one : (e : DiagnosticEntry) (set : SelectionSet) → Contains (operation_sets operations) set → MergingReport schema fragments set e.details e.location → IsTrueReport e
    of_one e set among says =
        let made = made_of set_in operations set among in
        let at = made.1 in
        (at.0, made.0, at.1, at.2, subst (λ s. MergingReport schema fragments s e.details e.location) (sym made.2) says)

    module _ (found : Conflict) (met : IsMetConflict schema fragments (operation_sets operations) found) where
      -- what is reported of two fields that meet in an operation is true of it
      pub reported_truth : {T E : Type 0} (r : Result T E) (old new : List DiagnosticEntry) →
          Reported r met.pass (selection_of found.first) (selection_of found.second) old new → KeepsReports IsTrueReport old new
      reported_truth (Ok v) old new (entry, pushed, says) = record {
        added = entry ∷ [];
        appended = pushed;
        each = All-cons IsTrueReport entry []
            (of_one entry met.set met.among (report_of met.pass met.set (selection_of found.first) (selection_of found.second) entry.details entry.location
            (come_together met.pass met.set (selection_of found.first) (selection_of found.second) met.meet) says)) (All-nil IsTrueReport);
      }
      reported_truth (Err v) old new same = subst (KeepsReports IsTrueReport old) (sym same) (kept IsTrueReport old)

      -- and then the fields of that operation do not merge
      unmerged : (entry : DiagnosticEntry) → ConflictReport schema met.pass (selection_of found.first) (selection_of found.second) entry.details entry.location → ¬ All Merges operations
      unmerged entry says all =
          let made = made_of set_in operations met.set met.among in
          let merges : FieldsCanMerge schema fragments met.set = subst (FieldsCanMerge schema fragments) made.2 (All-contains Merges operations made.0 all made.1) in
          disagree schema met.pass (selection_of found.first) (selection_of found.second) entry.details entry.location says
          ((merges_by_meeting schema fragments met.set).0 merges met.pass (selection_of found.first) (selection_of found.second) met.meet)

      pub reported_decides : {T E : Type 0} (r : Result T E) (old new : List DiagnosticEntry) →
          Reported r met.pass (selection_of found.first) (selection_of found.second) old new → OnOk r (Appends (λ added. (added ≡ []) ↔ All Merges operations) old new)
      reported_decides (Ok v) old new (entry, pushed, says) = record {
        added = entry ∷ [];
        appended = pushed;
        are = (λ e. absurd (let no : ⊥ = cc in no), λ all. absurd (unmerged entry says all));
      }
      reported_decides (Err v) old new same = tt

    -- nothing is reported where all fields that meet agree
    pub silent_decides : (old : List DiagnosticEntry) → All (MeetingFieldsAgree schema fragments) (operation_sets operations) →
        Appends (λ added. (added ≡ []) ↔ All Merges operations) old old
    silent_decides old agree = record {
      added = [];
      appended = sym (append-nil old);
      are = (
        λ e. each_standing Merges operations (λ o stands. (merges_by_meeting schema fragments (set_in o)).1
            (All-contains (MeetingFieldsAgree schema fragments) (operation_sets operations) (set_in o) agree (stands_mapped set_in operations o stands))),
        λ all. refl,
      );
    }
