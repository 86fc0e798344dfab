-- How operations are validated by the rules that need a schema, one after another.
use Rattle.std.proofs.Common.{◌≡◌, ◌↔◌, ◌⊎◌, Bor, map, inl, inr, Bool, List, [], ◌∷◌, ◌++◌, Some, refl, sym, ◌∙◌, ap, subst, All, Contains}
use Rattle.std.proofs.lemmas.List.{append-nil, append_assoc, append_cancel_left}
use Rattle.std.proofs.lemmas.List.Elements.{All-append, All-cons, All-contains, All-contains_itself, All-head, All-nil, All-weaker, Contains-append_right}
use Rattle.std.specs.List.{Any}
use Rattle.std.specs.Prelude.{Err, IsFalse, IsTrue, MatchResult, Ok, OnOk, Option, Result}
use Rattle.graphql_documents.specs.Built.{IsBuilt}
use Rattle.graphql_specification.specs.Defer.{DeferHolds}
use Rattle.graphql_documents.specs.Executables.{operations_of}
use Rattle.graphql_diagnostics.specs.Diagnostics.{IsLimitEntry, limit_of_depth}
use Rattle.graphql_specification.specs.Documents.{DocumentLimit, merging_limit}
use Rattle.graphql_specification.specs.FragmentsUsed.{IsFragmentUsed}
use Rattle.graphql_specification.specs.Operations.{OperationHolds}
use Rattle.indexmap.specs.IndexMap.{values}
use Rattle.std.proofs.lemmas.Option.{same_Some}
use Rattle.graphql_specification.specs.MergedSets.{MergingLimit, merging_nests}
use Rattle.graphql_specification.specs.Merging.{FieldsCanMerge, MergingReport}
use Rattle.graphql_diagnostics.specs.Reports.{Appends, KeepsReports, ReportsWithin}
use Rattle.graphql_documents.specs.Selections.{fragments_of}
use Rattle.graphql_diagnostics.specs.declared.details.Details.{Details}
use Rattle.graphql_diagnostics.specs.declared.lists.DiagnosticEntry.{DiagnosticEntry}
use Rattle.graphql_documents.specs.declared.documents.executables.ExecutableDocument.{ExecutableDocument}
use Rattle.graphql_documents.specs.declared.documents.executables.Operation.{Operation}
use Rattle.graphql_nodes.specs.declared.nodes.Node.{Node}
use Rattle.graphql_documents.specs.declared.documents.schemas.Schema.{Schema}
use Rattle.graphql_nodes.specs.declared.spans.SourceSpan.{SourceSpan}
use Rattle.graphql_diagnostics.proofs.ReportLemmas.{appended_then, both_nil, kept_wider}
use Rattle.graphql_diagnostics.proofs.ReportWithinLemmas.{in_words_within, kept_within}
use Rattle.graphql_documents.proofs.ListLemmas.{All-append_left, All-append_right, each_standing, stands_first, stands_mapped}
use Rattle.graphql_merging.specs.MergedOperations.{AreLimits, HasMerged, MergesOneMore, Merging, beyond_bound, within_bound}
use Rattle.graphql_merging.proofs.MergedOperationLemmas.{conflicts_decide}
use Rattle.graphql_validation.proofs.ReportedLemmas.{report_breaks}
use Rattle.graphql_variables.proofs.UseLemmas.{any_has}
use Rattle.graphql_validation.proofs.MergingStepLemmas.{silent_holds}
use Rattle.graphql_document_rules.specs.DocumentRules.{DocumentRulesHold}
use Rattle.graphql_document_rules.specs.SingleRootField.{OperationRootHolds}
use Rattle.graphql_document_rules.proofs.RuleReportLemmas.{FixedEntryReport, of_merging_rule}

-- a diagnostic of merging, as one of the document
module _ (schema : Schema) (document : ExecutableDocument) (before after : List (Node Operation)) (o : Node Operation) (split : operations_of document ≡ before ++ o ∷ after) where
  by_merging_limit : {d : Details} {at : Option SourceSpan} → MergingLimit schema (fragments_of document) before o d at → DocumentLimit (Some schema) document d at
  by_merging_limit (merging_nests nests) = merging_limit after refl split nests

  of_merged : Contains (operations_of document) o → (e : DiagnosticEntry) →
      MergingReport schema (fragments_of document) o.value.value.selection_set e.details e.location ⊎
      MergingLimit schema (fragments_of document) before o e.details e.location → FixedEntryReport schema document e
  of_merged stands e (inl says) = of_merging_rule schema document o stands e says
  of_merged stands e (inr limit) = inr (by_merging_limit limit)

abbrev IsNoLimit : DiagnosticEntry → Type 0
IsNoLimit e = ¬ IsLimitEntry e

-- these operations were validated, and merging has not decided these of them: unless a limit was reported, it is said
-- where they do not hold as subscriptions or a conflict was found, and nothing is said where they do, none was, and
-- those that are not decided merge
pub record ValidatedSoFar (schema : Schema) (document : ExecutableDocument) (done undecided : List (Node Operation)) (m : Merging) (old now : List DiagnosticEntry) : Type 0 where
  pub added : List DiagnosticEntry
  pub appended : now ≡ old ++ added
  pub each : All (FixedEntryReport schema document) added
  pub holds : All IsNoLimit added → added ≡ [] → All (λ o. OperationRootHolds schema document o.value.value) done × IsFalse m.conflicting
  pub silent : All IsNoLimit added → All (λ o. OperationRootHolds schema document o.value.value) done → IsFalse m.conflicting →
      All (λ o. FieldsCanMerge schema (fragments_of document) o.value.value.selection_set) undecided → added ≡ []
  pub shallow : All IsNoLimit added → IsFalse m.too_deep

-- where no limit was reported, none was passed
no_limits : (o : Node Operation) (too_deep : Bool) {reports : List DiagnosticEntry} → AreLimits o too_deep reports → All IsNoLimit reports → (reports ≡ []) × IsFalse too_deep
no_limits o too_deep (within_bound within) none = (refl, within)
no_limits o too_deep (beyond_bound beyond) none = absurd (All-head IsNoLimit _ [] none limit_of_depth)

module _ (schema : Schema) (document : ExecutableDocument) where
  abbrev CheckedEntryReport : DiagnosticEntry → Type 0
  CheckedEntryReport = FixedEntryReport schema document

  abbrev Sub : Node Operation → Type 0
  Sub o = OperationRootHolds schema document o.value.value

  abbrev Merges : Node Operation → Type 0
  Merges o = FieldsCanMerge schema (fragments_of document) o.value.value.selection_set

  pub validated_none : (m : Merging) (old : List DiagnosticEntry) → IsFalse m.conflicting → IsFalse m.too_deep → ValidatedSoFar schema document [] [] m old old
  validated_none m old silent shallow = record {
    added = [];
    appended = sym (append-nil old);
    each = All-nil CheckedEntryReport;
    holds = λ none e. (All-nil Sub, silent);
    silent = λ none sub quiet merge. refl;
    shallow = λ none. shallow;
  }

  pub validated_more : (done : List (Node Operation)) (o : Node Operation) (m m' : Merging) {old now mid after : List DiagnosticEntry} →
      ValidatedSoFar schema document done [] m old now → ReportsWithin IsLimitEntry (Sub o) CheckedEntryReport now mid →
      MergesOneMore schema o m m' mid after → KeepsReports CheckedEntryReport mid after → ValidatedSoFar schema document (done ++ o ∷ []) [] m' old after
  validated_more done o m m' {old} {now} {mid} {after} so_far sub merged kept = record {
    added = so_far.added ++ (sub.added ++ reports);
    appended = appended_then old now after so_far.added (sub.added ++ reports) so_far.appended (appended_then now mid after sub.added reports sub.appended merged.appended);
    each = All-append CheckedEntryReport so_far.added (sub.added ++ reports) so_far.each
        (All-append CheckedEntryReport sub.added reports sub.each (subst (All CheckedEntryReport) (append_cancel_left mid kept.added reports (sym kept.appended ∙ merged.appended)) kept.each));
    holds = λ none e.
        let first = (both_nil so_far.added (sub.added ++ reports)).0 e in
        let second = (both_nil sub.added reports).0 first.1 in
        let third = (both_nil merged.of_shapes (merged.of_fields ++ merged.limits)).0 second.1 in
        let fourth = (both_nil merged.of_fields merged.limits).0 third.1 in
        let before = so_far.holds (earlier none) first.0 in
        let now' = (sub.silent (of_sub none)).0 second.0 in
        (All-append Sub done (o ∷ []) before.0 (All-cons Sub o [] now' (All-nil Sub)), merged.conflicting.1 (before.1, third.0, fourth.0));
    silent = λ none subs quiet merge.
        let parts = merged.conflicting.0 quiet in
        let before = so_far.silent (earlier none) (All-append_left Sub done (o ∷ []) subs) parts.0 merge in
        let now' = (sub.silent (of_sub none)).1 (All-head Sub o [] (All-append_right Sub done (o ∷ []) subs)) in
        let last = (no_limits o m'.too_deep merged.are_limits (of_limits none)).0 in
        (both_nil so_far.added (sub.added ++ reports)).1 (
          before,
          (both_nil sub.added reports).1 (
            now',
            (both_nil merged.of_shapes (merged.of_fields ++ merged.limits)).1 (parts.1, (both_nil merged.of_fields merged.limits).1 (parts.2, last)),
          ),
        );
    shallow = λ none. (no_limits o m'.too_deep merged.are_limits (of_limits none)).1;
  } where
    reports : List DiagnosticEntry
    reports = merged.of_shapes ++ (merged.of_fields ++ merged.limits)

    earlier : All IsNoLimit (so_far.added ++ (sub.added ++ reports)) → All IsNoLimit so_far.added
    earlier none = All-append_left IsNoLimit so_far.added (sub.added ++ reports) none

    of_sub : All IsNoLimit (so_far.added ++ (sub.added ++ reports)) → All IsNoLimit sub.added
    of_sub none = All-append_left IsNoLimit sub.added reports (All-append_right IsNoLimit so_far.added (sub.added ++ reports) none)

    of_limits : All IsNoLimit (so_far.added ++ (sub.added ++ reports)) → All IsNoLimit merged.limits
    of_limits none =
        All-append_right IsNoLimit merged.of_fields merged.limits
        (All-append_right IsNoLimit merged.of_shapes (merged.of_fields ++ merged.limits)
        (All-append_right IsNoLimit sub.added reports (All-append_right IsNoLimit so_far.added (sub.added ++ reports) none)))

  abbrev IsReportOf : Node Operation → DiagnosticEntry → Type 0
  IsReportOf o e = MergingReport schema (fragments_of document) o.value.value.selection_set e.details e.location

  -- nothing true is reported of an operation that merges
  none_of_merging : (o : Node Operation) → Merges o → (added : List DiagnosticEntry) → All (IsReportOf o) added → added ≡ []
  none_of_merging o merges [] each = refl
  none_of_merging o merges (e ∷ added) each =
      absurd (report_breaks schema (fragments_of document) o.value.value.selection_set (All-head (IsReportOf o) e added each) merges)

  -- one operation more was validated, and merging has not decided it
  pub validated_open : (done undecided : List (Node Operation)) (o : Node Operation) (m : Merging) {old now mid after : List DiagnosticEntry} →
      Contains (operations_of document) o → ValidatedSoFar schema document done undecided m old now → ReportsWithin IsLimitEntry (Sub o) CheckedEntryReport now mid →
      KeepsReports (IsReportOf o) mid after → ValidatedSoFar schema document (done ++ o ∷ []) (undecided ++ o ∷ []) m old after
  validated_open done undecided o m {old} {now} {mid} {after} stands so_far sub kept = record {
    added = so_far.added ++ (sub.added ++ kept.added);
    appended = appended_then old now after so_far.added (sub.added ++ kept.added) so_far.appended (appended_then now mid after sub.added kept.added sub.appended kept.appended);
    each = All-append CheckedEntryReport so_far.added (sub.added ++ kept.added) so_far.each
        (All-append CheckedEntryReport sub.added kept.added sub.each (All-weaker (IsReportOf o) CheckedEntryReport (of_merging_rule schema document o stands) kept.added kept.each));
    holds = λ none e.
        let first = (both_nil so_far.added (sub.added ++ kept.added)).0 e in
        let second = (both_nil sub.added kept.added).0 first.1 in
        let before = so_far.holds (earlier none) first.0 in
        let now' = (sub.silent (of_sub none)).0 second.0 in
        (All-append Sub done (o ∷ []) before.0 (All-cons Sub o [] now' (All-nil Sub)), before.1);
    silent = λ none subs quiet merge.
        (both_nil so_far.added (sub.added ++ kept.added)).1 (
          so_far.silent (earlier none) (All-append_left Sub done (o ∷ []) subs) quiet (All-append_left Merges undecided (o ∷ []) merge),
          (both_nil sub.added kept.added).1 (
            (sub.silent (of_sub none)).1 (All-head Sub o [] (All-append_right Sub done (o ∷ []) subs)),
            none_of_merging o (All-head Merges o [] (All-append_right Merges undecided (o ∷ []) merge)) kept.added kept.each,
          ),
        );
    shallow = λ none. so_far.shallow (earlier none);
  } where
    earlier : All IsNoLimit (so_far.added ++ (sub.added ++ kept.added)) → All IsNoLimit so_far.added
    earlier none = All-append_left IsNoLimit so_far.added (sub.added ++ kept.added) none

    of_sub : All IsNoLimit (so_far.added ++ (sub.added ++ kept.added)) → All IsNoLimit sub.added
    of_sub none = All-append_left IsNoLimit sub.added kept.added (All-append_right IsNoLimit so_far.added (sub.added ++ kept.added) none)

  -- where merging is: what it held when it was interrupted, if it was, and which operations it has not decided
  pub record MergedSoFar (done undecided : List (Node Operation)) (interrupted : Bool) (current : Merging) (old now : List DiagnosticEntry) : Type 0 where
    pub held : Merging
    pub split : done ≡ held.operations ++ undecided
    pub merged : HasMerged schema (fragments_of document) held
    pub open_still : IsFalse interrupted → (current ≡ held) × (undecided ≡ [])
    pub so_far : ValidatedSoFar schema document done undecided held old now

  pub merged_none : (undecided : List (Node Operation)) (interrupted : Bool) (m : Merging) (old : List DiagnosticEntry) → undecided ≡ [] → m.operations ≡ [] →
      HasMerged schema (fragments_of document) m → IsFalse m.conflicting → IsFalse m.too_deep → MergedSoFar [] undecided interrupted m old old
  merged_none undecided interrupted m old none operations merged silent shallow = record {
    held = m;
    split = sym (ap (λ u. m.operations ++ u) none ∙ append-nil m.operations ∙ operations);
    merged = merged;
    open_still = λ still. (refl, none);
    so_far = subst (λ u. ValidatedSoFar schema document [] u m old old) (sym none) (validated_none m old silent shallow);
  }

  -- one operation more was decided
  pub merged_more : (done all undecided : List (Node Operation)) (o : Node Operation) (before after : Bool) (m m' : Merging) {old now mid last : List DiagnosticEntry} → all ≡ done ++ o ∷ [] →
      IsFalse before → MergedSoFar done undecided before m old now → ReportsWithin IsLimitEntry (Sub o) CheckedEntryReport now mid →
      MergesOneMore schema o m m' mid last → KeepsReports CheckedEntryReport mid last → HasMerged schema (fragments_of document) m' → MergedSoFar all undecided after m' old last
  merged_more done all undecided o before after m m' {old} {now} {mid} {last} more still so_far sub merges kept merged =
      let was = so_far.open_still still in
      let earlier = subst (λ u. ValidatedSoFar schema document done u m old now) was.1 (subst (λ h. ValidatedSoFar schema document done undecided h old now) (sym was.0) so_far.so_far) in
      let next = validated_more done o m m' earlier sub merges kept in
      let operations : m.operations ≡ done = ap (λ (h : Merging). h.operations) was.0 ∙ sym (append-nil so_far.held.operations) ∙ ap (λ u. so_far.held.operations ++ u) (sym was.1) ∙ sym so_far.split in
      record {
        held = m';
        split = more ∙ sym (merges.operations ∙ ap (λ l. l ++ o ∷ []) operations) ∙ sym (append-nil m'.operations) ∙ ap (λ u. m'.operations ++ u) (sym was.1);
        merged = merged;
        open_still = λ still'. (refl, was.1);
        so_far = subst (λ u. ValidatedSoFar schema document all u m' old last) (sym was.1) (subst (λ l. ValidatedSoFar schema document l [] m' old last) (sym more) next);
      }

  -- one operation more was not decided
  pub merged_open : (done all undecided open' : List (Node Operation)) (o : Node Operation) (before after : Bool) (m m' : Merging) {old now mid last : List DiagnosticEntry} → all ≡ done ++ o ∷ [] → open' ≡ undecided ++ o ∷ [] →
      Contains (operations_of document) o → IsTrue after → MergedSoFar done undecided before m old now → ReportsWithin IsLimitEntry (Sub o) CheckedEntryReport now mid →
      KeepsReports (IsReportOf o) mid last → MergedSoFar all open' after m' old last
  merged_open done all undecided open' o before after m m' {old} {now} {mid} {last} more further stands over so_far sub kept = record {
    held = so_far.held;
    split = more ∙ ap (λ l. l ++ o ∷ []) so_far.split ∙ append_assoc so_far.held.operations undecided (o ∷ []) ∙ ap (λ u. so_far.held.operations ++ u) (sym further);
    merged = so_far.merged;
    open_still = λ still. absurd (let no : ⊥ = cc in no);
    so_far = subst (λ u. ValidatedSoFar schema document all u so_far.held old last) (sym further)
        (subst (λ l. ValidatedSoFar schema document l (undecided ++ o ∷ []) so_far.held old last) (sym more) (validated_open done undecided o so_far.held stands so_far.so_far sub kept));
  }

  -- as long as it is not interrupted, what it holds is of the operations so far
  pub operations_so_far : {done undecided : List (Node Operation)} {interrupted : Bool} {m : Merging} {old now : List DiagnosticEntry} →
      MergedSoFar done undecided interrupted m old now → IsFalse interrupted → m.operations ≡ done
  operations_so_far so_far still =
      let was = so_far.open_still still in
      ap (λ (h : Merging). h.operations) was.0 ∙ sym (append-nil so_far.held.operations) ∙ ap (λ u. so_far.held.operations ++ u) (sym was.1) ∙ sym so_far.split

  -- where nothing was reported, these operations hold as subscriptions
  pub subscriptions_so_far : {done undecided : List (Node Operation)} {m : Merging} {old now last : List DiagnosticEntry} {Q : DiagnosticEntry → Type 0} →
      ValidatedSoFar schema document done undecided m old now → KeepsReports Q now last → Appends (λ added. added ≡ [] → All Sub done) old last
  subscriptions_so_far {old = old} {now = now} {last = last} so_far kept = record {
    added = so_far.added ++ kept.added;
    appended = appended_then old now last so_far.added kept.added so_far.appended kept.appended;
    are = λ nothing.
        let first = ((both_nil so_far.added kept.added).0 nothing).0 in
        (so_far.holds (subst (All IsNoLimit) (sym first) (All-nil IsNoLimit)) first).0;
  }

  -- all operations of a document that was built were validated, and pairs have decided those that were left
  pub validated_all : {undecided : List (Node Operation)} {interrupted : Bool} {m : Merging} {old now last : List DiagnosticEntry} → IsBuilt schema document →
      MergedSoFar (operations_of document) undecided interrupted m old now → Appends (λ added. (added ≡ []) ↔ All Merges undecided) now last → KeepsReports CheckedEntryReport now last →
      ReportsWithin IsLimitEntry (All Sub (operations_of document) × All Merges (operations_of document)) CheckedEntryReport old last
  validated_all {undecided} {interrupted} {m} {old} {now} {last} built merged pairs kept = record {
    added = so_far.added ++ pairs.added;
    appended = appended_then old now last so_far.added pairs.added so_far.appended pairs.appended;
    silent = λ none.
        let first = All-append_left IsNoLimit so_far.added pairs.added none in
        let merge = conflicts_decide schema document held built own merged.merged (so_far.shallow first) in (
          λ e.
              let parts = (both_nil so_far.added pairs.added).0 e in
              let before = so_far.holds first parts.0 in
              (before.0, subst (All Merges) (sym merged.split) (All-append Merges held.operations undecided (merge.0 before.1) (pairs.are.0 parts.1))),
          λ p.
              let all = subst (All Merges) merged.split p.1 in
              let rest = All-append_right Merges held.operations undecided all in
              (both_nil so_far.added pairs.added).1 (so_far.silent first p.0 (merge.1 (All-append_left Merges held.operations undecided all)) rest, pairs.are.1 rest),
        );
    each = All-append CheckedEntryReport so_far.added pairs.added so_far.each (subst (All CheckedEntryReport) (append_cancel_left now kept.added pairs.added (sym kept.appended ∙ pairs.appended)) kept.each);
  } where
    held : Merging
    held = merged.held

    so_far : ValidatedSoFar schema document (operations_of document) undecided merged.held old now
    so_far = merged.so_far

    own : All (Contains (operations_of document)) held.operations
    own = All-append_left (Contains (operations_of document)) held.operations undecided (subst (All (Contains (operations_of document))) merged.split (All-contains_itself (operations_of document)))

  -- what pairs say of operations by references
  pub pairs_kept : (operations : List (Bor (Node Operation))) {now last : List DiagnosticEntry} → All (λ (o : Bor (Node Operation)). Contains (operations_of document) o.now) operations →
      KeepsReports (λ e. Any (λ (o : Bor (Node Operation)). IsReportOf o.now e) operations) now last → KeepsReports CheckedEntryReport now last
  pairs_kept operations own kept =
      kept_wider (λ e any. let h = any_has (λ (o : Bor (Node Operation)). IsReportOf o.now e) operations any in
      of_merging_rule schema document h.0.now (All-contains (λ (o : Bor (Node Operation)). Contains (operations_of document) o.now) operations h.0 own h.1) e h.2) kept

  -- those that are left for pairs are of the document
  pub left_own : (operations : List (Bor (Node Operation))) {interrupted : Bool} {m : Merging} {old now : List DiagnosticEntry} →
      MergedSoFar (operations_of document) (map (λ o. o.now) operations) interrupted m old now → All (λ (o : Bor (Node Operation)). Contains (operations_of document) o.now) operations
  left_own operations merged =
      each_standing (λ (o : Bor (Node Operation)). Contains (operations_of document) o.now) operations
      (λ o stands. subst (λ l. Contains l o.now) (sym merged.split)
      (Contains-append_right merged.held.operations (map (λ o. o.now) operations) o.now (stands_mapped (λ (o : Bor (Node Operation)). o.now) operations o stands)))

-- what a call on a value that merges operations says, of a schema, a document and operations that are those
-- of the value
abbrev pub MergedEntryReport : Schema → ExecutableDocument → List (Node Operation) → Node Operation → DiagnosticEntry → Type 0
MergedEntryReport schema document before o e =
    MergingReport schema (fragments_of document) o.value.value.selection_set e.details e.location ⊎
    MergingLimit schema (fragments_of document) before o e.details e.location

pub merged_kept : {schema schema' : Schema} {document document' : ExecutableDocument} {before before' : List (Node Operation)} (after : List (Node Operation)) (o : Node Operation) {old new : List DiagnosticEntry} →
    schema' ≡ schema → document' ≡ document → before' ≡ before → operations_of document ≡ before ++ o ∷ after → KeepsReports (MergedEntryReport schema' document' before' o) old new →
    KeepsReports (FixedEntryReport schema document) old new
merged_kept {schema} {schema'} {document} {document'} {before} {before'} after o {old} {new} is_schema is_document is_before split kept =
    let stands = subst (λ l. Contains l o) (sym split) (Contains-append_right before (o ∷ after) o (stands_first o after)) in
    kept_wider (of_merged schema document before after o split stands)
    (subst (λ b. KeepsReports (MergedEntryReport schema document b o) old new) is_before
    (subst (λ d. KeepsReports (MergedEntryReport schema d before' o) old new) is_document
    (subst (λ s. KeepsReports (MergedEntryReport s document' before' o) old new) is_schema kept)))

-- what was said so far is true
pub kept_so_far : (schema : Schema) (document : ExecutableDocument) {done undecided : List (Node Operation)} {m : Merging} {old now : List DiagnosticEntry} →
    ValidatedSoFar schema document done undecided m old now → KeepsReports (FixedEntryReport schema document) old now
kept_so_far schema document so_far = record { added = so_far.added; appended = so_far.appended; each = so_far.each }

-- what holds in any case holds of each answer
pub if_ok : {T E A : Type 0} (r : Result T E) → A → OnOk r A
if_ok (Ok x) a = a
if_ok (Err x) a = tt

-- operations in which no fields come together: what is said of them as subscriptions is all that is said
module _ (schema : Schema) (document : ExecutableDocument) where
  abbrev SaidOfSubscriptions : {T E : Type 0} → Result T E → (old new : List DiagnosticEntry) → Type 0
  SaidOfSubscriptions r old new = MatchResult r
      (λ _. ReportsWithin IsLimitEntry (All (Sub schema document) (operations_of document)) (CheckedEntryReport schema document) old new)
      (λ _. KeepsReports (CheckedEntryReport schema document) old new)

  pub lone_hold : {T E : Type 0} (r : Result T E) (old new : List DiagnosticEntry) → All (Merges schema document) (operations_of document) → SaidOfSubscriptions r old new →
      OnOk r (ReportsWithin IsLimitEntry (All (Sub schema document) (operations_of document) × All (Merges schema document) (operations_of document)) (CheckedEntryReport schema document) old new)
  lone_hold (Ok x) old new merge said = in_words_within IsLimitEntry (λ sub. (sub, merge), λ both. both.0) said
  lone_hold (Err x) old new merge said = tt

  pub lone_kept : {T E : Type 0} (r : Result T E) (old new : List DiagnosticEntry) → SaidOfSubscriptions r old new → KeepsReports (CheckedEntryReport schema document) old new
  lone_kept (Ok x) old new said = kept_within IsLimitEntry said
  lone_kept (Err x) old new said = said

  pub lone_subscriptions : {T E : Type 0} (r : Result T E) (old new : List DiagnosticEntry) → SaidOfSubscriptions r old new →
      OnOk r (Appends (λ added. added ≡ [] → All (Sub schema document) (operations_of document)) old new)
  lone_subscriptions (Ok x) old new said = record { added = said.added; appended = said.appended; are = silent_holds said }
  lone_subscriptions (Err x) old new said = tt

-- a document holds exactly where its parts do
pub document_holds : (schema : Schema) (document : ExecutableDocument) →
    ((All (λ o. OperationHolds (Some schema) document o.value.value) (operations_of document) × All (λ d. IsFragmentUsed document d.value.value) (values document.fragments) × DeferHolds document) ×
    (All (λ o. OperationRootHolds schema document o.value.value) (operations_of document) ×
    All (λ o. FieldsCanMerge schema (fragments_of document) o.value.value.selection_set) (operations_of document))) ↔
    DocumentRulesHold (Some schema) document
document_holds schema document = (
  λ p. record {
    operations = p.0.0;
    fragments = p.0.1;
    defer = p.0.2;
    subscriptions = λ s is. subst (λ z. All (λ o. OperationRootHolds z document o.value.value) (operations_of document)) (same_Some schema s is) p.1.0;
    merging = λ s is. subst (λ z. All (λ o. FieldsCanMerge z (fragments_of document) o.value.value.selection_set) (operations_of document)) (same_Some schema s is) p.1.1;
  },
  λ h. ((h.operations, h.fragments, h.defer), (h.subscriptions schema refl, h.merging schema refl)),
)
