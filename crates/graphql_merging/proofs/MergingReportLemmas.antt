-- What a diagnostic of a conflict says of an operation.
use Rattle.std.proofs.Common.{◌≡◌, Bool, List, [], ◌∷◌, inr, sym, subst, All}
use Rattle.std.proofs.lemmas.List.Elements.{All-cons, All-nil}
use Rattle.std.specs.Prelude.{◌⊎◌, Err, IsTrue, Ok, OnErr, OnOk, Option, Result}
use Rattle.graphql_specification.specs.Merging.{Pass, field_pass, shape_pass, FieldSelection, ComeTogether, MergingReport, of_conflict}
use Rattle.graphql_diagnostics.specs.Diagnostics.{IsLimitEntry, limit_of_depth}
use Rattle.graphql_specification.specs.MergedSets.{MergingLimit, MergingNestsTooDeep, merging_nests, ConflictReport}
use Rattle.graphql_nodes.specs.Names.{NameText, SameName}
use Rattle.graphql_diagnostics.specs.Reports.{Appends, KeepsReports}
use Rattle.graphql_documents.specs.Selections.{Fragments}
use Rattle.graphql_diagnostics.specs.declared.details.Details.TheVariants as details
use Rattle.graphql_diagnostics.specs.declared.details.Details.{Details}
use Rattle.graphql_diagnostics.specs.declared.lists.DiagnosticEntry.{DiagnosticEntry}
use Rattle.graphql_documents.specs.declared.documents.executables.Operation.{Operation}
use Rattle.graphql_documents.specs.declared.documents.executables.SelectionSet.{SelectionSet}
use Rattle.graphql_nodes.specs.declared.nodes.Node.{Node}
use Rattle.graphql_documents.specs.declared.documents.schemas.Schema.{Schema}
use Rattle.graphql_nodes.specs.declared.spans.SourceSpan.{SourceSpan}
use Rattle.graphql_documents.proofs.ListLemmas.{only_one}
use Rattle.graphql_diagnostics.proofs.ReportLemmas.{kept, kept_wider}
use Rattle.graphql_laws.proofs.MergedListLaws.{fields_come_together, group_has, shapes_come_together}
use Rattle.graphql_laws.proofs.OrderedGroupLaws.{groups_listed}
use Rattle.graphql_merging.specs.MergedOperations.{AreLimits, beyond_bound, within_bound}
use Rattle.graphql_merging.specs.Passes.{IsConflict}

report_of : (schema : Schema) (fragments : Fragments) (pass : Pass) (set : SelectionSet) (x y : FieldSelection) (said : Details) (at : Option SourceSpan) →
    ComeTogether schema fragments pass set x y → ConflictReport schema pass x y said at → MergingReport schema fragments set said at
report_of schema fragments pass set x y (details.Build e) at together says = of_conflict (record { pass = pass; x = x; y = y; together = together; conflict = says })
report_of schema fragments pass set x y said at together says = absurd says

module _ (schema : Schema) (fragments : Fragments) (respects : (a b : NameText) → SameName a b → fragments a ≡ fragments b) (o : Node Operation) where
  conflict_together : (pass : Pass) (e : DiagnosticEntry) (c : IsConflict schema fragments (o ∷ []) pass e) →
      ComeTogether schema fragments pass o.value.value.selection_set c.conflict.x c.conflict.y
  conflict_together shape_pass e c =
      let has = group_has schema shape_pass c.list c.conflict.group c.conflict.x c.conflict.y ((groups_listed schema c.list shape_pass c.conflict.group).0 c.conflict.stands) c.conflict.in_x c.conflict.in_y in
      let t = shapes_come_together schema fragments respects (o ∷ []) c.list c.conflict.x c.conflict.y c.merged has.0 has.1 has.2 in
      subst (λ p. ComeTogether schema fragments shape_pass p.value.value.selection_set c.conflict.x c.conflict.y) (only_one o t.0 t.3) (t.1, t.2, t.4)
  conflict_together field_pass e c =
      let has = group_has schema field_pass c.list c.conflict.group c.conflict.x c.conflict.y ((groups_listed schema c.list field_pass c.conflict.group).0 c.conflict.stands) c.conflict.in_x c.conflict.in_y in
      let t = fields_come_together schema fragments respects (o ∷ []) c.list c.conflict.x c.conflict.y c.merged has.0 has.1 has.2 has.3 in
      subst (λ p. ComeTogether schema fragments field_pass p.value.value.selection_set c.conflict.x c.conflict.y) (only_one o t.0 t.3) (t.1, t.2, t.4, t.5)

  -- the diagnostics of conflicts of an operation are true
  pub conflicts_reported : (pass : Pass) {old new : List DiagnosticEntry} → KeepsReports (IsConflict schema fragments (o ∷ []) pass) old new →
      KeepsReports (λ e. MergingReport schema fragments o.value.value.selection_set e.details e.location) old new
  conflicts_reported pass kept =
      kept_wider (λ e c. report_of schema fragments pass o.value.value.selection_set c.conflict.x c.conflict.y e.details e.location (conflict_together pass e c) c.conflict.says) kept

abbrev Said : Schema → Fragments → List (Node Operation) → Node Operation → DiagnosticEntry → Type 0
Said schema fragments before o e =
    MergingReport schema fragments o.value.value.selection_set e.details e.location ⊎ MergingLimit schema fragments before o e.details e.location

limits_true : (schema : Schema) (fragments : Fragments) (before : List (Node Operation)) (o : Node Operation) (too_deep : Bool) {reports : List DiagnosticEntry} →
    (IsTrue too_deep → MergingNestsTooDeep schema fragments before o o.location) → AreLimits o too_deep reports → All (Said schema fragments before o) reports
limits_true schema fragments before o too_deep nests (within_bound within) = All-nil (Said schema fragments before o)
limits_true schema fragments before o too_deep nests (beyond_bound beyond) =
    All-cons (Said schema fragments before o) _ [] (inr (merging_nests (nests beyond))) (All-nil (Said schema fragments before o))

limits_are : (P : DiagnosticEntry → Type 0) {o : Node Operation} {too_deep : Bool} {reports : List DiagnosticEntry} → AreLimits o too_deep reports → All (λ e. P e ⊎ IsLimitEntry e) reports
limits_are P (within_bound within) = All-nil (λ e. P e ⊎ IsLimitEntry e)
limits_are P (beyond_bound beyond) = All-cons (λ e. P e ⊎ IsLimitEntry e) _ [] (inr limit_of_depth) (All-nil (λ e. P e ⊎ IsLimitEntry e))

-- behind other reports there is that of the limit, or none
pub limit_kept : {T E : Type 0} (r : Result T E) (P : DiagnosticEntry → Type 0) (o : Node Operation) (too_deep : Bool) (mid after : List DiagnosticEntry) →
    OnOk r (Appends (AreLimits o too_deep) mid after) → OnErr r (after ≡ mid) → KeepsReports (λ e. P e ⊎ IsLimitEntry e) mid after
limit_kept (Ok x) P o too_deep mid after limits unchanged = record { added = limits.added; appended = limits.appended; each = limits_are P limits.are }
limit_kept (Err x) P o too_deep mid after limits unchanged =
    subst (KeepsReports (λ e. P e ⊎ IsLimitEntry e) mid) (sym unchanged) (kept (λ e. P e ⊎ IsLimitEntry e) mid)

-- the diagnostic of the limit is true where one of the operations nests too deep
pub limit_reported : {T E : Type 0} (r : Result T E) (schema : Schema) (fragments : Fragments) (before : List (Node Operation)) (o : Node Operation) (too_deep : Bool) (mid after : List DiagnosticEntry) →
    OnOk r (Appends (AreLimits o too_deep) mid after) → OnErr r (after ≡ mid) → (IsTrue too_deep → MergingNestsTooDeep schema fragments before o o.location) →
    KeepsReports (Said schema fragments before o) mid after
limit_reported (Ok x) schema fragments before o too_deep mid after limits unchanged nests =
    record { added = limits.added; appended = limits.appended; each = limits_true schema fragments before o too_deep nests limits.are }
limit_reported (Err x) schema fragments before o too_deep mid after limits unchanged nests =
    subst (KeepsReports (Said schema fragments before o) mid) (sym unchanged) (kept (Said schema fragments before o) mid)
