use Rattle.std.proofs.Common.{[], ◌∷◌, nat_lt, refl, rules, subst}
use Rattle.graphql_contents.specs.Documents.{document_in}
use Rattle.graphql_diagnostics.specs.Diagnostics.{entries}
use Rattle.graphql_diagnostics.specs.Reports.{KeepsReports}
use Rattle.graphql_diagnostics.specs.declared.lists.DiagnosticEntry.{DiagnosticEntry}
use Rattle.graphql_specification.specs.MergedSets.{Expansion, merged_operation}
use Rattle.graphql_specification.specs.Merging.{MergingReport, field_pass, shape_pass}
use Rattle.graphql_documents.specs.Selections.{fragments_of}
use Rattle.graphql_documents.specs.declared.documents.executables.Operation.{Operation}
use Rattle.graphql_documents.proofs.ListLemmas.{stands_first}
use Rattle.graphql_diagnostics.proofs.ReportLemmas.{kept_then}
use Rattle.graphql_documents.proofs.SelectionLemmas.{one_fragment_found}
use Rattle.graphql_merging.specs.MergedOperations.{ExaminesInBoth}
use Rattle.graphql_merging.specs.Passes.{ExaminesSet}
use Rattle.graphql_merging.specs.Stages.{examined_lists, stage_of}
use Rattle.graphql_merging.specs.Mergers.{schema_of}
use Rattle.graphql_merging.proofs.MergingReportLemmas.{conflicts_reported}
use Rattle.graphql_merging.proofs.merging.FieldsInSetCanMerge.examine_operation.Goals as goal

pub returns-in_err-examine_set-clause-truth : goal.returns-in_err-examine_set-clause-truth
returns-in_err-examine_set-clause-truth g c =
    let m = c.args.self.now in
    let o = c.args.operation.now in
    let d = document_in c.number_operation.new.self in
    subst (λ d. KeepsReports (λ (e : DiagnosticEntry). MergingReport (schema_of m) (fragments_of d) o.value.value.selection_set e.details e.location)
    (entries c.args.diagnostics.now) (entries c.examine_set.new.diagnostics)) c.number_operation.ensures.document
    (conflicts_reported (schema_of m) (fragments_of d) (one_fragment_found d) o shape_pass
    (c.in_err-examine_set.ensures.truth (o ∷ []) (λ fields expansion. merged_operation (stands_first o []) (subst (λ (v : Operation). Expansion (fragments_of d) (v.selection_set ∷ []) fields) c.deref.ensures expansion))))

pub returns-in_err-examine_set-2-clause-truth : goal.returns-in_err-examine_set-2-clause-truth
returns-in_err-examine_set-2-clause-truth g c =
    let m = c.args.self.now in
    let o = c.args.operation.now in
    let d = document_in c.number_operation.new.self in
    subst (λ d. KeepsReports (λ (e : DiagnosticEntry). MergingReport (schema_of m) (fragments_of d) o.value.value.selection_set e.details e.location)
    (entries c.args.diagnostics.now) (entries c.examine_set-2.new.diagnostics)) c.number_operation.ensures.document
    (kept_then (conflicts_reported (schema_of m) (fragments_of d) (one_fragment_found d) o shape_pass
    (c.in_ok-examine_set.ensures.truth (o ∷ []) (λ fields expansion. merged_operation (stands_first o []) (subst (λ (v : Operation). Expansion (fragments_of d) (v.selection_set ∷ []) fields) c.deref.ensures expansion))))
    (conflicts_reported (schema_of m) (fragments_of d) (one_fragment_found d) o field_pass
    (c.in_err-examine_set-2.ensures.truth (o ∷ []) (λ fields expansion. merged_operation (stands_first o []) (subst (λ (v : Operation). Expansion (fragments_of d) (v.selection_set ∷ []) fields) c.deref.ensures expansion)))))

pub returns-clause-truth : goal.returns-clause-truth
returns-clause-truth g c =
    let m = c.args.self.now in
    let o = c.args.operation.now in
    let d = document_in c.number_operation.new.self in
    subst (λ d. KeepsReports (λ (e : DiagnosticEntry). MergingReport (schema_of m) (fragments_of d) o.value.value.selection_set e.details e.location)
    (entries c.args.diagnostics.now) (entries c.examine_set-2.new.diagnostics)) c.number_operation.ensures.document
    (kept_then (conflicts_reported (schema_of m) (fragments_of d) (one_fragment_found d) o shape_pass
    (c.in_ok-examine_set.ensures.truth (o ∷ []) (λ fields expansion. merged_operation (stands_first o []) (subst (λ (v : Operation). Expansion (fragments_of d) (v.selection_set ∷ []) fields) c.deref.ensures expansion))))
    (conflicts_reported (schema_of m) (fragments_of d) (one_fragment_found d) o field_pass
    (c.in_ok-examine_set-2.ensures.truth (o ∷ []) (λ fields expansion. merged_operation (stands_first o []) (subst (λ (v : Operation). Expansion (fragments_of d) (v.selection_set ∷ []) fields) c.deref.ensures expansion)))))

pub returns-clause-examines : goal.returns-clause-examines
returns-clause-examines g c =
    let m = c.args.self.now in
    let d = document_in c.number_operation.new.self in
    let shapes = c.examine_set.new.examined in
    let fields = c.examine_set-2.new.examined in
    subst (λ d. ExaminesInBoth (schema_of m) (fragments_of d) c.args.operation.now.value.value.selection_set (examined_lists m.shapes) (examined_lists shapes)
    (examined_lists m.fields) (examined_lists fields) m.shapes.comparisons shapes.comparisons (entries c.args.diagnostics.now) (entries c.examine_set-2.new.diagnostics)
    (nat_lt 128 c.high.result)) c.number_operation.ensures.document
    (record {
      shapes_before = stage_of m.shapes c.new-depth.result c.args.diagnostics.now;
      shapes_after = stage_of shapes c.examine_set.new.depth c.examine_set.new.diagnostics;
      fields_before = stage_of m.fields c.examine_set.new.depth c.examine_set.new.diagnostics;
      fields_after = stage_of fields c.examine_set-2.new.depth c.examine_set-2.new.diagnostics;
      of_shapes = subst (λ (v : Operation). ExaminesSet (schema_of m) (fragments_of d) shape_pass v.selection_set (stage_of m.shapes c.new-depth.result c.args.diagnostics.now)
          (stage_of shapes c.examine_set.new.depth c.examine_set.new.diagnostics)) c.deref.ensures c.in_ok-examine_set.ensures.examines;
      of_fields = subst (λ (v : Operation). ExaminesSet (schema_of m) (fragments_of d) field_pass v.selection_set (stage_of m.fields c.examine_set.new.depth c.examine_set.new.diagnostics)
          (stage_of fields c.examine_set-2.new.depth c.examine_set-2.new.diagnostics)) c.deref.ensures c.in_ok-examine_set-2.ensures.examines;
      shapes_old = refl;
      shapes_new = refl;
      comparisons_old = refl;
      comparisons_new = refl;
      fields_old = refl;
      fields_new = refl;
      depth_first = search rules;
      depth_next = refl;
      highest_first = search rules;
      highest_next = refl;
      reports_first = refl;
      reports_next = refl;
      reports_last = refl;
      deep_is = search rules;
    })
