use Rattle.std.proofs.Common.{◌↔◌, ◌<◌, ◌||◌, IsTrue, length, map, nat_lt, ◌∙◌, ap, inl}
use Rattle.std.proofs.lemmas.List.{map-append}
use Rattle.graphql_diagnostics.specs.Diagnostics.{entries}
use Rattle.graphql_specification.specs.Merging.{MergingReport}
use Rattle.graphql_diagnostics.specs.declared.lists.DiagnosticEntry.{DiagnosticEntry}
use Rattle.graphql_documents.specs.Selections.{fragments_of}
use Rattle.graphql_diagnostics.proofs.ReportLemmas.{kept_then, kept_wider}
use Rattle.graphql_documents.proofs.SelectionLemmas.{one_fragment_found}
use Rattle.graphql_merging.specs.Mergers.{document_of, merging_of, schema_of}
use Rattle.graphql_merging.proofs.MergingReportLemmas.{limit_kept, limit_reported}
use Rattle.graphql_merging.proofs.MergedOperationLemmas.{longer, merged_next, one_more, too_deep_so_far}
use Rattle.graphql_merging.proofs.merging.FieldsInSetCanMerge.merge_operation.Goals as goal

pub returns-in_err-deep-clause-reports : goal.returns-in_err-deep-clause-reports
returns-in_err-deep-clause-reports g c = kept_wider (λ e says. inl says) c.in_err-deep.ensures.truth

pub returns-clause-reports : goal.returns-clause-reports
returns-clause-reports g c =
    let m = c.args.self.now in
    let o = c.args.operation.now in
    let too_deep = c.examine_operation.new.self.too_deep || c.in_ok-deep.deep in
    kept_then (kept_wider (λ e says. inl says) c.in_ok-deep.ensures.truth)
    (limit_kept c.report_limit.result
    (λ (e : DiagnosticEntry). MergingReport (schema_of m) (fragments_of (document_of m)) o.value.value.selection_set e.details e.location)
    o too_deep (entries c.examine_operation.new.diagnostics) (entries c.report_limit.new.diagnostics) c.report_limit.ensures.limits c.report_limit.ensures.err)

pub returns-clause-merges : goal.returns-clause-merges
returns-clause-merges g c =
    let m = c.args.self.now in
    let S = schema_of m in
    let F = fragments_of (document_of m) in
    let o = c.args.operation.now in
    let conflicts = nat_lt c.len-reports.result c.len.result in
    let deep = c.in_ok-deep.deep in
    let held = c.examine_operation.new.self in
    let new = merging_of (record {
      schema = held.schema;
      numbered = held.numbered;
      operations = held.operations;
      shapes = held.shapes;
      fields = held.fields;
      conflicting = held.conflicting || conflicts;
      too_deep = held.too_deep || deep;
      refused = held.refused;
      shapes_are = held.shapes_are;
      fields_are = held.fields_are;
    }) in
    let before = entries c.args.diagnostics.now in
    let mid = entries c.examine_operation.new.diagnostics in
    let operations = c.in_ok-deep.ensures.operations ∙ ap (map (λ o. o.now)) c.in_ok-push.ensures.items ∙ map-append (λ o. o.now) m.operations.items _ in
    let conflicting = ap (λ b. b || conflicts) c.in_ok-deep.ensures.conflicting in
    let too_deep = ap (λ b. b || deep) c.in_ok-deep.ensures.too_deep in
    let conflicts_is : IsTrue conflicts ↔ (length before < length mid) = longer c.len-reports.result c.len.result before mid c.len-reports.ensures c.len.ensures in
    one_more S F (one_fragment_found (document_of m)) o (merging_of m) new deep conflicts c.in_ok-deep.ensures.examines operations conflicting too_deep conflicts_is c.in_ok-report_limit.ensures.limits

pub returns-clause-merged : goal.returns-clause-merged
returns-clause-merged g c =
    let m = c.args.self.now in
    let S = schema_of m in
    let F = fragments_of (document_of m) in
    let o = c.args.operation.now in
    let conflicts = nat_lt c.len-reports.result c.len.result in
    let deep = c.in_ok-deep.deep in
    let held = c.examine_operation.new.self in
    let new = merging_of (record {
      schema = held.schema;
      numbered = held.numbered;
      operations = held.operations;
      shapes = held.shapes;
      fields = held.fields;
      conflicting = held.conflicting || conflicts;
      too_deep = held.too_deep || deep;
      refused = held.refused;
      shapes_are = held.shapes_are;
      fields_are = held.fields_are;
    }) in
    let before = entries c.args.diagnostics.now in
    let mid = entries c.examine_operation.new.diagnostics in
    let operations = c.in_ok-deep.ensures.operations ∙ ap (map (λ o. o.now)) c.in_ok-push.ensures.items ∙ map-append (λ o. o.now) m.operations.items _ in
    let conflicting = ap (λ b. b || conflicts) c.in_ok-deep.ensures.conflicting in
    let too_deep = ap (λ b. b || deep) c.in_ok-deep.ensures.too_deep in
    let conflicts_is : IsTrue conflicts ↔ (length before < length mid) = longer c.len-reports.result c.len.result before mid c.len-reports.ensures c.len.ensures in
    merged_next S F (one_fragment_found (document_of m)) o (merging_of m) new deep conflicts c.in_ok-deep.ensures.examines operations conflicting too_deep conflicts_is

pub returns-clause-truth : goal.returns-clause-truth
returns-clause-truth g c was =
    let m = c.args.self.now in
    let S = schema_of m in
    let F = fragments_of (document_of m) in
    let o = c.args.operation.now in
    let conflicts = nat_lt c.len-reports.result c.len.result in
    let deep = c.in_ok-deep.deep in
    let held = c.examine_operation.new.self in
    let new = merging_of (record {
      schema = held.schema;
      numbered = held.numbered;
      operations = held.operations;
      shapes = held.shapes;
      fields = held.fields;
      conflicting = held.conflicting || conflicts;
      too_deep = held.too_deep || deep;
      refused = held.refused;
      shapes_are = held.shapes_are;
      fields_are = held.fields_are;
    }) in
    let before = entries c.args.diagnostics.now in
    let mid = entries c.examine_operation.new.diagnostics in
    let operations = c.in_ok-deep.ensures.operations ∙ ap (map (λ o. o.now)) c.in_ok-push.ensures.items ∙ map-append (λ o. o.now) m.operations.items _ in
    let conflicting = ap (λ b. b || conflicts) c.in_ok-deep.ensures.conflicting in
    let too_deep = ap (λ b. b || deep) c.in_ok-deep.ensures.too_deep in
    let conflicts_is : IsTrue conflicts ↔ (length before < length mid) = longer c.len-reports.result c.len.result before mid c.len-reports.ensures c.len.ensures in
    kept_then (kept_wider (λ e says. inl says) c.in_ok-deep.ensures.truth)
    (limit_reported c.report_limit.result S F (merging_of m).operations o new.too_deep mid (entries c.report_limit.new.diagnostics) c.report_limit.ensures.limits c.report_limit.ensures.err
    (too_deep_so_far S F (one_fragment_found (document_of m)) o (merging_of m) new deep conflicts c.in_ok-deep.ensures.examines operations conflicting too_deep conflicts_is was))
