use Rattle.std.proofs.Common.{◌≡◌, ◌+◌, ◌-◌, ◌∷◌, ◌++◌, [], Contains, List, Vec, ap, arith, length, refl, subst, sym, take, ◌∙◌}
use Rattle.std.proofs.lemmas.List.{append-nil, map-append}
use Rattle.std.proofs.lemmas.List.Sums.{sum_by_push}
use Rattle.std.specs.Prelude.{sum_by}
use Rattle.std.specs.declared.alloc.Global.{Global}
use Rattle.graphql_documents.proofs.ListLemmas.{more_is, stands_mapped}
use Rattle.graphql_diagnostics.proofs.ReportLemmas.{kept, kept_then}
use Rattle.graphql_diagnostics.specs.Diagnostics.{entries}
use Rattle.graphql_specification.specs.Merging.{Pass}
use Rattle.graphql_specification.specs.MergedSets.{AreConflicts, no_groups}
use Rattle.graphql_specification.specs.Merging as merging
use Rattle.graphql_diagnostics.specs.Reports.{Appends, KeepsReports}
use Rattle.graphql_diagnostics.specs.declared.lists.DiagnosticEntry.{DiagnosticEntry}
use Rattle.graphql_documents.specs.declared.documents.schemas.Schema.{Schema}
use Rattle.graphql_merging.proofs.ConflictLemmas.{kept_among}
use Rattle.graphql_merging.proofs.PassLemmas.{conflicts_then, counted_none, counted_then}
use Rattle.graphql_merging.proofs.WeightLemmas.{arguments_more, arguments_within, weight_more, weight_within}
use Rattle.graphql_merging.specs.NumberedFields.{listed, lists_of}
use Rattle.graphql_merging.specs.Groups.{pass_of}
use Rattle.graphql_merging.specs.Passes.{IsConflictAmong, counted}
use Rattle.graphql_merging.specs.Works.{compared_in}
use Rattle.graphql_merging.specs.declared.numbered_fields.NumberedField.{NumberedField}
use Rattle.graphql_merging.proofs.conflicts.compare_groups.Goals as goal

pub loop-group-init : goal.loop-group-init
loop-group-init g c =
    let schema = c.args.schema.now in
    let pass = pass_of c.args.pass in
    let reports = entries c.args.diagnostics.now in
    record {
      reports = record { added = []; appended = sym (append-nil reports); are = no_groups };
      comparisons = sym (counted_none pass c.args.examined.now.comparisons c.args.examined.now.small);
      lists = refl;
      truth = kept (IsConflictAmong schema pass (lists_of c.args.groups.now)) reports;
      steps = omega arith;
    }

-- what is reported of a group is true of all
whole : (schema : Schema) (pass : Pass) (groups : List (Vec NumberedField Global)) (group : Vec NumberedField Global) (old new : List DiagnosticEntry) → Contains groups group →
    KeepsReports (IsConflictAmong schema pass (listed group.items ∷ [])) old new → KeepsReports (IsConflictAmong schema pass (lists_of groups)) old new
whole schema pass groups group old new stands = kept_among schema pass (listed group.items) (lists_of groups) old new (stands_mapped (λ g. listed g.items) groups group stands)

pub returns-in_err-compare_group-clause-truth : goal.returns-in_err-compare_group-clause-truth
returns-in_err-compare_group-clause-truth g c =
    let schema = c.args.schema.now in
    let pass = pass_of c.args.pass in
    let group = c.group-item.result in
    kept_then c.loop-group.invariant.truth
    (whole schema pass c.args.groups.now group _ _ (c.loop-group.group-index, c.loop-group-test.true, sym c.group-item.is)
    (subst (λ l. KeepsReports (IsConflictAmong schema pass (listed l ∷ [])) (entries c.loop-group.diagnostics) (entries c.compare_group.new.diagnostics))
    c.deref.ensures.value c.compare_group.ensures.truth))

pub loop-group-preserved : goal.loop-group-preserved
loop-group-preserved g c =
    let schema = c.args.schema.now in
    let pass = pass_of c.args.pass in
    let groups = c.args.groups.now in
    let i = c.loop-group.group-index in
    let group = c.group-item.result in
    let done = lists_of (take i groups) in
    let further = λ (l : List merging.FieldSelection). length l - 1 in
    let n = c.args.examined.now.comparisons in
    let mid = entries c.loop-group.diagnostics in
    let new = entries c.compare_group.new.diagnostics in
    let one : lists_of (take (i + 1) groups) ≡ done ++ listed group.items ∷ [] =
    ap lists_of (more_is groups i group c.loop-group-test.true c.group-item.is) ∙ map-append (λ g. listed g.items) (take i groups) (group ∷ []) in
    record {
      reports = subst (λ l. Appends (AreConflicts schema pass l) (entries c.args.diagnostics.now) new) (sym one)
          (conflicts_then c.loop-group.invariant.reports
          (subst (λ l. Appends (AreConflicts schema pass (listed l ∷ [])) mid new) c.deref.ensures.value c.in_ok-compare_group.ensures.conflicts));
      comparisons = c.in_ok-compare_group.ensures.comparisons ∙
          ap (λ (l : List NumberedField). counted pass c.loop-group.examined.comparisons (further (listed l))) c.deref.ensures.value ∙
          ap (λ k. counted pass k (further (listed group.items))) c.loop-group.invariant.comparisons ∙
          counted_then pass n (sum_by further done) (further (listed group.items)) ∙
          ap (counted pass n) (sym (ap (sum_by further) one ∙ sum_by_push further done (listed group.items)));
      lists = c.compare_group.ensures.lists ∙ c.loop-group.invariant.lists;
      truth = kept_then c.loop-group.invariant.truth
          (whole schema pass groups group _ _ (i, c.loop-group-test.true, sym c.group-item.is)
          (subst (λ l. KeepsReports (IsConflictAmong schema pass (listed l ∷ [])) mid new) c.deref.ensures.value c.compare_group.ensures.truth));
      steps = omega (
        arith,
        c.loop-group.invariant.steps,
        c.take.ensures,
        c.compare_group.ensures.steps,
        ap length c.deref.ensures.value,
        weight_more groups i group c.loop-group-test.true c.group-item.is,
        arguments_more c.args.pass groups i group c.loop-group-test.true c.group-item.is,
        ap (λ l. compared_in c.args.pass (listed l)) c.deref.ensures.value,
      );
    }

pub returns-in_err-compare_group-clause-steps : goal.returns-in_err-compare_group-clause-steps
returns-in_err-compare_group-clause-steps g c =
    let groups = c.args.groups.now in
    let i = c.loop-group.group-index in
    omega (
      arith,
      c.loop-group.invariant.steps,
      c.take.ensures,
      c.compare_group.ensures.steps,
      ap length c.deref.ensures.value,
      weight_more groups i c.group-item.result c.loop-group-test.true c.group-item.is,
      weight_within groups (i + 1),
      arguments_more c.args.pass groups i c.group-item.result c.loop-group-test.true c.group-item.is,
      arguments_within c.args.pass groups (i + 1),
      ap (λ l. compared_in c.args.pass (listed l)) c.deref.ensures.value,
    )
