use Rattle.std.proofs.Common.{◌≡◌, ℕ, ◌+◌, ◌≤◌, ◌∷◌, ◌++◌, [], List, ap, arith, drop, length, refl, subst, sym, take, ◌∙◌}
use Rattle.std.proofs.lemmas.List.{length-append, map-append, take-append-drop, take_all}
use Rattle.graphql_documents.proofs.ListLemmas.{more_is}
use Rattle.graphql_diagnostics.specs.Diagnostics.{entries}
use Rattle.graphql_specification.specs.Merging.{FieldSelection}
use Rattle.graphql_specification.specs.MergedSets.{AreConflicts, ConflictsWith}
use Rattle.graphql_diagnostics.specs.Reports.{Appends, KeepsReports}
use Rattle.graphql_merging.proofs.ConflictLemmas.{compared_none, compared_then, empty_compared, group_compared, truly_compared}
use Rattle.graphql_merging.proofs.PassLemmas.{counted_none, counted_then}
use Rattle.graphql_field_conflicts.specs.FieldSelections as plain
use Rattle.graphql_merging.specs.NumberedFields.{listed, selection_of}
use Rattle.graphql_merging.specs.Groups.{pass_of}
use Rattle.graphql_merging.specs.Passes.{IsConflictAmong, counted}
use Rattle.graphql_merging.specs.Works.{compared_in}
use Rattle.graphql_merging.proofs.WeightLemmas.{compared_more, compared_within}
use Rattle.graphql_merging.specs.declared.numbered_fields.NumberedField.{NumberedField}
use Rattle.graphql_merging.proofs.conflicts.compare_group.Goals as goal

-- what is done and what is left of the rest
parts : (i : ℕ) (rest : List NumberedField) → listed rest ≡ listed (take i rest) ++ listed (drop i rest)
parts i rest = ap listed (sym (take-append-drop i rest)) ∙ map-append selection_of (take i rest) (drop i rest)

no_fields : (fields : List NumberedField) → length fields ≡ 0 → listed fields ≡ []
no_fields [] none = refl
no_fields (x ∷ xs) none = absurd (omega arith)

pub returns-in_default-clause-conflicts : goal.returns-in_default-clause-conflicts
returns-in_default-clause-conflicts g c =
    let schema = c.args.schema.now in
    let pass = pass_of c.args.pass in
    let reports = entries c.args.diagnostics.now in
    subst (λ group. Appends (AreConflicts schema pass (group ∷ [])) reports reports) (sym (no_fields c.args.group.now c.in_default.ensures.cases))
    (empty_compared schema pass reports)

pub loop-field-init : goal.loop-field-init
loop-field-init g c = record {
  reports = compared_none c.args.schema.now (pass_of c.args.pass) (plain.selection_of c.in_ok-first.first.selection) (entries c.args.diagnostics.now);
  comparisons = sym (counted_none (pass_of c.args.pass) c.args.examined.now.comparisons c.args.examined.now.small);
  lists = refl;
  read = c.in_ok-first.ensures.read;
  selection = refl;
  steps = omega arith;
}

pub returns-in_err-compare-clause-steps : goal.returns-in_err-compare-clause-steps
returns-in_err-compare-clause-steps g c =
    let first = plain.selection_of c.in_ok-first.first.selection in
    let first_is : first ≡ selection_of c.in-Some.first.now = ap plain.selection_of c.in_ok-first.ensures.selection ∙ c.selection.ensures in
    let rest = c.in-Some.rest.now in
    let i = c.loop-field.field-index in
    let x = c.field-item.result in
    let done = listed (take i rest) in
    let one : listed (take (i + 1) rest) ≡ done ++ selection_of x ∷ [] =
    ap listed (more_is rest i x c.loop-field-test.true c.field-item.is) ∙ map-append selection_of (take i rest) (x ∷ []) in
    let taken : c.compare.new.steps ≤ c.take.new.self + compared_in c.args.pass (first ∷ selection_of x ∷ []) =
    subst (λ y. c.compare.new.steps ≤ c.take.new.self + compared_in c.args.pass (first ∷ y ∷ [])) c.selection-in-loop-field.ensures
    (subst (λ (s : FieldSelection). c.compare.new.steps ≤ c.take.new.self + compared_in c.args.pass (s ∷ plain.selection_of c.selection-in-loop-field.result ∷ []))
    (ap plain.selection_of c.loop-field.invariant.selection) c.compare.ensures.steps) in
    omega (
      arith,
      c.loop-field.invariant.steps,
      c.take.ensures,
      taken,
      c.loop-field-test.true,
      ap (λ l. compared_in c.args.pass (first ∷ l)) one,
      compared_more c.args.pass first done (selection_of x),
      compared_within c.args.pass first (listed (take (i + 1) rest)) (listed (drop (i + 1) rest)),
      ap (λ l. compared_in c.args.pass (first ∷ l)) (parts (i + 1) rest),
      ap length c.in-Some.ensures.cases.0,
      ap (λ l. compared_in c.args.pass (listed l)) c.in-Some.ensures.cases.0,
      ap (λ s. compared_in c.args.pass (s ∷ listed rest)) first_is,
    )

pub returns-clause-steps : goal.returns-clause-steps
returns-clause-steps g c =
    let first = plain.selection_of c.in_ok-first.first.selection in
    let first_is : first ≡ selection_of c.in-Some.first.now = ap plain.selection_of c.in_ok-first.ensures.selection ∙ c.selection.ensures in
    let rest = c.in-Some.rest.now in
    let i = c.loop-field.field-index in
    omega (
      arith,
      c.loop-field.invariant.steps,
      c.loop-field.auto.field-index-end,
      ap (λ l. compared_in c.args.pass (first ∷ listed l)) (take_all i rest c.loop-field-test.false),
      ap length c.in-Some.ensures.cases.0,
      ap (λ l. compared_in c.args.pass (listed l)) c.in-Some.ensures.cases.0,
      ap (λ s. compared_in c.args.pass (s ∷ listed rest)) first_is,
    )

pub returns-in_err-compare-clause-truth : goal.returns-in_err-compare-clause-truth
returns-in_err-compare-clause-truth g c =
    let schema = c.args.schema.now in
    let pass = pass_of c.args.pass in
    let first = selection_of c.in-Some.first.now in
    let first_is : plain.selection_of c.in_ok-first.first.selection ≡ first = ap plain.selection_of c.in_ok-first.ensures.selection ∙ c.selection.ensures in
    let rest = c.in-Some.rest.now in
    let i = c.loop-field.field-index in
    let group = ap listed c.in-Some.ensures.cases.0 ∙ ap (λ l. first ∷ l) (parts i rest) in
    subst (KeepsReports (IsConflictAmong schema pass (listed c.args.group.now ∷ [])) (entries c.args.diagnostics.now)) (sym c.in_err-compare.ensures.reports)
    (truly_compared schema pass first (listed (take i rest)) (listed (drop i rest)) (listed c.args.group.now) _ _ group
    (subst (λ (s : FieldSelection). Appends (ConflictsWith schema pass s (listed (take i rest))) (entries c.args.diagnostics.now) (entries c.loop-field.diagnostics)) first_is c.loop-field.invariant.reports))

pub loop-field-preserved : goal.loop-field-preserved
loop-field-preserved g c =
    let schema = c.args.schema.now in
    let pass = pass_of c.args.pass in
    let first = plain.selection_of c.in_ok-first.first.selection in
    let rest = c.in-Some.rest.now in
    let i = c.loop-field.field-index in
    let x = c.field-item.result in
    let done = listed (take i rest) in
    let one : listed (take (i + 1) rest) ≡ done ++ selection_of x ∷ [] =
    ap listed (more_is rest i x c.loop-field-test.true c.field-item.is) ∙ map-append selection_of (take i rest) (x ∷ []) in
    let mid = entries c.loop-field.diagnostics in
    let new = entries c.compare.new.diagnostics in
    let compared = subst (λ (y : FieldSelection). Appends (ConflictsWith schema pass first (y ∷ [])) mid new) c.selection-in-loop-field.ensures
    (subst (λ (s : FieldSelection). Appends (ConflictsWith schema pass s (plain.selection_of c.selection-in-loop-field.result ∷ [])) mid new)
    (ap plain.selection_of c.loop-field.invariant.selection) c.in_ok-compare.ensures.reports) in
    record {
      reports = subst (λ l. Appends (ConflictsWith schema pass first l) (entries c.args.diagnostics.now) new) (sym one)
          (compared_then schema pass c.loop-field.invariant.reports compared);
      comparisons = c.compare.ensures.comparisons ∙ ap (λ n. counted pass n 1) c.loop-field.invariant.comparisons ∙
          counted_then pass c.args.examined.now.comparisons (length done) 1 ∙
          ap (counted pass c.args.examined.now.comparisons) (sym (ap length one ∙ length-append done (selection_of x ∷ [])));
      lists = c.compare.ensures.lists ∙ c.loop-field.invariant.lists;
      read = c.in_ok-compare.ensures.read;
      selection = c.compare.ensures.selection ∙ c.loop-field.invariant.selection;
      steps =
          let taken : c.compare.new.steps ≤ c.take.new.self + compared_in c.args.pass (first ∷ selection_of x ∷ []) =
          subst (λ y. c.compare.new.steps ≤ c.take.new.self + compared_in c.args.pass (first ∷ y ∷ [])) c.selection-in-loop-field.ensures
          (subst (λ (s : FieldSelection). c.compare.new.steps ≤ c.take.new.self + compared_in c.args.pass (s ∷ plain.selection_of c.selection-in-loop-field.result ∷ []))
          (ap plain.selection_of c.loop-field.invariant.selection) c.compare.ensures.steps) in
          omega (arith, c.loop-field.invariant.steps, c.take.ensures, taken, ap (λ l. compared_in c.args.pass (first ∷ l)) one, compared_more c.args.pass first done (selection_of x));
    }

pub returns-clause-conflicts : goal.returns-clause-conflicts
returns-clause-conflicts g c =
    let schema = c.args.schema.now in
    let pass = pass_of c.args.pass in
    let first = selection_of c.in-Some.first.now in
    let first_is : plain.selection_of c.in_ok-first.first.selection ≡ first = ap plain.selection_of c.in_ok-first.ensures.selection ∙ c.selection.ensures in
    let rest = c.in-Some.rest.now in
    let i = c.loop-field.field-index in
    let old = entries c.args.diagnostics.now in
    let new = entries c.loop-field.diagnostics in
    subst (λ group. Appends (AreConflicts schema pass (group ∷ [])) old new) (sym (ap listed c.in-Some.ensures.cases.0))
    (group_compared schema pass first (listed rest) old new
    (subst (λ l. Appends (ConflictsWith schema pass first (listed l)) old new) (take_all i rest c.loop-field-test.false)
    (subst (λ (s : FieldSelection). Appends (ConflictsWith schema pass s (listed (take i rest))) (entries c.args.diagnostics.now) (entries c.loop-field.diagnostics)) first_is c.loop-field.invariant.reports)))

pub returns-clause-truth : goal.returns-clause-truth
returns-clause-truth g c =
    let schema = c.args.schema.now in
    let pass = pass_of c.args.pass in
    let first = selection_of c.in-Some.first.now in
    let first_is : plain.selection_of c.in_ok-first.first.selection ≡ first = ap plain.selection_of c.in_ok-first.ensures.selection ∙ c.selection.ensures in
    let rest = c.in-Some.rest.now in
    let i = c.loop-field.field-index in
    let group = ap listed c.in-Some.ensures.cases.0 ∙ ap (λ l. first ∷ l) (parts i rest) in
    truly_compared schema pass first (listed (take i rest)) (listed (drop i rest)) (listed c.args.group.now) _ _ group
    (subst (λ (s : FieldSelection). Appends (ConflictsWith schema pass s (listed (take i rest))) (entries c.args.diagnostics.now) (entries c.loop-field.diagnostics)) first_is c.loop-field.invariant.reports)
