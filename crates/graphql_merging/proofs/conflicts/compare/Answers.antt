use Rattle.std.proofs.Common.{◌∷◌, [], ◌∙◌, subst, sym}
use Rattle.std.specs.Prelude.{MatchOption}
use Rattle.graphql_diagnostics.specs.Diagnostics.{entries}
use Rattle.graphql_specification.specs.Merging.{SameNameAndArguments, field_pass, shape_pass}
use Rattle.graphql_specification.specs.MergedSets.{ConflictsWith}
use Rattle.graphql_diagnostics.specs.Reports.{Appends}
use Rattle.graphql_merging.proofs.ConflictLemmas.{compared_alike, compared_apart}
use Rattle.graphql_field_conflicts.specs.Comparisons.{Conflicts}
use Rattle.graphql_field_conflicts.specs.Conflicts.{ComparesField}
use Rattle.graphql_field_conflicts.specs.FieldSelections.{selection_of}
use Rattle.graphql_merging.specs.Groups.{pass_of}
use Rattle.graphql_field_conflicts.specs.declared.field_selections.FieldSelection.{FieldSelection}
use Rattle.graphql_merging.proofs.conflicts.compare.Goals as goal

pub report_types-requires : goal.report_types-requires
report_types-requires g c = (
  c.args.schema.now,
  λ same. let no = sym (c.have_one_shape.ensures.answer.1 same) ∙ c.if-have_one_shape.false in let no : ⊥ = cc in no,
)

pub report_conflict-requires : goal.report_conflict-requires
report_conflict-requires g c =
    let x = selection_of c.args.first.now.selection in
    let y = selection_of c.args.field in
    let conflicts = subst (λ o. MatchOption o (SameNameAndArguments x.field.value.value y.field.value.value) (Conflicts x.field.value.value y.field.value.value)) c.in-Some.is
    c.in_ok-find_conflict-in-NamesAndArguments.ensures.conflict in
    subst (λ (s : FieldSelection). Conflicts s.field.now.value.value y.field.value.value c.in-Some.conflict) (sym c.find_conflict.ensures.selection) conflicts

pub returns-then-have_one_shape-clause-reports : goal.returns-then-have_one_shape-clause-reports
returns-then-have_one_shape-clause-reports g c =
    let schema = c.args.schema.now in
    let x = selection_of c.args.first.now.selection in
    let y = selection_of c.args.field in
    let reports = entries c.args.diagnostics.now in
    subst (λ pass. Appends (ConflictsWith schema (pass_of pass) x (y ∷ [])) reports reports) (sym c.in-Shapes.is)
    (compared_alike schema shape_pass x y reports (c.have_one_shape.ensures.answer.0 c.if-have_one_shape.true))

pub returns-else-have_one_shape-clause-reports : goal.returns-else-have_one_shape-clause-reports
returns-else-have_one_shape-clause-reports g c =
    let schema = c.args.schema.now in
    let x = selection_of c.args.first.now.selection in
    let y = selection_of c.args.field in
    subst (λ pass. ComparesField c.report_types.result schema (pass_of pass) x y c.args.diagnostics.now c.report_types.new.diagnostics) (sym c.in-Shapes.is)
    (compared_apart schema shape_pass c.report_types.result x y _ _ (c.report_types.ensures schema
    (λ same. let no = sym (c.have_one_shape.ensures.answer.1 same) ∙ c.if-have_one_shape.false in let no : ⊥ = cc in no)))

pub returns-in-None-clause-reports : goal.returns-in-None-clause-reports
returns-in-None-clause-reports g c =
    let schema = c.args.schema.now in
    let x = selection_of c.args.first.now.selection in
    let y = selection_of c.args.field in
    let reports = entries c.args.diagnostics.now in
    subst (λ pass. Appends (ConflictsWith schema (pass_of pass) x (y ∷ [])) reports reports) (sym c.in-NamesAndArguments.is)
    (compared_alike schema field_pass x y reports
    (subst (λ o. MatchOption o (SameNameAndArguments x.field.value.value y.field.value.value) (Conflicts x.field.value.value y.field.value.value)) c.in-None.is
    c.in_ok-find_conflict-in-NamesAndArguments.ensures.conflict))

pub returns-in-Some-clause-reports : goal.returns-in-Some-clause-reports
returns-in-Some-clause-reports g c =
    let schema = c.args.schema.now in
    let x = selection_of c.args.first.now.selection in
    let y = selection_of c.args.field in
    let same = c.find_conflict.ensures.selection in
    subst (λ (s : FieldSelection). ComparesField c.report_conflict.result schema (pass_of c.args.pass) (selection_of s) y c.args.diagnostics.now c.report_conflict.new.diagnostics) same
    (subst (λ pass. ComparesField c.report_conflict.result schema (pass_of pass) (selection_of c.find_conflict.new.self.selection) y c.args.diagnostics.now c.report_conflict.new.diagnostics) (sym c.in-NamesAndArguments.is)
    (compared_apart schema field_pass c.report_conflict.result (selection_of c.find_conflict.new.self.selection) y _ _ (c.report_conflict.ensures schema)))
