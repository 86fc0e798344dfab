use Rattle.std.proofs.Common.{rules, ◌≡◌, [], ◌∷◌, Ok, Err, Some, None, IsFalse, IsTrue, refl, sym, ap, ◌∙◌, subst, Contains}
use Rattle.std.specs.Prelude.{unwrap_or}
use Rattle.graphql_diagnostics.proofs.ReportLemmas.{checks-err, checks-push, checks_words, holds, in_words, kept_by, kept_then, kept_wider, walked_all, walked_more, wider}
use Rattle.graphql_documents.specs.Schemas.{is_composite, type_definition, type_field}
use Rattle.graphql_documents.specs.TypeReferences.{inner_named_type}
use Rattle.graphql_trees.specs.declared.executable.Field.{out-Field}
use Rattle.graphql_trees.specs.declared.executable.Selection.TheVariants as tree
use Rattle.graphql_building_reports.specs.Checks.{reports_of}
use Rattle.graphql_document_building.specs.BuildingRules.{SelectionBuilds, SelectionsBuild}
use Rattle.graphql_document_building.specs.Trees.{is_condition_composite, type_below}
use Rattle.graphql_document_checking.proofs.CheckLemmas.{all_build, condition_breaks, condition_report, field_in_words, field_report, fragment_in_words, fragment_report, no_set_builds, open_report, open_set, report_among, spread_builds, target_breaks, target_report, undefined_breaks, undefined_report}
use Rattle.graphql_document_checking.specs.Reports.{IsSelectionReport, IsSetReport, SetBuilds, leaf_kind}
use Rattle.graphql_document_checking.proofs.selections.+selections.Goals as goal

pub check_field-returns-in-Ok : goal.check_field-returns-in-Ok
check_field-returns-in-Ok t c =
    let schema = c.args.schema.now in
    let parent = c.args.parent.now in
    let f = c.args.tree.now in
    let d = c.in-Ok.definition.now in
    let ty = c.inner_named_type-ty.result.now in
    let found : type_field schema parent (out-Field f).name ≡ Ok d = search rules in
    let is : ty ≡ type_below d = c.inner_named_type-ty.ensures ∙ ap (λ d. inner_named_type d.ty) c.deref.ensures in
    checks_words c.check_set_below.result (SetBuilds schema ty f) (SelectionBuilds schema parent (tree.Field f)) (IsSetReport schema ty f)
    (IsSelectionReport schema parent (tree.Field f ∷ [])) (reports_of c.args.reports.now) (reports_of c.check_set_below.new.reports)
    (field_in_words schema parent ty f d found is) (field_report schema parent ty f d found is) c.check_set_below.ensures

pub check_field-returns-in-Err : goal.check_field-returns-in-Err
check_field-returns-in-Err t c =
    let schema = c.args.schema.now in
    let parent = c.args.parent.now in
    let f = c.args.tree.now in
    let found : type_field schema parent (out-Field f).name ≡ Err c.in-Err._error = search rules in
    checks-push c.report_undefined_field.result (SelectionBuilds schema parent (tree.Field f)) (IsSelectionReport schema parent (tree.Field f ∷ []))
    (reports_of c.args.reports.now) (reports_of c.report_undefined_field.new.reports) _ c.report_undefined_field.ensures.ok c.report_undefined_field.ensures.err
    (undefined_breaks schema parent f c.in-Err._error found) (undefined_report schema parent f c.in-Err._error found)

pub check_inline_fragment-returns-in_default : goal.check_inline_fragment-returns-in_default
check_inline_fragment-returns-in_default t c =
    let schema = c.args.schema.now in
    let parent = c.args.parent.now in
    let i = c.args.tree.now in
    let xs = c.as_slice.result.now in
    let none : i.type_condition ≡ None = search rules in
    let defined : IsTrue (is_condition_composite schema i.type_condition) = rw none refl in
    let is : parent ≡ unwrap_or i.type_condition parent = rw none refl in
    checks_words c.check_selections.result (SelectionsBuild schema parent xs) (SelectionBuilds schema parent (tree.InlineFragment i)) (IsSelectionReport schema parent xs)
    (IsSelectionReport schema parent (tree.InlineFragment i ∷ [])) (reports_of c.args.reports.now) (reports_of c.check_selections.new.reports)
    (fragment_in_words schema parent parent i xs defined is c.as_slice.ensures) (fragment_report schema parent parent i xs defined is c.as_slice.ensures) c.check_selections.ensures

pub check_inline_fragment-returns-else-not-is_composite : goal.check_inline_fragment-returns-else-not-is_composite
check_inline_fragment-returns-else-not-is_composite t c =
    let schema = c.args.schema.now in
    let parent = c.args.parent.now in
    let i = c.args.tree.now in
    let ty = c.in-Some.condition in
    let xs = c.as_slice-in-Some-get.result.now in
    let some : i.type_condition ≡ Some ty = c.in-Some.is in
    let there : type_definition schema ty ≡ Some c.in-Some-get.definition.now = search rules in
    let composite : IsTrue (is_composite c.in-Some-get.definition.now) = search rules in
    let has : IsTrue (is_condition_composite schema (Some ty)) = rw there composite in
    let defined : IsTrue (is_condition_composite schema i.type_condition) = subst (λ c. IsTrue (is_condition_composite schema c)) (sym some) has in
    let is : ty ≡ unwrap_or i.type_condition parent = rw some refl in
    checks_words c.check_selections-in-Some-get.result (SelectionsBuild schema ty xs) (SelectionBuilds schema parent (tree.InlineFragment i)) (IsSelectionReport schema ty xs)
    (IsSelectionReport schema parent (tree.InlineFragment i ∷ [])) (reports_of c.args.reports.now) (reports_of c.check_selections-in-Some-get.new.reports)
    (fragment_in_words schema parent ty i xs defined is c.as_slice-in-Some-get.ensures) (fragment_report schema parent ty i xs defined is c.as_slice-in-Some-get.ensures)
    c.check_selections-in-Some-get.ensures

pub check_inline_fragment-returns-then-not-is_composite : goal.check_inline_fragment-returns-then-not-is_composite
check_inline_fragment-returns-then-not-is_composite t c =
    let schema = c.args.schema.now in
    let parent = c.args.parent.now in
    let i = c.args.tree.now in
    let ty = c.in-Some.condition in
    let d = c.in-Some-get.definition.now in
    let there : type_definition schema ty ≡ Some d = search rules in
    let not_composite : IsFalse (is_composite d) = search rules in
    checks-push c.report_invalid_target.result (SelectionBuilds schema parent (tree.InlineFragment i)) (IsSelectionReport schema parent (tree.InlineFragment i ∷ []))
    (reports_of c.args.reports.now) (reports_of c.report_invalid_target.new.reports) _ c.report_invalid_target.ensures.ok c.report_invalid_target.ensures.err
    (target_breaks schema parent i ty d c.in-Some.is there not_composite) (target_report schema parent i ty d c.in-Some.is there not_composite)

pub check_inline_fragment-returns-in-None : goal.check_inline_fragment-returns-in-None
check_inline_fragment-returns-in-None t c =
    let schema = c.args.schema.now in
    let parent = c.args.parent.now in
    let i = c.args.tree.now in
    let ty = c.in-Some.condition in
    let none : type_definition schema ty ≡ None = search rules in
    checks-push c.report_undefined_condition.result (SelectionBuilds schema parent (tree.InlineFragment i)) (IsSelectionReport schema parent (tree.InlineFragment i ∷ []))
    (reports_of c.args.reports.now) (reports_of c.report_undefined_condition.new.reports) _ c.report_undefined_condition.ensures.ok c.report_undefined_condition.ensures.err
    (condition_breaks schema parent i ty c.in-Some.is none) (condition_report schema parent i ty c.in-Some.is none)

pub check_selection-returns-in-FragmentSpread : goal.check_selection-returns-in-FragmentSpread
check_selection-returns-in-FragmentSpread t c =
    holds (IsSelectionReport c.args.schema.now c.args.parent.now (c.args.tree.now ∷ [])) (SelectionBuilds c.args.schema.now c.args.parent.now c.args.tree.now)
    (reports_of c.args.reports.now) (spread_builds c.args.schema.now c.args.parent.now c.in-FragmentSpread._spread c.args.tree.now c.in-FragmentSpread.is)

pub check_selections-returns-in_err-check_selection : goal.check_selections-returns-in_err-check_selection
check_selections-returns-in_err-check_selection t c =
    let stands : Contains c.args.trees.now c.tree-item.result = search rules in
    checks-err c.from_residual.result (SelectionsBuild c.args.schema.now c.args.parent.now c.args.trees.now) (IsSelectionReport c.args.schema.now c.args.parent.now c.args.trees.now)
    (reports_of c.args.reports.now) (reports_of c.check_selection.new.reports) (search rules)
    (kept_then (kept_by c.loop-tree.invariant)
    (kept_wider (report_among c.args.schema.now c.args.parent.now c.args.trees.now c.tree-item.result stands) c.in_err-check_selection.ensures))

pub check_selections-loop-tree-preserved : goal.check_selections-loop-tree-preserved
check_selections-loop-tree-preserved t c =
    let schema = c.args.schema.now in
    let parent = c.args.parent.now in
    let xs = c.args.trees.now in
    let stands : Contains xs c.tree-item.result = search rules in
    walked_more (SelectionBuilds schema parent) (IsSelectionReport schema parent xs) xs c.loop-tree.tree-index c.tree-item.result (reports_of c.args.reports.now)
    (reports_of c.loop-tree.reports) (reports_of c.check_selection.new.reports) c.loop-tree-test.true c.tree-item.is c.loop-tree.invariant
    (wider (report_among schema parent xs c.tree-item.result stands) c.in_ok-check_selection.ensures)

pub check_selections-returns : goal.check_selections-returns
check_selections-returns t c =
    let schema = c.args.schema.now in
    let parent = c.args.parent.now in
    let xs = c.args.trees.now in
    in_words (all_build schema parent xs)
    (walked_all (SelectionBuilds schema parent) (IsSelectionReport schema parent xs) xs c.loop-tree.tree-index xs (reports_of c.args.reports.now) (reports_of c.loop-tree.reports) refl
    c.loop-tree-test.false c.loop-tree.invariant)

pub check_set_below-returns-in_default : goal.check_set_below-returns-in_default
check_set_below-returns-in_default t c =
    let none : (out-Field c.args.field.now).selection_set ≡ None = search rules in
    holds (IsSetReport c.args.schema.now c.args.ty.now c.args.field.now) (SetBuilds c.args.schema.now c.args.ty.now c.args.field.now)
    (reports_of c.args.reports.now) (no_set_builds c.args.schema.now c.args.ty.now c.args.field.now none)

pub check_set_below-returns-in-None : goal.check_set_below-returns-in-None
check_set_below-returns-in-None t c =
    let schema = c.args.schema.now in
    let ty = c.args.ty.now in
    let f = c.args.field.now in
    let xs = c.as_slice.result.now in
    let some : (out-Field f).selection_set ≡ Some c.in-Some.set = c.in-Some.is in
    let none : leaf_kind schema ty ≡ None = search rules in
    let all : xs ≡ c.in-Some.set.selections = search rules in
    checks_words c.check_selections.result (SelectionsBuild schema ty xs) (SetBuilds schema ty f) (IsSelectionReport schema ty xs) (IsSetReport schema ty f)
    (reports_of c.args.reports.now) (reports_of c.check_selections.new.reports) (open_set schema ty f c.in-Some.set xs none some all) (open_report schema ty f c.in-Some.set xs none some all)
    c.check_selections.ensures
