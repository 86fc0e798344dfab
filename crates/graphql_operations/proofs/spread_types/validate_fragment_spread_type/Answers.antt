use Rattle.std.proofs.Common.{sym, true≢false, ◌∙◌}
use Rattle.graphql_diagnostics.proofs.ReportLemmas.{holds}
use Rattle.graphql_nodes.specs.Names.{same_name}
use Rattle.graphql_operations.proofs.PossibleTypeLemmas.{not_possible, possible_by_object, possible_without_condition, possible_without_parent, type_entry}
use Rattle.graphql_operations.proofs.spread_types.validate_fragment_spread_type.Goals as goal

pub returns-in_default-clause-checks : goal.returns-in_default-clause-checks
returns-in_default-clause-checks c =
    holds _ _ _ (possible_without_condition c.args.schema.now c.args.condition.now c.args.parent.now (sym c.in_default.ensures.value))

pub returns-in_default-get-clause-checks : goal.returns-in_default-get-clause-checks
returns-in_default-get-clause-checks c =
    holds _ _ _ (possible_without_parent c.args.schema.now c.args.condition.now c.args.parent.now (sym c.in_default-get.ensures.value))

pub returns-then-one_is_object_of_other-clause-checks : goal.returns-then-one_is_object_of_other-clause-checks
returns-then-one_is_object_of_other-clause-checks c =
    let of_condition = sym c.in-Some.ensures.value in
    let of_parent = sym c.in-Some-get.ensures.value in
    let a = type_entry (same_name c.args.condition.now) c.args.schema.now.types.entries c.in-Some.selected.now of_condition in
    let b = type_entry (same_name c.args.parent.now) c.args.schema.now.types.entries c.in-Some-get.around.now of_parent in
    holds _ _ _ (possible_by_object c.args.schema.now c.args.condition.now c.args.parent.now c.in-Some.selected.now c.in-Some-get.around.now
    of_condition of_parent (c.one_is_object_of_other.ensures c.args.schema.now a.0 b.0 a.1 b.1 c.if-one_is_object_of_other.true))

pub returns-then-branch-clause-checks : goal.returns-then-branch-clause-checks
returns-then-branch-clause-checks c =
    holds _ _ _ (possible_by_object c.args.schema.now c.args.condition.now c.args.parent.now c.in-Some.selected.now c.in-Some-get.around.now
    (sym c.in-Some.ensures.value) (sym c.in-Some-get.ensures.value) (c.in_ok-have_common_object.ensures.common.0 c.if-branch.true))

pub returns-clause-checks : goal.returns-clause-checks
returns-clause-checks c =
    c.report_impossible.ensures c.args.schema.now (sym c.in-Some-get.ensures.value)
    (not_possible c.args.schema.now c.args.condition.now c.args.parent.now c.in-Some.selected.now c.in-Some-get.around.now
    (sym c.in-Some.ensures.value) (sym c.in-Some-get.ensures.value) (sym c.if-eq.ensures)
    (λ common. true≢false (sym (c.in_ok-have_common_object.ensures.common.1 common) ∙ c.if-branch.false)))
