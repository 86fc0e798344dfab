use Rattle.std.proofs.Common.{◌++◌, Vec, append_assoc, ap, arith, subst, sym, ◌∙◌}
use Rattle.std.specs.Prelude.{flat_map}
use Rattle.std.specs.declared.alloc.Global.{Global}
use Rattle.std.proofs.lemmas.List.Elements.{All-head, All-tail}
use Rattle.graphql_specification.specs.MergedSets.{groups_on, objects_of}
use Rattle.graphql_merging.specs.NumberedFields.{AreGroupsNumbered, listed, lists_of}
use Rattle.graphql_merging.specs.declared.numbered_fields.NumberedField.{NumberedField}
use Rattle.graphql_merging.specs.Works.{weight}
use Rattle.graphql_merging.proofs.NumberedGroupLemmas.{IsGroupNumbered, values_numbered}
use Rattle.graphql_merging.proofs.GroupLemmas.{lists_viewed}
use Rattle.graphql_merging.proofs.WeightLemmas.{weight_first}
use Rattle.graphql_merging.proofs.groups.groups_by_types.Goals as goal

pub loop-fields-preserved : goal.loop-fields-preserved
loop-fields-preserved g c =
    let schema = c.args.schema.now in
    let made = λ (fields : Vec NumberedField Global). groups_on schema (listed fields.items) (objects_of schema (listed fields.items)) in
    let old = lists_of c.loop-fields.groups.items in
    let rest = c.next.new.self in
    let x = c.in-Some.fields in
    let e = c.in_ok-push_groups.ensures in
    record {
      groups = ap (λ l. l ++ flat_map made rest) e.groups ∙ append_assoc old (made x) (flat_map made rest) ∙
          ap (λ l. old ++ flat_map made l) (sym c.in-Some.ensures.steps) ∙ c.loop-fields.invariant.groups;
      numbered = λ contents lists.
          let before = c.loop-fields.invariant.numbered contents lists in
          let left = subst (AreGroupsNumbered contents) c.in-Some.ensures.steps before.1 in
          (e.numbered contents before.0 (All-head (IsGroupNumbered contents) x rest left), All-tail (IsGroupNumbered contents) x rest left);
      unbounded = λ before. (c.push_groups.ensures.unbounded (c.loop-fields.invariant.unbounded before)).0;
      cost = λ bounded.
          let before = c.loop-fields.invariant.cost bounded in
          let paid = e.spare before.0 in
          (paid.0, omega (arith, before.1, paid.1, ap (λ l. weight (lists_of l)) c.in-Some.ensures.steps, weight_first x rest));
    }

pub returns-clause-numbered : goal.returns-clause-numbered
returns-clause-numbered g c contents entries =
    (c.loop-fields.invariant.numbered contents
    (subst (AreGroupsNumbered contents) (sym (c.into_iter-fields-iterator.ensures.into_iter_gives ∙ c.into_values-fields-items.ensures.rest))
    (values_numbered contents c.args.fields_by_key.entries entries))).0

pub returns-in_err-push_groups-clause-cost : goal.returns-in_err-push_groups-clause-cost
returns-in_err-push_groups-clause-cost g c bounded =
    let before = c.loop-fields.invariant.cost bounded in
    let paid = c.push_groups.ensures.cost before.0 in
    let all = ap (λ l. weight (lists_of l)) (c.into_iter-fields-iterator.ensures.into_iter_gives ∙ c.into_values-fields-items.ensures.rest) ∙ ap weight (lists_viewed c.args.fields_by_key.entries) in
    (paid.0, omega (arith, before.1, paid.1, all, ap (λ l. weight (lists_of l)) c.in-Some.ensures.steps, weight_first c.in-Some.fields c.next.new.self))

pub returns-clause-spare : goal.returns-clause-spare
returns-clause-spare g c bounded =
    let before = c.loop-fields.invariant.cost bounded in
    let all = ap (λ l. weight (lists_of l)) (c.into_iter-fields-iterator.ensures.into_iter_gives ∙ c.into_values-fields-items.ensures.rest) ∙ ap weight (lists_viewed c.args.fields_by_key.entries) in
    (before.0, omega (arith, before.1, all))

pub returns-clause-cost : goal.returns-clause-cost
returns-clause-cost g c bounded =
    let before = c.loop-fields.invariant.cost bounded in
    let all = ap (λ l. weight (lists_of l)) (c.into_iter-fields-iterator.ensures.into_iter_gives ∙ c.into_values-fields-items.ensures.rest) ∙ ap weight (lists_viewed c.args.fields_by_key.entries) in
    (before.0, omega (arith, before.1, all))
