use Rattle.std.proofs.Common.{◌++◌, ◌∷◌, [], append_assoc, ap, arith, subst, sym, ◌∙◌, map, Vec}
use Rattle.std.specs.declared.alloc.Global.{Global}
use Rattle.std.proofs.lemmas.List.{append-nil, length-append, length-map}
use Rattle.std.proofs.lemmas.List.Elements.{All-head, All-tail}
use Rattle.graphql_merging.specs.NumberedFields.{AreGroupsNumbered, listed, lists_of}
use Rattle.graphql_merging.specs.declared.numbered_fields.NumberedField.{NumberedField}
use Rattle.graphql_merging.specs.NumberedFields.{selection_of}
use Rattle.graphql_merging.specs.Works.{weight}
use Rattle.graphql_merging.proofs.NumberedGroupLemmas.{IsGroupNumbered, values_numbered}
use Rattle.graphql_merging.proofs.GroupLemmas.{lists_viewed}
use Rattle.graphql_merging.proofs.WeightLemmas.{weight_first, weight_push}
use Rattle.graphql_merging.proofs.groups.push_each_with.Goals as goal

pub returns-clause-groups : goal.returns-clause-groups
returns-clause-groups g c =
    let before = lists_of c.args.groups.now.items in
    let with_further = λ (group : Vec NumberedField Global). listed group.items ++ listed c.args.further.now in
    sym (append-nil (lists_of c.loop-group.groups.items)) ∙
    ap (λ left. lists_of c.loop-group.groups.items ++ map with_further left) (sym c.in-None.ensures.steps.0) ∙
    c.loop-group.invariant.groups ∙
    ap (λ lists. before ++ map with_further lists) (c.into_iter-group-iterator.ensures.into_iter_gives ∙ c.into_values-group-items.ensures.rest)

pub loop-group-preserved : goal.loop-group-preserved
loop-group-preserved g c = record {
  groups =
      let with_further = λ (group : Vec NumberedField Global). listed group.items ++ listed c.args.further.now in
      let old = lists_of c.loop-group.groups.items in
      let rest = c.next.new.self in
      ap (λ l. l ++ map with_further rest) c.in_ok-push_with.ensures.groups ∙ append_assoc old (with_further c.in-Some.group ∷ []) (map with_further rest) ∙
      ap (λ l. old ++ map with_further l) (sym c.in-Some.ensures.steps) ∙ c.loop-group.invariant.groups;
  numbered = λ contents old lists further.
      let before = c.loop-group.invariant.numbered contents old lists further in
      let left = subst (AreGroupsNumbered contents) c.in-Some.ensures.steps before.1 in (
        c.in_ok-push_with.ensures.numbered contents before.0 (All-head (IsGroupNumbered contents) c.in-Some.group c.next.new.self left) further,
        All-tail (IsGroupNumbered contents) c.in-Some.group c.next.new.self left,
      );
  unbounded = λ before. (c.count.ensures.unbounded (c.loop-group.invariant.unbounded before)).0;
  grows = omega (
    arith,
    c.loop-group.invariant.grows,
    ap weight c.in_ok-push_with.ensures.groups,
    weight_push (lists_of c.loop-group.groups.items) (listed c.in-Some.group.items ++ listed c.args.further.now),
  );
  cost = λ bounded.
      let before = c.loop-group.invariant.cost bounded in
      let spent = c.in_ok-count.ensures.spends before.0 in
      let old = lists_of c.loop-group.groups.items in
      let group = listed c.in-Some.group.items in
      let further = listed c.args.further.now in (
        spent.0,
        omega (
          arith,
          before.1,
          spent.1,
          c.take.ensures,
          c.take-in-loop-group.ensures,
          ap weight c.in_ok-push_with.ensures.groups,
          weight_push old (group ++ further),
          length-append group further,
          length-map c.in-Some.group.items selection_of,
          length-map c.args.further.now selection_of,
          ap (λ l. weight (lists_of l)) c.in-Some.ensures.steps,
          weight_first c.in-Some.group c.next.new.self,
        ),
      );
}

pub returns-clause-numbered : goal.returns-clause-numbered
returns-clause-numbered g c contents old entries further =
    let lists = subst (AreGroupsNumbered contents) (sym (c.into_iter-group-iterator.ensures.into_iter_gives ∙ c.into_values-group-items.ensures.rest))
    (values_numbered contents c.args.on_objects.entries entries) in
    (c.loop-group.invariant.numbered contents old lists further).0

pub returns-in_err-count-clause-cost : goal.returns-in_err-count-clause-cost
returns-in_err-count-clause-cost g c bounded =
    let before = c.loop-group.invariant.cost bounded in
    let left = c.count.ensures.left before.0 in
    let all = ap (λ l. weight (lists_of l)) (c.into_iter-group-iterator.ensures.into_iter_gives ∙ c.into_values-group-items.ensures.rest) ∙ ap weight (lists_viewed c.args.on_objects.entries) in
    (left.0, omega (arith, before.1, left.1, all, c.loop-group.invariant.grows))

pub returns-in_err-push_with-clause-cost : goal.returns-in_err-push_with-clause-cost
returns-in_err-push_with-clause-cost g c bounded =
    let before = c.loop-group.invariant.cost bounded in
    let spent = c.in_ok-count.ensures.spends before.0 in
    let all = ap (λ l. weight (lists_of l)) (c.into_iter-group-iterator.ensures.into_iter_gives ∙ c.into_values-group-items.ensures.rest) ∙ ap weight (lists_viewed c.args.on_objects.entries) in (
      spent.0,
      omega (
        arith,
        before.1,
        spent.1,
        c.take.ensures,
        c.take-in-loop-group.ensures,
        all,
        c.loop-group.invariant.grows,
        ap (λ l. weight (lists_of l)) c.in-Some.ensures.steps,
        weight_first c.in-Some.group c.next.new.self,
      ),
    )

pub returns-clause-spare : goal.returns-clause-spare
returns-clause-spare g c bounded =
    let before = c.loop-group.invariant.cost bounded in
    let all = ap (λ l. weight (lists_of l)) (c.into_iter-group-iterator.ensures.into_iter_gives ∙ c.into_values-group-items.ensures.rest) ∙ ap weight (lists_viewed c.args.on_objects.entries) in
    (before.0, omega (arith, before.1, all))

pub returns-clause-cost : goal.returns-clause-cost
returns-clause-cost g c bounded =
    let before = c.loop-group.invariant.cost bounded in
    let all = ap (λ l. weight (lists_of l)) (c.into_iter-group-iterator.ensures.into_iter_gives ∙ c.into_values-group-items.ensures.rest) ∙ ap weight (lists_viewed c.args.on_objects.entries) in
    (before.0, omega (arith, before.1, all, c.loop-group.invariant.grows))
