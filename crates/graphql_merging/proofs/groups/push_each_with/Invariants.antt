use Rattle.std.proofs.Common.{◌≡◌, ◌≤◌, ◌+◌, ◌*◌, ◌++◌, List, map}
use Rattle.graphql_contents.specs.declared.contents.Content.{Content}
use Rattle.graphql_merging.specs.NumberedFields.{AreGroupsNumbered, AreNumberedIn, listed, lists_of}
use Rattle.graphql_merging.specs.Works.{IsUnbounded, Pays, weight}
use Rattle.graphql_merging.proofs.groups.push_each_with.Given as goal

abbrev pub invariant-loop-group : goal.invariant-loop-group
invariant-loop-group g l = record {
  groups : lists_of l.groups.items ++ map (λ group. listed group.items ++ listed l.further) l.group-iterator ≡
      lists_of l.initial.groups.items ++ map (λ group. listed group.items ++ listed l.further) l.initial.group-iterator;
  numbered : (contents : List Content) → AreGroupsNumbered contents l.initial.groups.items → AreGroupsNumbered contents l.initial.group-iterator →
      AreNumberedIn contents l.further → AreGroupsNumbered contents l.groups.items × AreGroupsNumbered contents l.group-iterator;
  unbounded : IsUnbounded l.initial.work → IsUnbounded l.work;
  grows : weight (lists_of l.initial.groups.items) ≤ weight (lists_of l.groups.items);
  cost : Pays l.initial.work l.work (l.initial.steps + (5 * weight (lists_of l.initial.group-iterator) + 4 * weight (lists_of l.initial.groups.items)))
      (l.steps + (5 * weight (lists_of l.group-iterator) + 4 * weight (lists_of l.groups.items))) 0;
}
