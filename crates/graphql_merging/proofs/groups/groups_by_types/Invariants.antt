use Rattle.std.proofs.Common.{◌≡◌, ◌+◌, ◌*◌, ◌++◌, List}
use Rattle.graphql_contents.specs.declared.contents.Content.{Content}
use Rattle.std.specs.Prelude.{flat_map}
use Rattle.graphql_specification.specs.MergedSets.{groups_on, objects_of}
use Rattle.graphql_merging.specs.NumberedFields.{AreGroupsNumbered, listed, lists_of}
use Rattle.graphql_merging.specs.Works.{IsUnbounded, Pays, weight}
use Rattle.graphql_merging.proofs.groups.groups_by_types.Given as goal

abbrev pub invariant-loop-fields : goal.invariant-loop-fields
invariant-loop-fields g l = record {
  groups : lists_of l.groups.items ++
      flat_map (λ fields. groups_on l.schema (listed fields.items) (objects_of l.schema (listed fields.items))) l.fields-iterator ≡
      flat_map (λ fields. groups_on l.schema (listed fields.items) (objects_of l.schema (listed fields.items))) l.initial.fields-iterator;
  numbered : (contents : List Content) → AreGroupsNumbered contents l.initial.fields-iterator →
      AreGroupsNumbered contents l.groups.items × AreGroupsNumbered contents l.fields-iterator;
  unbounded : IsUnbounded l.initial.work → IsUnbounded l.work;
  cost : Pays l.initial.work l.work (l.initial.steps + 11 * weight (lists_of l.initial.fields-iterator))
      (l.steps + (11 * weight (lists_of l.fields-iterator) + 4 * weight (lists_of l.groups.items))) 0;
}
