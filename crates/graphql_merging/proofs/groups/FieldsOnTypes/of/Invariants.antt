use Rattle.std.proofs.Common.{◌≡◌, ◌≤◌, ◌+◌, [], List, fold, length, take}
use Rattle.graphql_contents.specs.declared.contents.Content.{Content}
use Rattle.graphql_specification.specs.MergedSets.{is_abstract, with_parents}
use Rattle.graphql_merging.specs.NumberedFields.{AreNumberedIn, listed}
use Rattle.graphql_merging.specs.Groups.{with_owned}
use Rattle.graphql_merging.specs.NumberedGroups.{AreEntriesNumbered, named_fields}
use Rattle.graphql_merging.proofs.groups.FieldsOnTypes.of.Given as goal

abbrev pub invariant-loop-field : goal.invariant-loop-field
invariant-loop-field g l = record {
  objects : named_fields l.fields_on_types.on_objects.entries ≡ fold (with_owned l.schema) [] (listed (take l.field-index l.fields));
  on_abstract : listed l.fields_on_types.on_abstract.items ≡ with_parents l.schema is_abstract (listed (take l.field-index l.fields));
  numbered : (contents : List Content) → AreNumberedIn contents l.fields →
      AreEntriesNumbered contents l.fields_on_types.on_objects.entries × AreNumberedIn contents l.fields_on_types.on_abstract.items;
  few : length l.fields_on_types.on_abstract.items ≤ l.field-index;
  steps : l.steps ≡ l.initial.steps + l.field-index;
}
