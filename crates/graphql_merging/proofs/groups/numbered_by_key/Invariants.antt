use Rattle.std.proofs.Common.{◌≡◌, ◌+◌, [], List, fold, take}
use Rattle.graphql_contents.specs.declared.contents.Content.{Content}
use Rattle.graphql_merging.specs.NumberedFields.{AreNumberedIn, listed}
use Rattle.graphql_merging.specs.Groups.{with_keyed}
use Rattle.graphql_merging.specs.NumberedGroups.{AreEntriesNumbered, named_fields}
use Rattle.graphql_merging.proofs.groups.numbered_by_key.Given as goal

abbrev pub invariant-loop-field : goal.invariant-loop-field
invariant-loop-field g l = record {
  found : named_fields l.fields_by_key.entries ≡ fold with_keyed [] (listed (take l.field-index l.fields));
  numbered : (contents : List Content) → AreNumberedIn contents l.fields → AreEntriesNumbered contents l.fields_by_key.entries;
  steps : l.steps ≡ l.initial.steps + l.field-index;
}
