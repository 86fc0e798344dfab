use Rattle.std.proofs.Common.{◌≡◌, ◌≤◌, ◌+◌, All, length, map, take}
use Rattle.graphql_contents.specs.Documents.{IsNumberedSet, contents_in}
use Rattle.graphql_specification.specs.MergedSets.{nested_sets}
use Rattle.graphql_merging.specs.NumberedFields.{listed}
use Rattle.graphql_merging.proofs.passes.nested_sets_of.Given as goal

abbrev pub invariant-loop-field : goal.invariant-loop-field
invariant-loop-field g l = record {
  sets : map (λ set. set.set.now) l.sets.items ≡ nested_sets (listed (take l.field-index l.group));
  numbers : All (IsNumberedSet (contents_in l.numbered)) l.sets.items;
  count : length l.sets.items ≤ l.field-index;
  steps : l.steps ≡ l.initial.steps + l.field-index;
}
