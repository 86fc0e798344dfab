use Rattle.std.proofs.Common.{take, ◌≡◌, ◌+◌}
use Rattle.graphql_pair_merging.specs.FieldGroups.{AddsNamed}
use Rattle.graphql_pair_merging.proofs.field_groups.add_named_in.Given as goal

abbrev pub invariant-loop-field : goal.invariant-loop-field
invariant-loop-field g l = record {
  added : AddsNamed l.by l.groups.entries (take l.field-index l.others) l.initial.fields.items l.fields.items;
  cost : l.steps ≡ l.initial.steps + l.field-index;
}
