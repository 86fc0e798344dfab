use Rattle.std.proofs.Common.{take, ◌≡◌, ◌+◌, ◌≤◌, length}
use Rattle.graphql_pair_merging.specs.FieldGroups.{IsGrouped}
use Rattle.graphql_pair_merging.proofs.field_groups.group_fields.Given as goal

abbrev pub invariant-loop-field : goal.invariant-loop-field
invariant-loop-field g l = record {
  grouped : IsGrouped l.by (take l.field-index l.fields) l.groups.entries;
  count : length l.groups.entries ≤ l.field-index;
  cost : l.steps ≡ l.initial.steps + l.field-index;
}
