use Rattle.std.proofs.Common.{◌≡◌, ◌≤◌, ◌+◌, ◌∷◌, length, take}
use Rattle.graphql_diagnostics.specs.Diagnostics.{entries}
use Rattle.graphql_specification.specs.MergedSets.{ConflictsWith}
use Rattle.graphql_diagnostics.specs.Reports.{Appends}
use Rattle.graphql_field_conflicts.specs.FieldSelections as plain
use Rattle.graphql_field_conflicts.specs.FirstFields.{HasRead}
use Rattle.graphql_merging.specs.NumberedFields.{listed}
use Rattle.graphql_merging.specs.Groups.{pass_of}
use Rattle.graphql_merging.specs.Passes.{counted}
use Rattle.graphql_merging.specs.Works.{compared_in}
use Rattle.graphql_merging.proofs.conflicts.compare_group.Given as goal

abbrev pub invariant-loop-field : goal.invariant-loop-field
invariant-loop-field g l = record {
  reports : Appends (ConflictsWith l.schema (pass_of l.pass) (plain.selection_of l.initial.first.selection) (listed (take l.field-index l.rest))) (entries l.initial.diagnostics) (entries l.diagnostics);
  comparisons : l.examined.comparisons ≡ counted (pass_of l.pass) l.initial.examined.comparisons (length (listed (take l.field-index l.rest)));
  lists : l.examined.lists ≡ l.initial.examined.lists;
  read : HasRead l.first;
  selection : l.first.selection ≡ l.initial.first.selection;
  steps : l.steps ≤ l.initial.steps + l.field-index + compared_in l.pass (plain.selection_of l.initial.first.selection ∷ listed (take l.field-index l.rest));
}
