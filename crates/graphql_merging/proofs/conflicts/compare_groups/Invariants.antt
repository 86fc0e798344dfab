use Rattle.std.proofs.Common.{◌≡◌, ◌≤◌, ◌+◌, ◌-◌, length, take}
use Rattle.std.specs.Prelude.{sum_by}
use Rattle.graphql_diagnostics.specs.Diagnostics.{entries}
use Rattle.graphql_specification.specs.MergedSets.{AreConflicts}
use Rattle.graphql_diagnostics.specs.Reports.{Appends, KeepsReports}
use Rattle.graphql_merging.specs.NumberedFields.{lists_of}
use Rattle.graphql_merging.specs.Groups.{pass_of}
use Rattle.graphql_merging.specs.Passes.{IsConflictAmong, counted}
use Rattle.graphql_merging.specs.Works.{compared_in, weight}
use Rattle.graphql_merging.proofs.conflicts.compare_groups.Given as goal

abbrev pub invariant-loop-group : goal.invariant-loop-group
invariant-loop-group g l = record {
  reports : Appends (AreConflicts l.schema (pass_of l.pass) (lists_of (take l.group-index l.groups))) (entries l.initial.diagnostics) (entries l.diagnostics);
  comparisons : l.examined.comparisons ≡ counted (pass_of l.pass) l.initial.examined.comparisons (sum_by (λ group. length group - 1) (lists_of (take l.group-index l.groups)));
  lists : l.examined.lists ≡ l.initial.examined.lists;
  truth : KeepsReports (IsConflictAmong l.schema (pass_of l.pass) (lists_of l.groups)) (entries l.initial.diagnostics) (entries l.diagnostics);
  steps : l.steps ≤ l.initial.steps + weight (lists_of (take l.group-index l.groups)) + sum_by (compared_in l.pass) (lists_of (take l.group-index l.groups));
}
