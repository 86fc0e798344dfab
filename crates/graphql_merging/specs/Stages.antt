-- Where the code of a pass is.
use Rattle.std.specs.Prelude.{List, map}
use Rattle.graphql_diagnostics.specs.Diagnostics.{entries}
use Rattle.graphql_specification.specs.Merging.{FieldSelection}
use Rattle.graphql_diagnostics.specs.declared.lists.DiagnosticList.{DiagnosticList}
use Rattle.graphql_guards.specs.Guards.{count_of, highest_of}
use Rattle.graphql_guards.specs.declared.limits.LimitCounter.{LimitCounter}
use Rattle.graphql_merging.specs.NumberedFields.{lists_of}
use Rattle.graphql_merging.specs.Passes.{Stage}
use Rattle.graphql_merging.specs.declared.examined.Examined.{Examined}

-- the lists that were examined
abbrev pub examined_lists : Examined → List (List FieldSelection)
examined_lists examined = lists_of (map (λ list. list.fields) examined.lists.keys)

-- what was examined, how deep, and what was reported
abbrev pub stage_of : Examined → LimitCounter → DiagnosticList → Stage
stage_of examined depth diagnostics = record {
  lists = examined_lists examined;
  comparisons = examined.comparisons;
  depth = count_of depth;
  highest = highest_of depth;
  reports = entries diagnostics;
}
