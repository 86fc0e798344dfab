-- The walk goes down, or into a fragment that it has not visited; what it has walked over is the beginning of
-- a set.
use Rattle.std.proofs.Common.{◌+◌, ◌*◌, take}
use Rattle.graphql_diagnostics.specs.Diagnostics.{entries}
use Rattle.graphql_documents.specs.Selections.{fragments_of}
use Rattle.graphql_documents.specs.declared.documents.executables.SelectionSet.{size-SelectionSet}
use Rattle.graphql_operations.specs.Contexts.{SharesWith, visited_fragment_names, parent_of, schema_of, variables_of}
use Rattle.graphql_rules.specs.SelectionSteps.{WalkAnswers}
use Rattle.graphql_operations.proofs.MeasureLemmas.{room}
use Rattle.graphql_rules.proofs.operations.walk.+selection.Given as goal

abbrev pub decreases-walk_selection_set : goal.decreases-walk_selection_set
decreases-walk_selection_set l = 2 * (room (visited_fragment_names l.context.now) l.document.now.document.now.fragments.entries + goal.size-walk_selection_set l)

abbrev pub decreases-walk_selection : goal.decreases-walk_selection
decreases-walk_selection l = 2 * (room (visited_fragment_names l.context.now) l.document.now.document.now.fragments.entries + goal.size-walk_selection l) + 1

abbrev pub decreases-walk_field : goal.decreases-walk_field
decreases-walk_field l = 2 * (room (visited_fragment_names l.context.now) l.document.now.document.now.fragments.entries + goal.size-walk_field l)

abbrev pub decreases-walk_inline_fragment : goal.decreases-walk_inline_fragment
decreases-walk_inline_fragment l = 2 * (room (visited_fragment_names l.context.now) l.document.now.document.now.fragments.entries + goal.size-walk_inline_fragment l)

abbrev pub decreases-walk_fragment_spread : goal.decreases-walk_fragment_spread
decreases-walk_fragment_spread l = 2 * room (visited_fragment_names l.context.now) l.document.now.document.now.fragments.entries

abbrev pub decreases-walk_fragment_definition : goal.decreases-walk_fragment_definition
decreases-walk_fragment_definition l =
    2 * (room (visited_fragment_names l.context.now) l.document.now.document.now.fragments.entries + size-SelectionSet l.fragment.now.value.value.selection_set) + 1

abbrev pub invariant-walk_selection_set-loop-selection : goal.invariant-walk_selection_set-loop-selection
invariant-walk_selection_set-loop-selection l = record {
  walked : WalkAnswers (schema_of l.initial.context) (fragments_of l.document.document.now) (variables_of l.initial.context) (parent_of l.against_type)
      (take l.selection-index l.selection-items) (visited_fragment_names l.initial.context) (visited_fragment_names l.context)
      (entries l.initial.diagnostics) (entries l.diagnostics);
  shared : SharesWith l.initial.context l.context;
}
