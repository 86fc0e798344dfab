use Rattle.std.proofs.Common.{◌≡◌, ◌++◌, length}
use Rattle.std.specs.Prelude.{filter, reverse}
use Rattle.graphql_project_checking.specs.Silence.{is_fragment, others_in}
use Rattle.graphql_project_checking.proofs.parts.move_from_end.Given as goal

abbrev pub decreases-loop-definition : goal.decreases-loop-definition
decreases-loop-definition l = length l.definitions

abbrev pub invariant-loop-definition : goal.invariant-loop-definition
invariant-loop-definition l =
    (l.initial.fragments ++ reverse (filter is_fragment l.initial.definitions) ≡ l.fragments ++ reverse (filter is_fragment l.definitions)) ×
    (l.initial.others ++ reverse (others_in l.initial.definitions) ≡ l.others ++ reverse (others_in l.definitions))
