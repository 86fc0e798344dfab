use Rattle.std.proofs.Common.{◌≡◌, ◌<◌, [], IsTrue}
use Rattle.graphql_kept_texts.specs.Faults.{HasNothing}
use Rattle.graphql_kept_texts.proofs.selections.+selections.Given as goal

-- if nothing is at fault, nothing is cut, and a selection is left as soon as one was met
abbrev pub invariant-cut_selections-loop-selection : goal.invariant-cut_selections-loop-selection
invariant-cut_selections-loop-selection l =
    HasNothing l.walk.faults.now → (l.cuts.items ≡ l.initial.cuts.items) × (l.selections ≡ [] → IsTrue l.is_left) × (0 < l.selection-index → IsTrue l.is_left)
