use Rattle.std.proofs.Common.{◌≡◌, ◌++◌, map, ◌+◌, length}
use Rattle.graphql_pair_merging.specs.NumberedSets.{sets_at}
use Rattle.graphql_pair_merging.proofs.numbered_sets.Numbering.begin.Given as goal

abbrev pub invariant-loop-fragment : goal.invariant-loop-fragment
invariant-loop-fragment g l = record {
  sets : sets_at l.sets.items ++ map (λ d. d.value.value.selection_set) l.fragment-iterator ≡ map (λ d. d.value.value.selection_set) l.initial.fragment-iterator;
  cost : l.steps + length l.fragment-iterator ≡ l.initial.steps + length l.initial.fragment-iterator;
}
