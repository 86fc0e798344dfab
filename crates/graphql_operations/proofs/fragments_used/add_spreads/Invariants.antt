use Rattle.std.proofs.Common.{take}
use Rattle.std.specs.List.{Any}
use Rattle.graphql_variables.specs.Uses.{NamesAlso}
use Rattle.graphql_operations.proofs.UsedFragmentLemmas.{SpreadsHere}
use Rattle.graphql_operations.proofs.fragments_used.add_spreads.Given as goal

abbrev pub invariant-loop-selection : goal.invariant-loop-selection
invariant-loop-selection l =
    NamesAlso (λ n. Any (SpreadsHere n) (take l.selection-index l.selections)) l.initial.names.keys l.names.keys
