use Rattle.std.proofs.Common.{[], take}
use Rattle.std.specs.List.{Any}
use Rattle.graphql_variables.specs.Uses.{NamesAlso}
use Rattle.graphql_operations.proofs.UsedFragmentLemmas.{SpreadsBelow}
use Rattle.graphql_operations.proofs.fragments_used.spread_names.Given as goal

abbrev pub invariant-loop-operation : goal.invariant-loop-operation
invariant-loop-operation l =
    NamesAlso (λ n. Any (SpreadsBelow l.document n) (take l.operation-index l.operations)) [] l.names.keys
