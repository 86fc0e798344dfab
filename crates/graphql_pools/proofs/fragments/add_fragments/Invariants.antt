use Rattle.std.proofs.Common.{◌≡◌, ◌++◌, List}
use Rattle.graphql_pools.specs.Pools.{Entry, Gathers, HasFirst}
use Rattle.graphql_pools.proofs.fragments.add_fragments.Given as goal

-- those that were yielded are gathered
abbrev pub invariant-loop-name : goal.invariant-loop-name
invariant-loop-name l =
    (done : List Entry) × (l.initial.name-iterator ≡ done ++ l.name-iterator) ×
    Gathers done l.initial.fragments.entries l.fragments.entries × HasFirst done l.initial.fragments.entries l.fragments.entries
