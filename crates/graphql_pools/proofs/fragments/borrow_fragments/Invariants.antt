use Rattle.std.proofs.Common.{◌≡◌, ◌++◌, Bor, List}
use Rattle.graphql_nodes.specs.Names.{NameText}
use Rattle.graphql_pools.specs.Pools.{Borrows}
use Rattle.graphql_variables.specs.Uses.{names_of}
use Rattle.graphql_pools.proofs.fragments.borrow_fragments.Given as goal

-- those that the names find which were yielded are borrowed
abbrev pub invariant-loop-name : goal.invariant-loop-name
invariant-loop-name l =
    (done : List (Bor NameText)) × (l.initial.name-iterator ≡ done ++ l.name-iterator) ×
    Borrows l.pool (names_of done) l.initial.fragments.entries l.fragments.entries
