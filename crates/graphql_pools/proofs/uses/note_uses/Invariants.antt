use Rattle.std.proofs.Common.{◌≡◌, ◌++◌, Bor, List}
use Rattle.graphql_nodes.specs.Names.{NameText}
use Rattle.graphql_variables.specs.Uses.{names_of}
use Rattle.graphql_pools.specs.Uses.{NotesNames}
use Rattle.graphql_pools.proofs.uses.note_uses.Given as goal

-- those that the names find which were yielded are noted
abbrev pub invariant-loop-name : goal.invariant-loop-name
invariant-loop-name l =
    (done : List (Bor NameText)) × (l.initial.name-iterator ≡ done ++ l.name-iterator) ×
    NotesNames l.pool (names_of done) (names_of l.initial.used.keys) (names_of l.used.keys)
