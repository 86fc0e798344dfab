use Rattle.std.proofs.Common.{◌↔◌, take}
use Rattle.graphql_nodes.specs.Names.{NameText}
use Rattle.graphql_variables.specs.Uses.{IsNamedIn, names_of}
use Rattle.graphql_variables.proofs.unused.set_of.Given as goal

-- the set names what the names so far do
abbrev pub invariant-loop-name : goal.invariant-loop-name
invariant-loop-name l =
    (n : NameText) → IsNamedIn (names_of l.set.keys) n ↔ IsNamedIn (names_of (take l.name-index l.names)) n
