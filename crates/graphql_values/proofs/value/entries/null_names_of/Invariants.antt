use Rattle.std.proofs.Common.{take}
use Rattle.graphql_values.specs.EntriesByName.{HasNullNames}
use Rattle.graphql_values.proofs.value.entries.null_names_of.Given as goal

-- the names of those that are null so far
abbrev pub invariant-loop-place : goal.invariant-loop-place
invariant-loop-place l = HasNullNames l.names (take l.place l.entries)
