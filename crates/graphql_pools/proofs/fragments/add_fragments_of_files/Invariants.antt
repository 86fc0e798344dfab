use Rattle.std.proofs.Common.{take}
use Rattle.graphql_pools.specs.Pools.{Gathers, HasFirst, entries_among}
use Rattle.graphql_pools.proofs.fragments.add_fragments_of_files.Given as goal

abbrev pub invariant-loop-file : goal.invariant-loop-file
invariant-loop-file l =
    Gathers (entries_among (take l.file-index l.files)) l.initial.fragments.entries l.fragments.entries ×
    HasFirst (entries_among (take l.file-index l.files)) l.initial.fragments.entries l.fragments.entries
