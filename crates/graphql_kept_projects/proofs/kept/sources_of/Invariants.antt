use Rattle.std.proofs.Common.{take}
use Rattle.std.specs.List.{AllZip}
use Rattle.graphql_kept_projects.proofs.LeftLemmas.{IsSourceOf}
use Rattle.graphql_kept_projects.proofs.kept.sources_of.Given as goal

abbrev pub invariant-loop-left : goal.invariant-loop-left
invariant-loop-left l = AllZip IsSourceOf (take l.left-index l.left-items) l.sources.items
