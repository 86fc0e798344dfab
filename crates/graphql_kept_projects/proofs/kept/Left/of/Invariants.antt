use Rattle.std.proofs.Common.{take}
use Rattle.std.specs.List.{AllZip}
use Rattle.graphql_kept_projects.specs.Left.{IsTextLeft}
use Rattle.graphql_kept_projects.proofs.kept.Left.of.Given as goal

abbrev pub invariant-loop-source : goal.invariant-loop-source
invariant-loop-source l = AllZip IsTextLeft (take l.source-index l.read) l.texts.items
