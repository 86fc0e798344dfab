use Rattle.std.proofs.Common.{take}
use Rattle.graphql_kept_projects.specs.Schemas.{AreSourcesOf}
use Rattle.graphql_kept_projects.proofs.schema_rounds.sources_of.Given as goal

abbrev pub invariant-loop-left : goal.invariant-loop-left
invariant-loop-left l = AreSourcesOf (take l.left-index l.left-items) l.sources.items
