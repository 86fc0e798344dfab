use Rattle.std.proofs.Common.{◌≡◌, []}
use Rattle.graphql_kept_texts.specs.Faults.{HasNothing}
use Rattle.graphql_kept_texts.proofs.walks.cut_definitions.Given as goal

abbrev pub invariant-loop-definition : goal.invariant-loop-definition
invariant-loop-definition l = HasNothing l.walk.faults.now → l.cuts.items ≡ []
