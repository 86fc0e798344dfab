use Rattle.std.proofs.Common.{◌≡◌, length}
use Rattle.graphql_tokens.specs.Scans.{after_run, belongs}
use Rattle.graphql_tokens.proofs.characters.after_short_run.Given as goal

abbrev pub invariant-loop-rest : goal.invariant-loop-rest
invariant-loop-rest l = after_run (belongs l.class) l.rest ≡ after_run (belongs l.class) l.text

abbrev pub decreases-loop-rest : goal.decreases-loop-rest
decreases-loop-rest l = length l.rest
