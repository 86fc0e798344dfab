use Rattle.std.proofs.Common.{◌≡◌, length}
use Rattle.graphql_tokens.specs.Scans.{after_all, ignored_at}
use Rattle.graphql_tokens.proofs.ignored.after_ignored.Given as goal

abbrev pub invariant-loop-behind : goal.invariant-loop-behind
invariant-loop-behind l = after_all ignored_at l.rest ≡ after_all ignored_at l.text

abbrev pub decreases-loop-behind : goal.decreases-loop-behind
decreases-loop-behind l = length l.rest
