use Rattle.std.proofs.Common.{length}
use Rattle.graphql_kept_reports.proofs.spreads.Spreads.add.Given as goal

abbrev pub decreases-loop-tokens : goal.decreases-loop-tokens
decreases-loop-tokens l = length l.tokens
