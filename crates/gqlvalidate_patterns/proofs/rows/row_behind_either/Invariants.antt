-- The row is that behind one of the alternatives so far.
use Rattle.std.proofs.Common.{take}
use Rattle.gqlvalidate_patterns.specs.Patterns.{EitherMatches}
use Rattle.gqlvalidate_patterns.specs.Rows.{IsRowBehind}
use Rattle.gqlvalidate_patterns.proofs.rows.row_behind_either.Given as goal

abbrev pub invariant-loop-pieces : goal.invariant-loop-pieces
invariant-loop-pieces l = IsRowBehind (EitherMatches (take l.pieces-index l.alternatives)) l.path l.begins l.row.items
