-- The row is that behind the pieces so far.
use Rattle.std.proofs.Common.{take}
use Rattle.gqlvalidate_patterns.specs.Patterns.{PiecesMatch}
use Rattle.gqlvalidate_patterns.specs.Rows.{IsRowBehind}
use Rattle.gqlvalidate_patterns.proofs.rows.row_behind_pieces.Given as goal

abbrev pub invariant-loop-piece : goal.invariant-loop-piece
invariant-loop-piece l = IsRowBehind (PiecesMatch (take l.piece-index l.pieces)) l.path l.begins l.row.items
