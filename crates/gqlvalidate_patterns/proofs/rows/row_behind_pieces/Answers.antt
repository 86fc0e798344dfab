-- One more piece behind the others.
use Rattle.std.proofs.Common.{[], sym, subst}
use Rattle.gqlvalidate_patterns.specs.Patterns.{PieceMatches, PiecesMatch}
use Rattle.gqlvalidate_patterns.specs.Rows.{IsRowBehind}
use Rattle.gqlvalidate_patterns.proofs.RowLemmas.{one_more_in_turn, row_of_nothing}
use Rattle.gqlvalidate_patterns.proofs.rows.row_behind_pieces.Goals as goal

pub loop-piece-init : goal.loop-piece-init
loop-piece-init c =
    subst (IsRowBehind (PiecesMatch []) c.args.path.now c.args.begins.now) (sym c.in_ok-row.ensures.items)
    (row_of_nothing PieceMatches c.args.path.now c.args.begins.now c.requires)

pub loop-piece-preserved : goal.loop-piece-preserved
loop-piece-preserved c =
    one_more_in_turn PieceMatches c.args.pieces.now c.loop-piece.piece-index c.piece-item.result c.args.path.now c.args.begins.now c.loop-piece.row.items c.in_ok-row-2.row.items
    c.loop-piece-test.true c.piece-item.is c.loop-piece.invariant
    (subst (λ row. IsRowBehind (PieceMatches c.piece-item.result) c.args.path.now row c.in_ok-row-2.row.items) c.deref.ensures.value c.in_ok-row-2.ensures)
