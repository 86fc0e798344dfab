-- One more alternative: its places are marked too.
use Rattle.std.proofs.Common.{◌∙◌, length, sym, subst, [], ap}
use Rattle.gqlvalidate_patterns.specs.Patterns.{EitherMatches, PiecesMatch}
use Rattle.gqlvalidate_patterns.specs.Rows.{IsRowBehind, RowsMeet}
use Rattle.gqlvalidate_patterns.proofs.EitherLemmas.{no_alternative, one_more_alternative}
use Rattle.gqlvalidate_patterns.proofs.rows.row_behind_either.Goals as goal

pub loop-pieces-init : goal.loop-pieces-init
loop-pieces-init c =
    subst (IsRowBehind (EitherMatches []) c.args.path.now c.args.begins.now) (sym c.in_ok-row.ensures)
    (no_alternative c.args.path.now c.args.begins.now (length c.args.begins.now) c.requires)

pub mark_all-requires : goal.mark_all-requires
mark_all-requires c =
    c.loop-pieces.invariant.long ∙ sym c.in_ok-further.ensures.long ∙ ap length (sym c.deref-in-loop-pieces.ensures.value)

pub loop-pieces-preserved : goal.loop-pieces-preserved
loop-pieces-preserved c =
    one_more_alternative c.args.alternatives.now c.loop-pieces.pieces-index c.pieces-item.result c.args.path.now c.args.begins.now
    c.loop-pieces.row.items c.in_ok-further.further.items c.mark_all.new.row.items c.loop-pieces-test.true c.pieces-item.is c.loop-pieces.invariant
    (subst (λ pieces. IsRowBehind (PiecesMatch pieces) c.args.path.now c.args.begins.now c.in_ok-further.further.items) c.deref.ensures.value c.in_ok-further.ensures)
    (subst (λ further. RowsMeet c.loop-pieces.row.items further c.mark_all.new.row.items) c.deref-in-loop-pieces.ensures.value c.mark_all.ensures)
