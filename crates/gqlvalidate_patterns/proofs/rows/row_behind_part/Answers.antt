-- The row behind one of the alternatives.
use Rattle.std.proofs.Common.{IfOk, sym, subst}
use Rattle.gqlvalidate_patterns.specs.Patterns.{EitherMatches, PartMatches}
use Rattle.gqlvalidate_patterns.specs.Rows.{IsRowBehind}
use Rattle.gqlvalidate_patterns.proofs.rows.row_behind_part.Goals as goal

pub returns-in-Either : goal.returns-in-Either
returns-in-Either c =
    subst (λ part. IfOk c.row_behind_either.result (λ row. IsRowBehind (PartMatches part) c.args.path.now c.args.begins.now row.items)) (sym c.in-Either.is)
    (subst (λ alternatives. IfOk c.row_behind_either.result (λ row. IsRowBehind (EitherMatches alternatives) c.args.path.now c.args.begins.now row.items))
    c.deref.ensures.value c.row_behind_either.ensures)
