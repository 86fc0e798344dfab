-- One more place: what begins before the character ends behind it, if the character is one of the set.
use Rattle.std.proofs.Common.{◌≡◌, ◌∙◌, ◌+◌, true, get_or, sym, subst}
use Rattle.std.specs.Prelude.{◌↔◌}
use Rattle.std.proofs.lemmas.List.{get_or_read}
use Rattle.gqlvalidate_patterns.specs.Patterns.{IsIn, OneMatches}
use Rattle.gqlvalidate_patterns.specs.Rows.{EndsAt, Marks}
use Rattle.gqlvalidate_patterns.proofs.RowLemmas.{IsRowSoFar, one_here, row_more}
use Rattle.gqlvalidate_patterns.proofs.rows.row_behind_one.Goals as goal
use Rattle.gqlvalidate_patterns.proofs.rows.row_behind_one.Goals.{then-begins-place, else-begins-place}

pub loop-place-preserved : goal.loop-place-preserved
loop-place-preserved c =
    let path = c.args.path.now in
    let begins = c.args.begins.now in
    let set = c.args.set.now in
    let place = c.loop-place.place in
    let mark = c.if-begins-place.ends in
    let read : c.index-path-place.result ≡ get_or path place 0 = get_or_read path place _ c.loop-place-test.true c.index-path-place.is 0 in
    let is : (mark ≡ true) ↔ (Marks begins place × IsIn set (get_or path place 0)) =
    elim c.if-begins-place.branch [
      | then-begins-place w ↦ (
        λ marked. (w.if-begins-place.true, subst (IsIn set) read (w.contains-ends.ensures.0 (sym w.ends-is ∙ marked))),
        λ h. w.ends-is ∙ w.contains-ends.ensures.1 (subst (IsIn set) (sym read) h.1),
      )
      | else-begins-place w ↦ (λ marked. absurd (cc), λ h. absurd (cc))
    ] in
    subst (λ row. IsRowSoFar (EndsAt (OneMatches set) path begins) row (place + 1 + 1)) (sym c.in_ok-push-2.ensures.items)
    (row_more _ c.loop-place.row.items (place + 1) mark c.loop-place.invariant (one_here set path begins place mark c.loop-place-test.true is))
