-- One more place: what ends before the character ends behind it too, if the character is one of the set.
use Rattle.std.proofs.Common.{◌≡◌, ◌∙◌, ◌+◌, true, get_or, inl, inr, sym, subst}
use Rattle.std.specs.Prelude.{◌↔◌, ◌⊎◌}
use Rattle.std.proofs.lemmas.List.{get_or_read}
use Rattle.gqlvalidate_patterns.specs.Patterns.{IsIn, ManyMatch}
use Rattle.gqlvalidate_patterns.specs.Rows.{EndsAt, Marks}
use Rattle.gqlvalidate_patterns.proofs.RowLemmas.{IsRowSoFar, many_here, row_more}
use Rattle.gqlvalidate_patterns.proofs.rows.row_behind_many.Goals as goal
use Rattle.gqlvalidate_patterns.proofs.rows.row_behind_many.Goals.{then-begins-place, else-begins-place+then-ends, else-begins-place+else-ends}

pub loop-place-preserved : goal.loop-place-preserved
loop-place-preserved c =
    let path = c.args.path.now in
    let begins = c.args.begins.now in
    let set = c.args.set.now in
    let place = c.loop-place.place in
    let mark = c.if-begins-place.ends in
    let read : c.index-path-place.result ≡ get_or path place 0 = get_or_read path place _ c.loop-place-test.true c.index-path-place.is 0 in
    let is : (mark ≡ true) ↔ (Marks begins (place + 1) ⊎ ((c.loop-place.ends ≡ true) × IsIn set (get_or path place 0))) =
    elim c.if-begins-place.branch [
      | then-begins-place w ↦ (λ marked. inl w.if-begins-place.true, λ h. w.ends-is ∙ w.if-begins-place.true)
      | else-begins-place+then-ends w ↦ (
        λ marked. inr (w.if-ends.true, subst (IsIn set) read (w.contains.ensures.0 (sym w.ends-is ∙ marked))),
        λ h. elim h [ inl begins ↦ absurd (cc) | inr further ↦ w.ends-is ∙ w.contains.ensures.1 (subst (IsIn set) (sym read) further.1) ],
      )
      | else-begins-place+else-ends w ↦ (λ marked. absurd (cc), λ h. elim h [ inl begins ↦ absurd (cc) | inr further ↦ let one = further.0 in absurd (cc) ])
    ] in
    let here = many_here set path begins place c.loop-place.ends mark c.loop-place-test.true c.loop-place.invariant.last is in
    record {
      row = subst (λ row. IsRowSoFar (EndsAt (ManyMatch set) path begins) row (place + 1 + 1)) (sym c.in_ok-push-2.ensures.items)
          (row_more _ c.loop-place.row.items (place + 1) mark c.loop-place.invariant.row here);
      last = here;
    }
