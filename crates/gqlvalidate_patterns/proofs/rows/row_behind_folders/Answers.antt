-- One more place: behind a `/` folders end that began anywhere before it.
use Rattle.std.proofs.Common.{◌≡◌, ◌∙◌, ◌+◌, true, get_or, inl, inr, sym, subst}
use Rattle.std.specs.Prelude.{◌↔◌, ◌⊎◌}
use Rattle.std.proofs.lemmas.Bool.{eq-eqb, eqb-true}
use Rattle.std.proofs.lemmas.List.{get_or_read}
use Rattle.gqlvalidate_patterns.specs.Patterns.{FoldersMatch, slash}
use Rattle.gqlvalidate_patterns.specs.Rows.{EndsAt, Marks}
use Rattle.gqlvalidate_patterns.proofs.RowLemmas.{IsRowSoFar, begun_here, folders_here, row_more}
use Rattle.gqlvalidate_patterns.proofs.rows.row_behind_folders.Goals as goal
use Rattle.gqlvalidate_patterns.proofs.rows.row_behind_folders.Goals.{then-begins-place, else-begins-place+then-has_begun, else-begins-place+else-has_begun, then-has_begun-2, else-has_begun-2}

pub loop-place-preserved : goal.loop-place-preserved
loop-place-preserved c =
    let path = c.args.path.now in
    let begins = c.args.begins.now in
    let place = c.loop-place.place in
    let mark = c.if-begins-place.ends in
    let begun = c.loop-place.has_begun in
    let read : c.index-path-place.result ≡ get_or path place 0 = get_or_read path place _ c.loop-place-test.true c.index-path-place.is 0 in
    let is : (mark ≡ true) ↔ (Marks begins (place + 1) ⊎ ((begun ≡ true) × (get_or path place 0 ≡ slash))) =
    elim c.if-begins-place.branch [
      | then-begins-place w ↦ (λ marked. inl w.if-begins-place.true, λ h. w.ends-is ∙ w.if-begins-place.true)
      | else-begins-place+then-has_begun w ↦ (
        λ marked. inr (w.if-has_begun.true, sym read ∙ eqb-true c.index-path-place.result 47 (sym w.ends-is ∙ marked)),
        λ h. elim h [ inl begins ↦ absurd (cc) | inr further ↦ w.ends-is ∙ eq-eqb c.index-path-place.result 47 (read ∙ further.1) ],
      )
      | else-begins-place+else-has_begun w ↦ (λ marked. absurd (cc), λ h. elim h [ inl begins ↦ absurd (cc) | inr further ↦ let one = further.0 in absurd (cc) ])
    ] in
    let further : (c.if-has_begun-2.has_begun ≡ true) ↔ ((begun ≡ true) ⊎ Marks begins (place + 1)) =
    elim c.if-has_begun-2.branch [
      | then-has_begun-2 w ↦ (λ is. inl w.if-has_begun-2.true, λ h. w.has_begun-is ∙ w.if-has_begun-2.true)
      | else-has_begun-2 w ↦ (λ is. inr (sym w.has_begun-is ∙ is), λ h. elim h [ inl earlier ↦ absurd (cc) | inr here ↦ w.has_begun-is ∙ here ])
    ] in
    record {
      row = subst (λ row. IsRowSoFar (EndsAt FoldersMatch path begins) row (place + 1 + 1)) (sym c.in_ok-push-2.ensures.items)
          (row_more _ c.loop-place.row.items (place + 1) mark c.loop-place.invariant.row
          (folders_here path begins place begun mark c.loop-place-test.true c.loop-place.invariant.begun is));
      begun = begun_here begins place begun c.if-has_begun-2.has_begun c.loop-place.invariant.begun further;
    }
