-- The row is right up to the place.
use Rattle.std.proofs.Common.{◌≡◌, ◌+◌, true}
use Rattle.std.specs.Prelude.{◌↔◌}
use Rattle.gqlvalidate_patterns.specs.Patterns.{ManyMatch}
use Rattle.gqlvalidate_patterns.specs.Rows.{EndsAt}
use Rattle.gqlvalidate_patterns.proofs.RowLemmas.{IsRowSoFar}
use Rattle.gqlvalidate_patterns.proofs.rows.row_behind_many.Given as goal

abbrev pub invariant-loop-place : goal.invariant-loop-place
invariant-loop-place l = record {
  row : IsRowSoFar (EndsAt (ManyMatch l.set) l.path l.begins) l.row.items (l.place + 1);
  last : (l.ends ≡ true) ↔ EndsAt (ManyMatch l.set) l.path l.begins l.place;
}
