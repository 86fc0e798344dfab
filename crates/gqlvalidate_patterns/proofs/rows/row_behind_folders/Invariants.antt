-- The row is right up to the place.
use Rattle.std.proofs.Common.{◌≡◌, ◌+◌, true}
use Rattle.std.specs.Prelude.{◌↔◌}
use Rattle.gqlvalidate_patterns.specs.Patterns.{FoldersMatch}
use Rattle.gqlvalidate_patterns.specs.Rows.{EndsAt}
use Rattle.gqlvalidate_patterns.proofs.RowLemmas.{HasBegun, IsRowSoFar}
use Rattle.gqlvalidate_patterns.proofs.rows.row_behind_folders.Given as goal

abbrev pub invariant-loop-place : goal.invariant-loop-place
invariant-loop-place l = record {
  row : IsRowSoFar (EndsAt FoldersMatch l.path l.begins) l.row.items (l.place + 1);
  begun : (l.has_begun ≡ true) ↔ HasBegun l.begins l.place;
}
