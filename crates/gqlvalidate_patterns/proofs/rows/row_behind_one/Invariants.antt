-- The row is right up to the place.
use Rattle.std.proofs.Common.{◌+◌}
use Rattle.gqlvalidate_patterns.specs.Patterns.{OneMatches}
use Rattle.gqlvalidate_patterns.specs.Rows.{EndsAt}
use Rattle.gqlvalidate_patterns.proofs.RowLemmas.{IsRowSoFar}
use Rattle.gqlvalidate_patterns.proofs.rows.row_behind_one.Given as goal

abbrev pub invariant-loop-place : goal.invariant-loop-place
invariant-loop-place l = IsRowSoFar (EndsAt (OneMatches l.set) l.path l.begins) l.row.items (l.place + 1)
