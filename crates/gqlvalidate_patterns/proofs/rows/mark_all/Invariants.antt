-- The marks of the other row are there up to the place.
use Rattle.std.proofs.Common.{◌≡◌, ◌<◌, ℕ, length}
use Rattle.std.specs.Prelude.{◌↔◌, ◌⊎◌}
use Rattle.gqlvalidate_patterns.specs.Rows.{Marks}
use Rattle.gqlvalidate_patterns.proofs.rows.mark_all.Given as goal

abbrev pub invariant-loop-place : goal.invariant-loop-place
invariant-loop-place l = record {
  long : length l.row.items ≡ length l.other;
  each : (place : ℕ) → place < length l.other → Marks l.row.items place ↔ (Marks l.fn.row.items place ⊎ ((place < l.place) × Marks l.other place));
}
