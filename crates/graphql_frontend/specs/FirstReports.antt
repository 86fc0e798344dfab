-- The first of more reports than the bounds keep.
use Rattle.std.specs.Prelude.{◌≢◌, ◌≤◌, List, [], All, length, max}
use Rattle.graphql_parser.specs.declared.bounds.Bounds.{Bounds}

-- one report at least is kept, and no more than the bounds say; each is true
pub record AreFirst {X : Type 0} (bounds : Bounds) (IsTrueReport : X → Type 0) (kept : List X) : Type 0 where
  pub some : kept ≢ []
  pub few : length kept ≤ max bounds.reports 1
  pub each : All IsTrueReport kept
