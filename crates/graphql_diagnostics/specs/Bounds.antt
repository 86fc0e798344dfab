-- How much a list of reports keeps.
use Rattle.std.specs.Prelude.{◌≡◌, ◌+◌, ◌⊎◌, ℕ, List, [], Option, None, Some, length}
use Rattle.graphql_diagnostics.specs.declared.bounds.ReportBound.{ReportBound}

-- once a report with this message is kept, so much is left of the bound
pub record Leaves (bound : ReportBound) (message : List ℕ) (left : ReportBound) : Type 0 where
  pub reports : left.reports + 1 ≡ bound.reports
  pub bytes : left.bytes + length message ≡ bound.bytes

-- a bound of nothing
abbrev pub no_room : ReportBound
no_room = record { reports = 0; bytes = 0 }

-- once a report with this message is kept beside these, so much is left of the bound, if there is one. The first report is kept even if it does not
-- fit; then nothing is left
abbrev pub LeavesRoom : {X : Type 0} → List X → Option ReportBound → List ℕ → Option ReportBound → Type 0
LeavesRoom kept None message left = left ≡ None
LeavesRoom kept (Some bound) message None = ⊥
LeavesRoom kept (Some bound) message (Some left) = Leaves bound message left ⊎ ((kept ≡ []) × (left ≡ no_room))
