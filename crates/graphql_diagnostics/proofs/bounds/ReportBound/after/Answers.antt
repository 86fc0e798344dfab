use Rattle.std.proofs.Common.{rules, ◌≡◌, ◌+◌, ◌-◌, ◌≤◌, ℕ, List, length, arith}
use Rattle.std.proofs.lemmas.Option.{IfSome_then}
use Rattle.graphql_diagnostics.specs.Bounds.{Leaves}
use Rattle.graphql_diagnostics.proofs.BoundLemmas.{left_after_writes}
use Rattle.graphql_diagnostics.proofs.bounds.ReportBound.after.Goals as goal

pub returns-in-Ok : goal.returns-in-Ok
returns-in-Ok g c = IfSome_then (g.M.Display.output c.args.message) c.in-Ok.ensures.writes
    (λ text wrote. record {
      reports = omega (arith, c.in_ok-reports.ensures.0, c.in_ok-reports.ensures.1);
      bytes = left_after_writes (λ r. r.bytes) _ text _ wrote;
    })
