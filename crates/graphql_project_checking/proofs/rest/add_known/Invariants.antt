use Rattle.std.proofs.Common.{◌≡◌, ◌++◌, List}
use Rattle.std.specs.Prelude.{Contains}
use Rattle.graphql_diagnostics.specs.Reports.{KeepsReports}
use Rattle.graphql_frontend.specs.declared.reports.Reports.{Reports}
use Rattle.graphql_project_checking.proofs.rest.add_known.Given as goal

-- what was found stays, and what is added is among all
abbrev pub invariant-loop-reports : goal.invariant-loop-reports
invariant-loop-reports l =
    (done : List Reports) × (l.fn.all.items ≡ done ++ l.reports-iterator.rest.items) ×
    KeepsReports (Contains l.fn.all.items) l.initial.found.lists.items l.found.lists.items
