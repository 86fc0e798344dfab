use Rattle.std.proofs.Common.{◌≡◌, ◌++◌, List}
use Rattle.std.specs.Prelude.{Contains}
use Rattle.graphql_frontend.specs.declared.reports.Reports.{Reports}
use Rattle.graphql_kept_reports.specs.Reports.{KeepsReports}
use Rattle.graphql_kept_projects.proofs.documents.add_all.Given as goal

-- the lists so far are the first ones, and what was added are some of them
abbrev pub invariant-loop-reports : goal.invariant-loop-reports
invariant-loop-reports l =
    (done : List Reports) × (l.fn.lists.items ≡ done ++ l.reports-iterator.rest.items) ×
    KeepsReports (Contains l.fn.lists.items) l.initial.found.lists.items l.found.lists.items
