use Rattle.std.proofs.Common.{◌≡◌, ◌++◌, List}
use Rattle.graphql_frontend.specs.declared.reports.Reports.{Reports}
use Rattle.graphql_kept_projects.specs.Left.{AreKnownOfOne}
use Rattle.graphql_kept_reports.specs.Reports.{KeepsReports}
use Rattle.graphql_kept_projects.proofs.unreached.add_all_known.Given as goal

-- the lists so far are the first ones, and what was added are some of their reports
abbrev pub invariant-loop-reports : goal.invariant-loop-reports
invariant-loop-reports l =
    (done : List Reports) × (l.fn.reported.lists.items ≡ done ++ l.reports-iterator.rest.items) ×
    KeepsReports (AreKnownOfOne l.fn.doubts l.fn.added l.fn.reported.lists.items) l.initial.found.lists.items l.found.lists.items
