use Rattle.graphql_kept_reports.specs.Reports.{KeepsReports}
use Rattle.graphql_kept_projects.specs.Left.{AreTrueOfOne}
use Rattle.graphql_kept_projects.proofs.certain.add_all_certain.Given as goal

-- what was found stays, and what is added is true of one of the texts
abbrev pub invariant-loop-source : goal.invariant-loop-source
invariant-loop-source l = KeepsReports (AreTrueOfOne l.bounds l.fn.read) l.initial.found.lists.items l.found.lists.items
