use Rattle.graphql_kept_reports.specs.Reports.{KeepsReports}
use Rattle.graphql_kept_projects.specs.Left.{AreFurther, IsLeft}
use Rattle.graphql_kept_projects.proofs.rounds.add_rounds.Given as goal

-- something is left of the texts, what was found stays, and what is added is true of what is left
abbrev pub invariant-loop : goal.invariant-loop
invariant-loop l = record {
  left : IsLeft l.read l.left;
  adds : KeepsReports (AreFurther l.bounds l.schema l.read) l.initial.found.lists.items l.found.lists.items;
}
