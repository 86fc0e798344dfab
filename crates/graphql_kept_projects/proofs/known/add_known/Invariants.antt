use Rattle.std.proofs.Common.{◌≡◌, ◌++◌}
use Rattle.std.specs.Prelude.{filter, not}
use Rattle.graphql_kept_projects.specs.Rounds.{is_doubtful_list}
use Rattle.graphql_kept_projects.proofs.known.add_known.Given as goal

-- what is found, and what will be added of the rest, are what is found in the end
abbrev pub invariant-loop-reports : goal.invariant-loop-reports
invariant-loop-reports l =
    l.found.lists.items ++ filter (λ r. not (is_doubtful_list l.fn.doubts r)) l.reports-iterator.rest.items ≡
    l.initial.found.lists.items ++ filter (λ r. not (is_doubtful_list l.fn.doubts r)) l.fn.further.lists.items
