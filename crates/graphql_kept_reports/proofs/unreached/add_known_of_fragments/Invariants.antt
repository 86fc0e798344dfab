use Rattle.std.proofs.Common.{◌≡◌, ◌++◌}
use Rattle.std.specs.Prelude.{filter}
use Rattle.graphql_diagnostics.specs.Diagnostics.{entries}
use Rattle.graphql_kept_reports.specs.Unreached.{is_known_of_fragment}
use Rattle.graphql_kept_reports.proofs.unreached.add_known_of_fragments.Given as goal

-- what is known, and what will be added of the rest, are what is known in the end
abbrev pub invariant-loop-entry : goal.invariant-loop-entry
invariant-loop-entry l =
    entries l.known ++ filter (is_known_of_fragment l.fn.doubts l.further) l.entry-iterator.rest.items ≡
    entries l.initial.known ++ filter (is_known_of_fragment l.fn.doubts l.further) l.fn.reports.items
