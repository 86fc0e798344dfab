use Rattle.std.proofs.Common.{◌≡◌, ◌++◌}
use Rattle.std.specs.Prelude.{filter}
use Rattle.graphql_diagnostics.specs.Diagnostics.{entries}
use Rattle.graphql_kept_reports.specs.SchemaDoubtful.{is_certain_of_schema}
use Rattle.graphql_kept_reports.proofs.schema_certain.add_certain.Given as goal

-- what is certain, and what will be added of the rest, are what is certain in the end
abbrev pub invariant-loop-entry : goal.invariant-loop-entry
invariant-loop-entry l =
    entries l.certain ++ filter (is_certain_of_schema l.fn.doubts) l.entry-iterator.rest.items ≡
    entries l.initial.certain ++ filter (is_certain_of_schema l.fn.doubts) l.fn.reports.items
