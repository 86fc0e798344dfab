use Rattle.std.proofs.Common.{◌∷◌, []}
use Rattle.graphql_kept_projects.specs.Schemas.{IsErrorOfPart}
use Rattle.graphql_kept_reports.specs.Reports.{KeepsReports}
use Rattle.graphql_kept_projects.proofs.schema_parts.add_errors.Given as goal

abbrev pub invariant-loop-part : goal.invariant-loop-part
invariant-loop-part l = KeepsReports (IsErrorOfPart l.bounds (l.source ∷ [])) l.initial.found.items l.found.items
