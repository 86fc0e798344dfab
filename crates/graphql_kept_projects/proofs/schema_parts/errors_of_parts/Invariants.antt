use Rattle.std.specs.Prelude.{All}
use Rattle.graphql_kept_projects.specs.Schemas.{IsErrorOfPart}
use Rattle.graphql_kept_projects.proofs.schema_parts.errors_of_parts.Given as goal

abbrev pub invariant-loop-source : goal.invariant-loop-source
invariant-loop-source l = All (IsErrorOfPart l.bounds l.sources) l.found.items
