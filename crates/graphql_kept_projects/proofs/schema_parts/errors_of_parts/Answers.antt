use Rattle.std.proofs.Common.{rules}
use Rattle.graphql_kept_projects.specs.Schemas.{IsErrorOfPart}
use Rattle.graphql_kept_projects.proofs.SchemaLemmas.{all_kept, errors_among}
use Rattle.graphql_project_checking.proofs.TruthLemmas.{stands_at}
use Rattle.graphql_kept_projects.proofs.schema_parts.errors_of_parts.Goals as goal

pub loop-source-preserved : goal.loop-source-preserved
loop-source-preserved c =
    let whole = c.args.sources.now in
    let old = c.loop-source.found.items in
    let new = c.add_errors.new.found.items in
    all_kept (IsErrorOfPart c.args.bounds whole) old new c.loop-source.invariant
    (errors_among c.args.bounds whole _ old new (stands_at whole c.loop-source.source-index _ c.loop-source-test.true (search rules)) c.in_ok-add_errors.ensures)
