use Rattle.std.proofs.Common.{◌∷◌, []}
use Rattle.graphql_kept_projects.specs.Schemas.{IsErrorOfPart}
use Rattle.graphql_project_checking.proofs.TruthLemmas.{adds_then}
use Rattle.graphql_kept_projects.proofs.schema_parts.add_errors.Goals as goal

pub loop-part-preserved : goal.loop-part-preserved
loop-part-preserved c =
    adds_then (IsErrorOfPart c.args.bounds (c.args.source ∷ [])) c.args.found.now.items c.loop-part.found.items c.add_error.new.found.items c.loop-part.invariant c.in_ok-add_error.ensures
