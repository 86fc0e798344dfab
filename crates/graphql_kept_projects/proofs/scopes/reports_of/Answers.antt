use Rattle.std.proofs.Common.{sym}
use Rattle.std.proofs.lemmas.Result.{IfOk-weaker}
use Rattle.graphql_kept_projects.proofs.scopes.reports_of.Goals as goal

pub returns-then-scope : goal.returns-then-scope
returns-then-scope c =
    IfOk-weaker c.check_project.result _ _ (λ found true. (c.split_at.result.0.now, c.split_at.result.1.now, sym c.split_at.ensures.by_index.0, true)) c.check_project.ensures.truth

pub returns-else-scope : goal.returns-else-scope
returns-else-scope c =
    IfOk-weaker c.check_part_of_project.result _ _ (λ found true. (c.split_at.result.0.now, c.split_at.result.1.now, sym c.split_at.ensures.by_index.0, true))
    c.check_part_of_project.ensures.truth
