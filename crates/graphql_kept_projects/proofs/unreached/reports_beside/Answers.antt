use Rattle.std.proofs.Common.{subst}
use Rattle.std.proofs.lemmas.Result.{IfOk-weaker}
use Rattle.graphql_project_checking.specs.Truth.{AreAllTrue}
use Rattle.graphql_kept_projects.proofs.unreached.reports_beside.Goals as goal

pub returns-then-scope : goal.returns-then-scope
returns-then-scope c =
    IfOk-weaker c.check_project.result _ _
    (λ found true. subst (λ own. AreAllTrue c.args.bounds c.args.schema.now own c.args.left.now found.lists.items) c.from_ref-own.ensures.value true) c.check_project.ensures.truth

pub returns-else-scope : goal.returns-else-scope
returns-else-scope c =
    IfOk-weaker c.check_part_of_project.result _ _
    (λ found true. subst (λ own. AreAllTrue c.args.bounds c.args.schema.now own c.args.left.now found.lists.items) c.from_ref-own.ensures.value true) c.check_part_of_project.ensures.truth
