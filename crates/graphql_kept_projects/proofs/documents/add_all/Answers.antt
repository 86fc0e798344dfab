use Rattle.std.proofs.Common.{◌++◌, ◌∷◌, []}
use Rattle.std.specs.Prelude.{Contains}
use Rattle.graphql_documents.proofs.ListLemmas.{done_next, stands_next}
use Rattle.graphql_project_checking.proofs.TruthLemmas.{adds_one, adds_then}
use Rattle.graphql_kept_projects.proofs.documents.add_all.Goals as goal

pub loop-reports-preserved : goal.loop-reports-preserved
loop-reports-preserved c =
    let all = c.args.lists.items in
    let before = c.loop-reports.invariant in
    let x = c.in-Some.reports in
    let left = c.loop-reports.reports-iterator.rest.items in
    let rest = c.next.new.self.rest.items in
    let old = c.loop-reports.found.lists.items in
    let new = c.push.new.self.lists.items in (
      before.0 ++ x ∷ [],
      done_next all before.0 left rest x before.1 c.in-Some.ensures.steps.0,
      adds_then (Contains all) c.args.found.now.lists.items old new before.2
          (adds_one (Contains all) old new x c.in_ok-push.ensures.lists (stands_next all before.0 left rest x before.1 c.in-Some.ensures.steps.0)),
    )
