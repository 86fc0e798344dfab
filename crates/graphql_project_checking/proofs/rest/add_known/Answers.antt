use Rattle.std.proofs.Common.{◌∷◌, ◌++◌, [], rules}
use Rattle.std.specs.Prelude.{Contains}
use Rattle.graphql_documents.proofs.ListLemmas.{done_next, stands_next}
use Rattle.graphql_project_checking.proofs.TruthLemmas.{adds_nothing, adds_one, adds_then}
use Rattle.graphql_project_checking.proofs.rest.add_known.Goals as goal

pub loop-reports-init : goal.loop-reports-init
loop-reports-init c = ([], search rules, adds_nothing (Contains c.args.all.items) c.args.found.now.lists.items)

pub loop-reports-preserved-then-may_follow : goal.loop-reports-preserved-then-may_follow
loop-reports-preserved-then-may_follow c =
    let before = c.loop-reports.invariant in
    let x = c.in-Some.reports in
    (before.0 ++ x ∷ [], done_next _ before.0 c.loop-reports.reports-iterator.rest.items c.next.new.self.rest.items x before.1 c.in-Some.ensures.steps.0, before.2)

pub loop-reports-preserved : goal.loop-reports-preserved
loop-reports-preserved c =
    let before = c.loop-reports.invariant in
    let all = c.args.all.items in
    let x = c.in-Some.reports in
    let old = c.args.found.now.lists.items in
    let mid = c.loop-reports.found.lists.items in
    let new = c.push.new.self.lists.items in
    let rest = c.loop-reports.reports-iterator.rest.items in (
      before.0 ++ x ∷ [],
      done_next _ before.0 rest c.next.new.self.rest.items x before.1 c.in-Some.ensures.steps.0,
      adds_then (Contains all) old mid new before.2
          (adds_one (Contains all) mid new x c.in_ok-push.ensures.lists (stands_next all before.0 rest c.next.new.self.rest.items x before.1 c.in-Some.ensures.steps.0)),
    )

pub returns : goal.returns
returns c = record { truth = c.loop-reports.invariant.2 }
