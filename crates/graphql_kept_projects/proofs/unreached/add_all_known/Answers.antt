use Rattle.std.proofs.Common.{◌++◌, ◌∷◌, ◌≡◌, [], rules}
use Rattle.graphql_documents.proofs.ListLemmas.{done_next, stands_next}
use Rattle.graphql_kept_projects.specs.Left.{AreKnownOfList, AreKnownOfOne}
use Rattle.graphql_project_checking.proofs.TruthLemmas.{adds_nothing, adds_so, adds_then}
use Rattle.graphql_kept_projects.proofs.unreached.add_all_known.Goals as goal

pub loop-reports-init : goal.loop-reports-init
loop-reports-init c =
    let all = c.args.reported.lists.items in
    let is : all ≡ c.into_iter-reports-iterator.result.rest.items = search rules in
    ([], is, adds_nothing (AreKnownOfOne c.args.doubts.now c.args.added all) c.args.found.now.lists.items)

pub loop-reports-preserved : goal.loop-reports-preserved
loop-reports-preserved c =
    let all = c.args.reported.lists.items in
    let before = c.loop-reports.invariant in
    let x = c.in-Some.reports in
    let left = c.loop-reports.reports-iterator.rest.items in
    let rest = c.next.new.self.rest.items in
    let old = c.loop-reports.found.lists.items in
    let new = c.add_if.new.found.lists.items in
    let among = stands_next all before.0 left rest x before.1 c.in-Some.ensures.steps.0 in (
      before.0 ++ x ∷ [],
      done_next all before.0 left rest x before.1 c.in-Some.ensures.steps.0,
      adds_then (AreKnownOfOne c.args.doubts.now c.args.added all) c.args.found.now.lists.items old new before.2
          (adds_so (AreKnownOfList c.args.doubts.now c.args.added x) (AreKnownOfOne c.args.doubts.now c.args.added all) old new (λ r are. (x, among, are)) c.in_ok-add_if.ensures),
    )
