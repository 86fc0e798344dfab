use Rattle.std.proofs.Common.{◌++◌, [], ap, subst, sym}
use Rattle.std.specs.Prelude.{All, Contains}
use Rattle.std.proofs.lemmas.List.Elements.{All-contains}
use Rattle.graphql_diagnostics.specs.Reports.{KeepsReports}
use Rattle.graphql_pools.specs.Pools.{HasFirst, entries_among}
use Rattle.graphql_projects.specs.OperationTrees.{fragments_among}
use Rattle.graphql_project_checking.specs.Truth.{AddsOfParts, AreOfOneFile, AreOfParts}
use Rattle.graphql_project_checking.proofs.SilenceLemmas.{on_ok}
use Rattle.graphql_project_checking.proofs.TreeLemmas.{of_one_file}
use Rattle.graphql_project_checking.proofs.TruthLemmas.{adds_so, all_added}
use Rattle.graphql_project_checking.proofs.rest.check_rest.Goals as goal

pub returns : goal.returns
returns c =
    let s = c.args.building.schema.now in
    let b = c.args.building.bounds in
    let files = c.in_ok-files.files.items in
    let lenders = c.in_ok-lenders.lenders.items in
    let own = c.in_ok-files.ensures in
    let lent = c.in_ok-lenders.ensures in
    let pool = c.in_ok-pool.pool in
    let found = c.check_each.new.found.lists.items in
    let all = c.into_parts-all.result.0.items in
    let old = c.args.found.now.lists.items in
    let new = c.add_known.new.found.lists.items in
    let One = AreOfOneFile b s pool files in
    let Parts = AreOfParts b s (fragments_among (own.0 ++ lent.0)) own.0 in
    let first = subst (λ l. HasFirst (entries_among files ++ entries_among l) [] pool.fragments.entries) c.deref-3.ensures.value
    (subst (λ l. HasFirst (entries_among l ++ entries_among c.deref-3.result.now) [] pool.fragments.entries) c.deref-2.ensures.value c.in_ok-pool.ensures.first) in
    let each : All One all = subst (All One) (sym (ap (λ v. v.items) c.into_parts-all.ensures.lists))
    (all_added One c.new-all.result.lists.items found c.in_ok-check_each.ensures.truth c.new-all.ensures.lists) in
    record {
      truth = λ usable. on_ok (KeepsReports (Contains all) old new) (AddsOfParts b s c.args.own.items c.args.lent.items old new)
          (λ adds. (
            own.0,
            lent.0,
            own.1,
            lent.1,
            adds_so (Contains all) Parts old new (λ r k. of_one_file s usable own.0 lent.0 files lenders own.2 lent.2 pool first b r (All-contains One all r each k)) adds,
          ))
          c.add_known.result c.add_known.ensures.truth;
    }
