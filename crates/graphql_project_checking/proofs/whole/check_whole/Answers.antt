use Rattle.std.proofs.Common.{◌++◌, [], subst}
use Rattle.std.specs.Prelude.{All, flat_map}
use Rattle.graphql_diagnostics.specs.Reports.{KeepsReports}
use Rattle.graphql_documents.specs.Executables.{operations_of}
use Rattle.graphql_pools.specs.Pools.{Gathers, HasFirst, entries_among}
use Rattle.graphql_projects.specs.OperationTrees.{fragments_among}
use Rattle.graphql_variables.specs.Uses.{names_of}
use Rattle.graphql_project_checking.specs.Silence.{FilePasses, FilesHold, NotesUses, QuietOnlyIf}
use Rattle.graphql_project_checking.specs.Truth.{AreOfOneFile, AreOfRules, AreOfWhole, IsUnnamedEntry, IsUnusedEntry, NotesAll, of_parts, of_unused}
use Rattle.graphql_project_checking.proofs.ProjectLemmas.{files_hold, pool_says}
use Rattle.graphql_project_checking.proofs.SilenceLemmas.{on_ok, quiet_then}
use Rattle.graphql_project_checking.proofs.TreeLemmas.{of_one_file, unnamed_is_unused}
use Rattle.graphql_project_checking.proofs.TruthLemmas.{adds_so, adds_then, rules_so}
use Rattle.graphql_project_checking.proofs.UseLemmas.{UsedUnlessOff}
use Rattle.graphql_project_checking.proofs.whole.check_whole.Goals as goal

pub returns : goal.returns
returns c =
    let s = c.args.building.schema.now in
    let b = c.args.building.bounds in
    let own = c.args.own.now in
    let files = c.args.files.items in
    let lenders = c.args.lenders.now in
    let pool = c.in_ok-pool.pool in
    let old = c.args.found.now.lists.items in
    let mid = c.check_each.new.found.lists.items in
    let new = c.check_uses.new.found.items in
    let used = names_of c.check_each.new.used.keys in
    record {
      silence = λ lent usable own_build lent_build distinct.
          let gathers = subst (λ l. Gathers (entries_among l ++ entries_among lenders) [] pool.fragments.entries) c.deref.ensures.value c.in_ok-pool.ensures.gathers in
          let said = pool_says s own lent files lenders pool.fragments.entries own_build.1 lent_build.1 distinct gathers in
          let notes = subst (λ l. NotesUses pool (flat_map operations_of files) (names_of l) used) c.with_hasher-used.ensures.empty c.in_ok-check_each.ensures.used in
          on_ok (QuietOnlyIf mid new (UsedUnlessOff used (fragments_among own))) (QuietOnlyIf old new (λ off. FilesHold off s own lent))
          (quiet_then old mid new (λ off. All (FilePasses off s pool) files) (UsedUnlessOff used (fragments_among own)) (λ off. FilesHold off s own lent)
          (λ off pass named. files_hold off s own lent files pool used usable own_build.0 own_build.1 said distinct pass notes named) c.in_ok-check_each.ensures.passes)
          c.check_uses.result c.check_uses.ensures.silence;
      truth = λ lent usable own_build lent_build.
          let first = subst (λ l. HasFirst (entries_among l ++ entries_among lenders) [] pool.fragments.entries) c.deref.ensures.value c.in_ok-pool.ensures.first in
          let notes = subst (λ l. NotesAll pool (flat_map operations_of files) (names_of l) used) c.with_hasher-used.ensures.empty c.in_ok-check_each.ensures.noted in
          let trees = fragments_among (own ++ lent) in
          let True = AreOfWhole b s trees own in
          let Unnamed = IsUnnamedEntry used (fragments_among own) in
          on_ok (KeepsReports (AreOfRules Unnamed) mid new) (KeepsReports True old new)
          (λ adds. adds_then True old mid new
          (adds_so (AreOfOneFile b s pool files) True old mid (λ r are. of_parts (of_one_file s usable own lent files lenders own_build.1 lent_build.1 pool first b r are))
          c.in_ok-check_each.ensures.truth)
          (adds_so (AreOfRules Unnamed) True mid new
          (λ r are. of_unused (rules_so Unnamed (IsUnusedEntry trees own) (unnamed_is_unused s usable own lent files lenders own_build.1 lent_build.1 pool first used notes) r are)) adds))
          c.check_uses.result c.check_uses.ensures.truth;
    }
