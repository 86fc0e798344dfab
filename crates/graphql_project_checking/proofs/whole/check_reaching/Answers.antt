use Rattle.std.proofs.Common.{subst}
use Rattle.graphql_diagnostics.specs.Reports.{KeepsReports}
use Rattle.graphql_documents.specs.Selections.{fragments_of}
use Rattle.graphql_documents.specs.declared.documents.executables.Operation.{Operation}
use Rattle.graphql_projects.specs.Reached.{ReachesNames}
use Rattle.graphql_variables.specs.Uses.{names_of}
use Rattle.graphql_project_checking.specs.Silence.{HoldsWith, OperationPasses, QuietOnlyIf}
use Rattle.graphql_project_checking.specs.Truth.{AreOfDocumentWith, AreOfOperation}
use Rattle.graphql_project_checking.proofs.ReachingLemmas.{borrow_one, note_one}
use Rattle.graphql_project_checking.proofs.SilenceLemmas.{on_ok, quiet_so}
use Rattle.graphql_project_checking.proofs.TruthLemmas.{adds_so}
use Rattle.graphql_project_checking.proofs.UseTruthLemmas.{all_of_one}
use Rattle.graphql_project_checking.proofs.whole.check_reaching.Goals as goal

pub returns : goal.returns
returns c =
    let s = c.args.context.schema.now in
    let b = c.args.context.bounds in
    let pool = c.args.context.pool.now in
    let o = c.args.operation.now in
    let names = names_of c.in_ok-names.names.keys in
    let old = c.args.found.now.lists.items in
    let new = c.check_operation.new.found.lists.items in
    let reached = subst (λ (x : Operation). ReachesNames (fragments_of pool) x.selection_set names) c.deref.ensures c.in_ok-names.ensures in
    record {
      passes = on_ok (QuietOnlyIf old new (λ off. HoldsWith off s pool o names)) (QuietOnlyIf old new (λ off. OperationPasses off s pool o))
          (quiet_so old new (λ off. HoldsWith off s pool o names) (λ off. OperationPasses off s pool o) (λ off h. (names, reached, h))) c.check_operation.result c.check_operation.ensures.silence;
      truth = on_ok (KeepsReports (AreOfDocumentWith b s pool o names) old new) (KeepsReports (AreOfOperation b s pool o) old new)
          (adds_so (AreOfDocumentWith b s pool o names) (AreOfOperation b s pool o) old new (λ r are. record { names = names; reached = reached; of_document = are }))
          c.check_operation.result c.check_operation.ensures.truth;
      borrows = on_ok _ _ (λ h. borrow_one pool o names c.args.fragments.now.entries c.borrow_fragments.new.fragments.entries reached c.in_ok-borrow_fragments.ensures)
          c.check_operation.result c.check_operation.ensures.silence;
      used = on_ok _ _ (λ h. note_one pool o names (names_of c.args.used.now.keys) (names_of c.note_uses.new.used.keys) reached c.in_ok-note_uses.ensures)
          c.check_operation.result c.check_operation.ensures.silence;
      noted = on_ok _ _ (λ h. all_of_one pool o names (names_of c.args.used.now.keys) (names_of c.note_uses.new.used.keys) reached c.in_ok-note_uses.ensures)
          c.check_operation.result c.check_operation.ensures.silence;
    }
