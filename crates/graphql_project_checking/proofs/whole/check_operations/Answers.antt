use Rattle.std.proofs.Common.{Bor, [], ap, subst, take_all, ◌∙◌}
use Rattle.std.specs.Prelude.{All}
use Rattle.std.proofs.lemmas.List.Elements.{All-nil}
use Rattle.graphql_diagnostics.specs.Reports.{KeepsReports}
use Rattle.graphql_documents.proofs.ListLemmas.{stands_mapped}
use Rattle.graphql_documents.specs.declared.documents.executables.Operation.{Operation}
use Rattle.graphql_nodes.specs.declared.nodes.Node.{Node}
use Rattle.graphql_projects.specs.Reach.{nodes_at}
use Rattle.graphql_variables.specs.Uses.{names_of}
use Rattle.graphql_project_checking.specs.Silence.{BorrowsForAll, NotesUses, OperationPasses, QuietOnlyIf}
use Rattle.graphql_project_checking.specs.Truth.{AreOfOneOperation, AreOfOperation, NotesAll}
use Rattle.graphql_project_checking.proofs.ReachingLemmas.{borrow_more, borrow_nothing, note_more, note_nothing, passes_more}
use Rattle.graphql_project_checking.proofs.SilenceLemmas.{stays_quiet}
use Rattle.graphql_project_checking.proofs.TruthLemmas.{adds_nothing, adds_so, adds_then, stands_at}
use Rattle.graphql_project_checking.proofs.UseTruthLemmas.{all_of_more, all_of_nothing}
use Rattle.graphql_project_checking.proofs.whole.check_operations.Goals as goal

pub loop-operation-init : goal.loop-operation-init
loop-operation-init c =
    let s = c.args.context.schema.now in
    let pool = c.args.context.pool.now in (
      stays_quiet c.args.found.now.lists.items (λ off. All (OperationPasses off s pool) []) (λ off. All-nil (OperationPasses off s pool)),
      borrow_nothing pool c.args.fragments.now.entries,
      note_nothing pool (names_of c.args.used.now.keys),
      adds_nothing (AreOfOneOperation c.args.context.bounds s pool (nodes_at c.deref-operation-items.result.now)) c.args.found.now.lists.items,
      all_of_nothing pool (names_of c.args.used.now.keys),
    )

pub loop-operation-preserved : goal.loop-operation-preserved
loop-operation-preserved c =
    let s = c.args.context.schema.now in
    let b = c.args.context.bounds in
    let pool = c.args.context.pool.now in
    let all = c.deref-operation-items.result.now in
    let i = c.loop-operation.operation-index in
    let x = c.operation-item.result in
    let old = c.args.found.now.lists.items in
    let mid = c.loop-operation.found.lists.items in
    let new = c.check_reaching.new.found.lists.items in
    let before = c.loop-operation.invariant in (
      passes_more pool s all i x old mid new c.loop-operation-test.true c.operation-item.is before.0 c.in_ok-check_reaching.ensures.passes,
      borrow_more pool all i x c.args.fragments.now.entries c.loop-operation.fragments.entries c.check_reaching.new.fragments.entries c.loop-operation-test.true c.operation-item.is
          before.1 c.in_ok-check_reaching.ensures.borrows,
      note_more pool all i x (names_of c.args.used.now.keys) (names_of c.loop-operation.used.keys) (names_of c.check_reaching.new.used.keys) c.loop-operation-test.true c.operation-item.is
          before.2 c.in_ok-check_reaching.ensures.used,
      adds_then (AreOfOneOperation b s pool (nodes_at all)) old mid new before.3
          (adds_so (AreOfOperation b s pool x.now) (AreOfOneOperation b s pool (nodes_at all)) mid new
          (λ r are. (x.now, stands_mapped (λ (o : Bor (Node Operation)). o.now) all x (stands_at all i x c.loop-operation-test.true c.operation-item.is), are))
          c.in_ok-check_reaching.ensures.truth),
      all_of_more pool all i x (names_of c.args.used.now.keys) (names_of c.loop-operation.used.keys) (names_of c.check_reaching.new.used.keys) c.loop-operation-test.true c.operation-item.is
          before.4 c.in_ok-check_reaching.ensures.noted,
    )

pub returns : goal.returns
returns c =
    let s = c.args.context.schema.now in
    let pool = c.args.context.pool.now in
    let all = c.deref-operation-items.result.now in
    let before = c.loop-operation.invariant in
    let are = ap nodes_at c.deref-operation-items.ensures.value ∙ c.in_ok-operations.ensures in
    let done = ap nodes_at (take_all c.loop-operation.operation-index all c.loop-operation-test.false) ∙ are in
    record {
      passes = subst (λ l. QuietOnlyIf c.args.found.now.lists.items c.loop-operation.found.lists.items (λ off. All (OperationPasses off s pool) l)) done before.0;
      truth = subst (λ l. KeepsReports (AreOfOneOperation c.args.context.bounds s pool l) c.args.found.now.lists.items c.loop-operation.found.lists.items) are before.3;
      borrows = subst (λ l. BorrowsForAll pool l c.args.fragments.now.entries c.loop-operation.fragments.entries) done before.1;
      used = subst (λ l. NotesUses pool l (names_of c.args.used.now.keys) (names_of c.loop-operation.used.keys)) done before.2;
      noted = subst (λ l. NotesAll pool l (names_of c.args.used.now.keys) (names_of c.loop-operation.used.keys)) done before.4;
    }
