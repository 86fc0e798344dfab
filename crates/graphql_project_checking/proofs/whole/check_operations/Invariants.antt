use Rattle.std.proofs.Common.{take}
use Rattle.std.specs.Prelude.{All}
use Rattle.graphql_diagnostics.specs.Reports.{KeepsReports}
use Rattle.graphql_projects.specs.Reach.{nodes_at}
use Rattle.graphql_variables.specs.Uses.{names_of}
use Rattle.graphql_project_checking.specs.Silence.{BorrowsForAll, NotesUses, OperationPasses, QuietOnlyIf}
use Rattle.graphql_project_checking.specs.Truth.{AreOfOneOperation, NotesAll}
use Rattle.graphql_project_checking.proofs.whole.check_operations.Given as goal

-- so many of the operations pass where nothing is reported, what is reported is true, and what they reach is borrowed and noted
abbrev pub invariant-loop-operation : goal.invariant-loop-operation
invariant-loop-operation l =
    QuietOnlyIf l.initial.found.lists.items l.found.lists.items
    (λ off. All (OperationPasses off l.context.schema.now l.context.pool.now) (nodes_at (take l.operation-index l.operation-items))) ×
    BorrowsForAll l.context.pool.now (nodes_at (take l.operation-index l.operation-items)) l.initial.fragments.entries l.fragments.entries ×
    NotesUses l.context.pool.now (nodes_at (take l.operation-index l.operation-items)) (names_of l.initial.used.keys) (names_of l.used.keys) ×
    KeepsReports (AreOfOneOperation l.context.bounds l.context.schema.now l.context.pool.now (nodes_at l.operation-items)) l.initial.found.lists.items l.found.lists.items ×
    NotesAll l.context.pool.now (nodes_at (take l.operation-index l.operation-items)) (names_of l.initial.used.keys) (names_of l.used.keys)
