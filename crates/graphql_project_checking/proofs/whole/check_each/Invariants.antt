use Rattle.std.proofs.Common.{◌≡◌, ◌++◌, List}
use Rattle.std.specs.Prelude.{All, flat_map}
use Rattle.graphql_diagnostics.specs.Reports.{KeepsReports}
use Rattle.graphql_documents.specs.Executables.{operations_of}
use Rattle.graphql_documents.specs.declared.documents.executables.ExecutableDocument.{ExecutableDocument}
use Rattle.graphql_variables.specs.Uses.{names_of}
use Rattle.graphql_project_checking.specs.Silence.{FilePasses, NotesUses, QuietOnlyIf}
use Rattle.graphql_project_checking.specs.Truth.{AreOfOneFile, NotesAll}
use Rattle.graphql_project_checking.proofs.whole.check_each.Given as goal

-- the files that were yielded pass where nothing is reported, what is reported is true, and what their operations reach is noted
abbrev pub invariant-loop-file : goal.invariant-loop-file
invariant-loop-file l =
    (done : List ExecutableDocument) × (l.fn.files.items ≡ done ++ l.file-iterator.rest.items) ×
    QuietOnlyIf l.initial.found.lists.items l.found.lists.items (λ off. All (FilePasses off l.context.schema.now l.context.pool.now) done) ×
    NotesUses l.context.pool.now (flat_map operations_of done) (names_of l.initial.used.keys) (names_of l.used.keys) ×
    KeepsReports (AreOfOneFile l.context.bounds l.context.schema.now l.context.pool.now l.fn.files.items) l.initial.found.lists.items l.found.lists.items ×
    NotesAll l.context.pool.now (flat_map operations_of done) (names_of l.initial.used.keys) (names_of l.used.keys)
