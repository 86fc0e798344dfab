use Rattle.std.proofs.Common.{take}
use Rattle.graphql_diagnostics.specs.Diagnostics.{entries}
use Rattle.graphql_diagnostics.specs.Reports.{KeepsReports}
use Rattle.graphql_document_checking.specs.Trees.{fragments_in}
use Rattle.graphql_variables.specs.Uses.{names_of}
use Rattle.graphql_project_checking.specs.Silence.{ReportsUnused}
use Rattle.graphql_project_checking.specs.Truth.{IsUnnamedEntry}
use Rattle.graphql_project_checking.proofs.uses.report_unused.Given as goal

abbrev pub invariant-loop-definition : goal.invariant-loop-definition
invariant-loop-definition l =
    ReportsUnused (names_of l.used.keys) (fragments_in (take l.definition-index l.definitions)) (entries l.initial.rules) (entries l.rules) ×
    KeepsReports (IsUnnamedEntry (names_of l.used.keys) (fragments_in l.definitions)) (entries l.initial.rules) (entries l.rules)
