use Rattle.std.proofs.Common.{take}
use Rattle.graphql_diagnostics.specs.Reports.{KeepsReports}
use Rattle.graphql_projects.specs.OperationTrees.{fragments_among}
use Rattle.graphql_variables.specs.Uses.{names_of}
use Rattle.graphql_project_checking.proofs.UseLemmas.{UsedUnlessOff}
use Rattle.graphql_project_checking.specs.Silence.{QuietOnlyIf}
use Rattle.graphql_project_checking.specs.Truth.{AreOfRules, IsUnnamedEntry}
use Rattle.graphql_project_checking.proofs.uses.check_uses.Given as goal

abbrev pub invariant-loop-document : goal.invariant-loop-document
invariant-loop-document l =
    QuietOnlyIf l.initial.found.items l.found.items (UsedUnlessOff (names_of l.used.keys) (fragments_among (take l.document-index l.documents))) ×
    KeepsReports (AreOfRules (IsUnnamedEntry (names_of l.used.keys) (fragments_among l.documents))) l.initial.found.items l.found.items
