use Rattle.std.proofs.Common.{All, take}
use Rattle.graphql_diagnostics.specs.Diagnostics.{entries}
use Rattle.graphql_diagnostics.specs.Reports.{Reports}
use Rattle.graphql_operations.specs.OperationDefers.{DirectivesDeferReport, MeetsIfDeferred}
use Rattle.graphql_operations.proofs.defer.rules.DeferRule.check_directives.Given as goal

-- each `@defer` so far that breaks the rule is reported
abbrev pub invariant-loop-directive : goal.invariant-loop-directive
invariant-loop-directive l =
    Reports (All (MeetsIfDeferred l.self) (take l.directive-index l.directives)) (DirectivesDeferReport l.self l.directives)
    (entries l.initial.diagnostics) (entries l.diagnostics)
