use Rattle.std.proofs.Common.{Bor, take}
use Rattle.std.specs.Prelude.{All, Any}
use Rattle.graphql_nodes.specs.declared.nodes.Node.{Node}
use Rattle.graphql_documents.specs.declared.documents.values.Value.{Value}
use Rattle.graphql_diagnostics.specs.Reports.{Reports}
use Rattle.graphql_usage_rules.specs.UndefinedVariables.{IsDefinedAmong, IsUndefinedReport}
use Rattle.graphql_usage_rules.proofs.undefined_variables.check_variables.Given as goal

abbrev pub invariant-loop-variable : goal.invariant-loop-variable
invariant-loop-variable l =
    Reports (All (λ (v : Bor (Node Value)). IsDefinedAmong l.defined v.now) (take l.variable-index l.used)) (λ e. Any (λ (v : Bor (Node Value)). IsUndefinedReport l.defined v.now e) l.used)
    l.initial.reports.kept.items l.reports.kept.items
