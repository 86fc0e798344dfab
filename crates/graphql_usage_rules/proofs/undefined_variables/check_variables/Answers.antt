use Rattle.std.proofs.Common.{Bor, refl}
use Rattle.std.specs.Prelude.{Any}
use Rattle.graphql_diagnostics.proofs.ReportLemmas.{checks-err, kept_by, kept_then, kept_wider, walked_all, walked_more, wider}
use Rattle.graphql_diagnostics.specs.declared.lists.DiagnosticEntry.{DiagnosticEntry}
use Rattle.graphql_nodes.specs.declared.nodes.Node.{Node}
use Rattle.graphql_documents.specs.declared.documents.values.Value.{Value}
use Rattle.graphql_variables.proofs.FirstPlaceLemmas.{next_at, next_stands}
use Rattle.graphql_variables.proofs.UseLemmas.{has_any}
use Rattle.graphql_usage_rules.specs.UndefinedVariables.{IsDefinedAmong, IsUndefinedReport}
use Rattle.graphql_usage_rules.proofs.undefined_variables.check_variables.Goals as goal

pub loop-variable-preserved : goal.loop-variable-preserved
loop-variable-preserved c =
    let defined = c.args.defined.now in
    let used = c.args.used.now in
    let i = c.loop-variable.variable-index in
    let v : Bor (Node Value) = c.variable-item.result in
    let IsReport : DiagnosticEntry → Type 0 = λ e. Any (λ (v : Bor (Node Value)). IsUndefinedReport defined v.now e) used in
    walked_more (λ (v : Bor (Node Value)). IsDefinedAmong defined v.now) IsReport used i v c.args.reports.now.kept.items c.loop-variable.reports.kept.items c.check_variable.new.reports.kept.items
    c.loop-variable-test.true c.variable-item.is c.loop-variable.invariant
    (wider (λ e report. has_any (λ (v : Bor (Node Value)). IsUndefinedReport defined v.now e) used v (next_stands (next_at used i v c.loop-variable-test.true c.variable-item.is)) report)
    c.in_ok-check_variable.ensures)

pub returns-in_err-check_variable : goal.returns-in_err-check_variable
returns-in_err-check_variable c =
    let defined = c.args.defined.now in
    let used = c.args.used.now in
    let i = c.loop-variable.variable-index in
    let v : Bor (Node Value) = c.variable-item.result in
    checks-err c.from_residual.result _ _ c.args.reports.now.kept.items c.check_variable.new.reports.kept.items c.from_residual.ensures.0
    (kept_then (kept_by c.loop-variable.invariant)
    (kept_wider (λ e report. has_any (λ (v : Bor (Node Value)). IsUndefinedReport defined v.now e) used v (next_stands (next_at used i v c.loop-variable-test.true c.variable-item.is)) report)
    c.in_err-check_variable.ensures))

pub returns : goal.returns
returns c =
    let defined = c.args.defined.now in
    let used = c.args.used.now in
    let IsReport : DiagnosticEntry → Type 0 = λ e. Any (λ (v : Bor (Node Value)). IsUndefinedReport defined v.now e) used in
    walked_all (λ (v : Bor (Node Value)). IsDefinedAmong defined v.now) IsReport used c.loop-variable.variable-index used c.args.reports.now.kept.items c.loop-variable.reports.kept.items refl
    c.loop-variable-test.false c.loop-variable.invariant
