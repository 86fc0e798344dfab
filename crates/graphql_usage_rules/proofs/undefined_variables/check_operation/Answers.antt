use Rattle.std.proofs.Common.{◌≡◌, ◌∙◌, All, Bor, List, subst, sym}
use Rattle.std.specs.Prelude.{Any}
use Rattle.std.proofs.lemmas.List.Elements.{All-contains}
use Rattle.graphql_diagnostics.proofs.ReportLemmas.{ChecksList, checks_words}
use Rattle.graphql_diagnostics.specs.declared.lists.DiagnosticEntry.{DiagnosticEntry}
use Rattle.graphql_nodes.specs.declared.nodes.Node.{Node}
use Rattle.graphql_documents.proofs.ListLemmas.{each_standing, made_of, stands_mapped}
use Rattle.graphql_documents.specs.Selections.{fragments_of}
use Rattle.graphql_documents.specs.declared.documents.definitions.VariableDefinition.{VariableDefinition}
use Rattle.graphql_documents.specs.declared.documents.values.Value.{Value}
use Rattle.graphql_variables.proofs.UseLemmas.{any_has}
use Rattle.graphql_usage_rules.specs.Scopes.{AreVariablesInScope, values_at}
use Rattle.graphql_usage_rules.specs.UndefinedVariables.{IsDefinedAmong, IsUndefinedReport, OperationUndefinedReport, UsedVariablesAreDefined}
use Rattle.graphql_usage_rules.proofs.VariableLemmas.{all_defined}
use Rattle.graphql_usage_rules.proofs.undefined_variables.check_operation.Goals as goal

abbrev now_of : Bor (Node Value) → Node Value
now_of v = v.now

pub returns : goal.returns
returns c =
    let fragments = fragments_of c.args.document.now in
    let o = c.args.operation.now in
    let r = c.check_variables.result in
    let used = c.deref-2.result.now in
    let old = c.args.reports.now.kept.items in
    let new = c.check_variables.new.reports.kept.items in
    let variables : c.in_ok-defined.defined ≡ o.variables.items = c.in_ok-defined.ensures ∙ c.deref.ensures.value in
    let scope : AreVariablesInScope fragments o (values_at used) = subst (λ l. AreVariablesInScope fragments o (values_at l)) (sym c.deref-2.ensures.value) c.in_ok-used.ensures in
    let Defined : List (Node VariableDefinition) → Type 0 = λ vs. All (λ (v : Bor (Node Value)). IsDefinedAmong vs v.now) used in
    let Undefined : List (Node VariableDefinition) → DiagnosticEntry → Type 0 = λ vs e. Any (λ (v : Bor (Node Value)). IsUndefinedReport vs v.now e) used in
    checks_words r (Defined o.variables.items) (UsedVariablesAreDefined fragments o) (Undefined o.variables.items) (OperationUndefinedReport fragments o) old new (
      λ all.
          (all_defined fragments o).0
          (λ v inside.
          let made = made_of now_of used v ((scope v).1 inside) in
          subst (IsDefinedAmong o.variables.items) made.2 (All-contains (λ (v : Bor (Node Value)). IsDefinedAmong o.variables.items v.now) used made.0 all made.1)),
      λ defined.
          each_standing (λ (v : Bor (Node Value)). IsDefinedAmong o.variables.items v.now) used
          (λ v stands. (all_defined fragments o).1 defined v.now ((scope v.now).0 (stands_mapped now_of used v stands))),
    )
    (λ e any.
    let h = any_has (λ (v : Bor (Node Value)). IsUndefinedReport o.variables.items v.now e) used any in
    (h.0.now, (scope h.0.now).0 (stands_mapped now_of used h.0 h.1), h.2))
    (subst (λ vs. ChecksList r (Defined vs) (Undefined vs) old new) variables c.check_variables.ensures)
