use Rattle.std.proofs.Common.{◌↔◌, Contains, ◌≡◌, ◌∙◌, List, refl, sym, ap, subst, All, map}
use Rattle.std.specs.Borrow.{Bor}
use Rattle.std.specs.Prelude.{MatchResult}
use Rattle.graphql_diagnostics.specs.Diagnostics.{IsDiagnostic, entries}
use Rattle.graphql_nodes.specs.Names.{NameText, different_names}
use Rattle.graphql_diagnostics.specs.Reports.{Appends, KeepsReports}
use Rattle.graphql_documents.specs.Selections.{Reachable, fragments_of}
use Rattle.graphql_specification.specs.Variables.{AreUnusedReports, UsesReport, defined_names}
use Rattle.graphql_documents.specs.declared.documents.definitions.VariableDefinition.{VariableDefinition}
use Rattle.graphql_documents.specs.declared.documents.executables.Selection.{Selection}
use Rattle.graphql_nodes.specs.declared.nodes.Node.{Node}
use Rattle.graphql_variables.proofs.NameSetLemmas.{entry_names}
use Rattle.graphql_variables.proofs.UnusedLemmas.{IsLast, bound_reported, lists_all, uses_kept, uses_reported}
use Rattle.graphql_variables.proofs.unused.validate_unused_variables.Goals as goal

pub returns-then-not-walked-clause-exact : goal.returns-then-not-walked-clause-exact
returns-then-not-walked-clause-exact c =
    bound_reported c.push.result (fragments_of c.args.document.now) c.args.operation.now _ _ _ (refl, c.in_ok-walked.ensures.bound c.if-not-walked.true) c.push.ensures.ok

-- what the diagnostics are, where the walk came to its end
reported : (c : goal.After-drop-walked-2) →
    MatchResult c.report_unused.result
    (λ _. Appends (AreUnusedReports (fragments_of c.args.document.now) c.args.operation.now (defined_names c.args.operation.now)) (entries c.args.diagnostics.now) (entries c.report_unused.new.diagnostics))
    (λ _. KeepsReports (IsDiagnostic (UsesReport (fragments_of c.args.document.now) c.args.operation.now)) (entries c.args.diagnostics.now) (entries c.report_unused.new.diagnostics))
reported c =
    let fragments = fragments_of c.args.document.now in
    let o = c.args.operation.now in
    let reach = lists_all c.in_ok-walked.ensures c.if-not-walked.false in
    let used = c.in_ok-used.ensures
    (subst (λ (l : List (Bor Selection)). (s : Selection) → Contains (map (λ (b : Bor Selection). b.now) l) s ↔ Reachable fragments o.selection_set s)
    (sym c.deref.ensures.value) reach) in
    let last = subst (λ (l : List (Node VariableDefinition)). All (IsLast l) c.in_ok-last.last.entries) c.deref-2.ensures.value c.in_ok-last.ensures.definitions in
    let names : entry_names c.in_ok-last.last.entries ≡ defined_names o =
    c.in_ok-last.ensures.names ∙ ap (λ (l : List (Node VariableDefinition)). different_names (map (λ v. v.value.value.name) l)) c.deref-2.ensures.value in
    subst (λ (l : List NameText). MatchResult c.report_unused.result
    (λ _. Appends (AreUnusedReports fragments o l) (entries c.args.diagnostics.now) (entries c.report_unused.new.diagnostics))
    (λ _. KeepsReports (IsDiagnostic (UsesReport fragments o)) (entries c.args.diagnostics.now) (entries c.report_unused.new.diagnostics)))
    names (c.report_unused.ensures fragments o used last)

pub returns-clause-exact : goal.returns-clause-exact
returns-clause-exact c = uses_reported c.report_unused.result (fragments_of c.args.document.now) c.args.operation.now _ _ (reported c)

pub returns-clause-kept : goal.returns-clause-kept
returns-clause-kept c = uses_kept c.report_unused.result (fragments_of c.args.document.now) c.args.operation.now _ _ (reported c)
