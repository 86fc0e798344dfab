use Rattle.std.proofs.Common.{◌≡◌, List, [], ap, ◌∙◌, subst}
use Rattle.std.specs.Option.{option_copied}
use Rattle.graphql_diagnostics.specs.Diagnostics.{IsDiagnostic, entries}
use Rattle.graphql_specification.specs.Directives.{DirectivesReport, ApplicationsHold}
use Rattle.graphql_specification.specs.Variables.{VariablesReport}
use Rattle.graphql_diagnostics.proofs.ReportLemmas.{checks_words, ChecksList}
use Rattle.graphql_nodes.specs.declared.directive_locations.DirectiveLocation.TheVariants as allowed_at
use Rattle.graphql_documents.specs.declared.documents.directives.Directive.{Directive}
use Rattle.graphql_nodes.specs.declared.nodes.Node.{Node}
use Rattle.graphql_values.proofs.VariableLemmas.{names_directives}
use Rattle.graphql_values.proofs.directive.variable_definitions.validate_variable_directives.Goals as goal

pub returns : goal.returns
returns c = λ variables among.
    let v = c.args.variable.now in
    let schema = option_copied c.args.schema in
    let directives = v.value.value.directives.items in
    let old = entries c.args.diagnostics.now in
    let new = entries c.check_each_directive.new.diagnostics in
    let P = λ (l : List (Node Directive)). ApplicationsHold schema [] allowed_at.VariableDefinition l in
    let Q = λ (l : List (Node Directive)). IsDiagnostic (DirectivesReport schema [] allowed_at.VariableDefinition l) in
    let are : c.deref-2.result.now ≡ directives =
    c.deref-2.ensures.value ∙ ap (λ x. x.directives.items) c.deref.ensures in
    checks_words c.check_each_directive.result (P directives) (P directives) (Q directives) (IsDiagnostic (VariablesReport schema variables)) old new
    (λ h. h, λ h. h) (names_directives schema variables v among)
    (subst (λ l. ChecksList c.check_each_directive.result (ApplicationsHold schema [] allowed_at.VariableDefinition l)
    (IsDiagnostic (DirectivesReport schema [] allowed_at.VariableDefinition l)) old new) are
    (rw c.in_ok-variables.ensures at c.check_each_directive.ensures))
