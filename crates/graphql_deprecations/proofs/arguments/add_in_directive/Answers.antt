use Rattle.std.proofs.Common.{ap, ◌∙◌, subst, rules, ◌≡◌, Some, OnOk}
use Rattle.std.specs.Prelude.{List}
use Rattle.std.proofs.lemmas.Result.{on_ok_weaker}
use Rattle.graphql_nodes.specs.declared.nodes.Node.{Node}
use Rattle.graphql_documents.specs.Directives.{directive_definition}
use Rattle.graphql_documents.specs.declared.documents.definitions.DirectiveDefinition.{DirectiveDefinition}
use Rattle.graphql_deprecations.specs.Deprecations.{Usage}
use Rattle.graphql_deprecations.specs.InOrder.{Adds, ArgumentsUse}
use Rattle.graphql_nodes.specs.Names.{NameText}
use Rattle.graphql_deprecations.specs.declared.reports.DeprecatedElement.{DeprecatedElement}
use Rattle.graphql_deprecations.specs.declared.reports.DeprecatedElement.TheVariants as kind
use Rattle.graphql_deprecations.proofs.AddLemmas.{adds_found, adds_not_found}
use Rattle.graphql_deprecations.proofs.arguments.add_in_directive.Goals as goal

pub returns-in-Some : goal.returns-in-Some
returns-in-Some c =
    let s = c.args.schema.now in
    let r = c.add_in_arguments.result in
    let old = c.args.found.now.items in
    let new = c.add_in_arguments.new.found.items in
    let applied = c.args.directive.now in
    let d = c.in-Some.definition.now in
    let element_of : NameText → DeprecatedElement = λ argument. kind.DirectiveArgument (record { directive = applied.name; argument = argument }) in
    let Of : Node DirectiveDefinition → List Usage → Type 0 = λ d. ArgumentsUse s element_of d.value.value.arguments.items applied.arguments.items in
    let is : directive_definition s applied.name ≡ Some d = search rules in
    let definitions = c.deref-in-Some.ensures.value ∙ ap (λ (x : DirectiveDefinition). x.arguments.items) c.deref.ensures in
    on_ok_weaker r (adds_found (directive_definition s applied.name) Of d is)
    (subst (λ l. OnOk r (Adds (ArgumentsUse s element_of l applied.arguments.items) old new)) definitions
    (subst (λ l. OnOk r (Adds (ArgumentsUse s element_of c.deref-in-Some.result.now l) old new)) c.deref-in-Some-2.ensures.value c.add_in_arguments.ensures))

pub returns-in-None : goal.returns-in-None
returns-in-None c =
    let s = c.args.schema.now in
    let applied = c.args.directive.now in
    let element_of : NameText → DeprecatedElement = λ argument. kind.DirectiveArgument (record { directive = applied.name; argument = argument }) in
    let Of : Node DirectiveDefinition → List Usage → Type 0 = λ d. ArgumentsUse s element_of d.value.value.arguments.items applied.arguments.items in
    adds_not_found (directive_definition s applied.name) Of c.args.found.now.items (search rules)
