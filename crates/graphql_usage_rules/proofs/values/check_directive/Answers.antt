use Rattle.std.proofs.Common.{ap, ◌∙◌, subst, rules, ◌≡◌, Some}
use Rattle.graphql_nodes.specs.declared.nodes.Node.{Node}
use Rattle.graphql_documents.specs.Directives.{directive_definition}
use Rattle.graphql_documents.specs.declared.documents.definitions.DirectiveDefinition.{DirectiveDefinition}
use Rattle.graphql_usage_rules.specs.Usages.{Usage, UsedInArguments}
use Rattle.graphql_usage_rules.proofs.PlaceLemmas.{Checked, found_checked, not_found}
use Rattle.graphql_usage_rules.proofs.values.check_directive.Goals as goal

pub returns-in-Some : goal.returns-in-Some
returns-in-Some c =
    let v = c.args.variables.now in
    let r = c.check_arguments.result in
    let old = c.args.reports.now.kept.items in
    let new = c.check_arguments.new.reports.kept.items in
    let applied = c.args.directive.now in
    let d = c.in-Some.definition.now in
    let In : Node DirectiveDefinition → Usage → Type 0 = λ d. UsedInArguments c.args.schema.now d.value.value.arguments.items applied.arguments.items in
    let is : directive_definition c.args.schema.now applied.name ≡ Some d = search rules in
    let definitions = c.deref-in-Some.ensures.value ∙ ap (λ (x : DirectiveDefinition). x.arguments.items) c.deref.ensures in
    found_checked v r (directive_definition c.args.schema.now applied.name) In d old new is
    (subst (λ l. Checked v r (UsedInArguments c.args.schema.now l applied.arguments.items) old new) definitions
    (subst (λ l. Checked v r (UsedInArguments c.args.schema.now c.deref-in-Some.result.now l) old new) c.deref-in-Some-2.ensures.value c.check_arguments.ensures))

pub returns-in-None : goal.returns-in-None
returns-in-None c =
    let In : Node DirectiveDefinition → Usage → Type 0 = λ d. UsedInArguments c.args.schema.now d.value.value.arguments.items c.args.directive.now.arguments.items in
    not_found c.args.variables.now (directive_definition c.args.schema.now c.args.directive.now.name) In c.args.reports.now.kept.items (search rules)
