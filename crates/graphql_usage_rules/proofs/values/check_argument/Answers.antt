use Rattle.std.proofs.Common.{ap, ◌∙◌, subst, rules, ◌≡◌, Some}
use Rattle.graphql_nodes.specs.declared.nodes.Node.{Node}
use Rattle.graphql_documents.specs.Definitions.{definition_named}
use Rattle.graphql_documents.specs.declared.documents.definitions.InputValueDefinition.{InputValueDefinition}
use Rattle.graphql_usage_rules.specs.Parts.{location_at}
use Rattle.graphql_usage_rules.specs.Usages.{Usage, UsedIn, location_of}
use Rattle.graphql_usage_rules.proofs.PlaceLemmas.{Checked, found_checked, not_found}
use Rattle.graphql_usage_rules.proofs.values.check_argument.Goals as goal

pub returns-in-Some : goal.returns-in-Some
returns-in-Some c =
    let v = c.args.variables.now in
    let r = c.check_value.result in
    let old = c.args.reports.now.kept.items in
    let new = c.check_value.new.reports.kept.items in
    let a = c.args.argument.now in
    let d = c.in-Some.definition.now in
    let In : Node InputValueDefinition → Usage → Type 0 = λ d. UsedIn c.args.schema.now (location_of d.value.value) a.value in
    let is : definition_named a.name c.args.definitions.now ≡ Some d = search rules in
    let place : location_at c.of-location.result ≡ location_of d.value.value = c.of-location.ensures ∙ ap (λ (x : InputValueDefinition). location_of x) c.deref.ensures in
    found_checked v r (definition_named a.name c.args.definitions.now) In d old new is
    (subst (λ l. Checked v r (UsedIn c.args.schema.now l a.value) old new) place c.check_value.ensures)

pub returns-in-None : goal.returns-in-None
returns-in-None c =
    let a = c.args.argument.now in
    let In : Node InputValueDefinition → Usage → Type 0 = λ d. UsedIn c.args.schema.now (location_of d.value.value) a.value in
    not_found c.args.variables.now (definition_named a.name c.args.definitions.now) In c.args.reports.now.kept.items (search rules)
