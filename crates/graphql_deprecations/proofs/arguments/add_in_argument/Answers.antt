use Rattle.std.proofs.Common.{◌≡◌, OnOk, Some, rules, subst}
use Rattle.std.specs.Prelude.{List}
use Rattle.std.proofs.lemmas.Result.{on_ok_weaker}
use Rattle.graphql_nodes.specs.declared.nodes.Node.{Node}
use Rattle.graphql_documents.specs.Definitions.{definition_named}
use Rattle.graphql_documents.specs.declared.documents.definitions.InputValueDefinition.{InputValueDefinition}
use Rattle.graphql_deprecations.specs.Deprecations.{Usage}
use Rattle.graphql_deprecations.specs.InOrder.{Adds, KnownArgumentUses, argument_element}
use Rattle.graphql_deprecations.proofs.AddLemmas.{adds_found, adds_not_found}
use Rattle.graphql_deprecations.proofs.arguments.add_in_argument.Goals as goal

pub returns-in-Some : goal.returns-in-Some
returns-in-Some c =
    let s = c.args.schema.now in
    let element_of = argument_element c.args.owner in
    let a = c.args.argument.now in
    let r = c.add_in_known_argument.result in
    let old = c.args.found.now.items in
    let new = c.add_in_known_argument.new.found.items in
    let d = c.in-Some.definition.now in
    let Of : Node InputValueDefinition → List Usage → Type 0 = λ d. KnownArgumentUses s element_of a d.value.value in
    let is : definition_named a.name c.args.definitions.now ≡ Some d = search rules in
    on_ok_weaker r (adds_found (definition_named a.name c.args.definitions.now) Of d is)
    (subst (λ x. OnOk r (Adds (KnownArgumentUses s element_of a x) old new)) c.deref.ensures c.add_in_known_argument.ensures)

pub returns-in-None : goal.returns-in-None
returns-in-None c =
    let s = c.args.schema.now in
    let element_of = argument_element c.args.owner in
    let a = c.args.argument.now in
    let Of : Node InputValueDefinition → List Usage → Type 0 = λ d. KnownArgumentUses s element_of a d.value.value in
    adds_not_found (definition_named a.name c.args.definitions.now) Of c.args.found.now.items (search rules)
