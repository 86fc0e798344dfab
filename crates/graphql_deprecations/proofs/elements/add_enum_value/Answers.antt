use Rattle.std.proofs.Common.{◌≡◌, ◌∙◌, OnOk, Some, ap, rules, subst}
use Rattle.std.specs.Prelude.{List}
use Rattle.std.proofs.lemmas.Result.{on_ok_weaker}
use Rattle.graphql_documents.specs.declared.documents.components.Component.{Component}
use Rattle.graphql_documents.specs.declared.documents.definitions.EnumValueDefinition.{EnumValueDefinition}
use Rattle.graphql_deprecations.specs.Deprecations.{Usage}
use Rattle.graphql_deprecations.specs.InOrder.{Adds, element_uses}
use Rattle.graphql_deprecations.specs.Usages.{enum_value_at}
use Rattle.graphql_deprecations.specs.declared.reports.DeprecatedElement.TheVariants as kind
use Rattle.graphql_deprecations.proofs.AddLemmas.{adds_found, adds_not_found}
use Rattle.graphql_deprecations.proofs.elements.add_enum_value.Goals as goal

pub returns-in-Some : goal.returns-in-Some
returns-in-Some c =
    let s = c.args.schema.now in
    let ty = c.args.ty.now in
    let name = c.args.name.now in
    let r = c.add_known_enum_value.result in
    let old = c.args.found.now.items in
    let new = c.add_known_enum_value.new.found.items in
    let element = kind.EnumValue (record { ty = ty; attribute = name }) in
    let Of : Component EnumValueDefinition → List Usage → Type 0 = λ d uses. uses ≡ element_uses element name d.node.value.value.directives.items in
    let is : enum_value_at s ty name ≡ Some c.in-Some.value.now = search rules in
    let directives = c.deref-in-Some.ensures.value ∙ ap (λ (x : EnumValueDefinition). x.directives.items) c.deref.ensures in
    on_ok_weaker r (adds_found (enum_value_at s ty name) Of c.in-Some.value.now is)
    (subst (λ l. OnOk r (Adds (λ uses. uses ≡ element_uses element name l) old new)) directives c.add_known_enum_value.ensures)

pub returns-in-None : goal.returns-in-None
returns-in-None c =
    let s = c.args.schema.now in
    let ty = c.args.ty.now in
    let name = c.args.name.now in
    let element = kind.EnumValue (record { ty = ty; attribute = name }) in
    let Of : Component EnumValueDefinition → List Usage → Type 0 = λ d uses. uses ≡ element_uses element name d.node.value.value.directives.items in
    adds_not_found (enum_value_at s ty name) Of c.args.found.now.items (search rules)
