use Rattle.std.proofs.Common.{◌≡◌, OnOk, subst}
use Rattle.std.proofs.lemmas.Result.{on_ok_weaker}
use Rattle.graphql_deprecations.specs.InOrder.{Adds, ArgumentsUse, element_uses}
use Rattle.graphql_nodes.specs.Names.{NameText}
use Rattle.graphql_deprecations.specs.declared.reports.DeprecatedElement.{DeprecatedElement}
use Rattle.graphql_deprecations.specs.declared.reports.DeprecatedElement.TheVariants as kind
use Rattle.graphql_deprecations.proofs.AddLemmas.{adds_both}
use Rattle.graphql_deprecations.proofs.selections.add_known_field.Goals as goal

pub returns : goal.returns
returns c =
    let s = c.args.schema.now in
    let parent = c.args.parent.now in
    let f = c.args.field.now in
    let r = c.add_in_arguments.result in
    let old = c.args.found.now.items in
    let mid = c.add_field.new.found.items in
    let new = c.add_in_arguments.new.found.items in
    let element = kind.Field (record { ty = parent; attribute = f.name }) in
    let element_of : NameText → DeprecatedElement = λ argument. kind.FieldArgument (record { ty = parent; field = f.name; argument = argument }) in
    let itself = subst (λ l. Adds (λ uses. uses ≡ element_uses element f.name l) old mid) c.deref.ensures.value c.in_ok-add_field.ensures in
    on_ok_weaker r (λ arguments. adds_both itself arguments)
    (subst (λ l. OnOk r (Adds (ArgumentsUse s element_of l f.arguments.items) mid new)) c.deref-2.ensures.value
    (subst (λ l. OnOk r (Adds (ArgumentsUse s element_of c.deref-2.result.now l) mid new)) c.deref-3.ensures.value c.add_in_arguments.ensures))
