use Rattle.std.proofs.Common.{◌≡◌, ◌∙◌, OnOk, ap, subst}
use Rattle.std.proofs.lemmas.Result.{on_ok_weaker}
use Rattle.graphql_documents.specs.TypeReferences.{inner_named_type}
use Rattle.graphql_deprecations.specs.InOrder.{Adds, ValueUses, argument_element, element_uses}
use Rattle.graphql_deprecations.proofs.AddLemmas.{adds_both}
use Rattle.graphql_deprecations.proofs.arguments.add_in_known_argument.Goals as goal

pub returns : goal.returns
returns c =
    let s = c.args.schema.now in
    let a = c.args.argument.now in
    let r = c.add_in_value.result in
    let mid = c.add_argument.new.found.items in
    let new = c.add_in_value.new.found.items in
    let element = argument_element c.args.owner a.name in
    let itself = subst (λ l. Adds (λ uses. uses ≡ element_uses element a.name l) c.args.found.now.items mid) c.deref.ensures.value c.in_ok-add_argument.ensures in
    let argument_type = c.inner_named_type-argument_type.ensures ∙ ap inner_named_type c.deref-2.ensures in
    on_ok_weaker r (λ inside. adds_both itself inside)
    (subst (λ n. OnOk r (Adds (ValueUses s n a.value.value.value) mid new)) argument_type
    (subst (λ v. OnOk r (Adds (ValueUses s c.inner_named_type-argument_type.result.now v) mid new)) c.deref-3.ensures c.add_in_value.ensures))
