use Rattle.std.proofs.Common.{◌∙◌, ap, subst, OnOk}
use Rattle.std.proofs.lemmas.Result.{on_ok_weaker}
use Rattle.std.specs.Prelude.{List}
use Rattle.graphql_nodes.specs.declared.nodes.Node.{Node}
use Rattle.graphql_documents.specs.TypeReferences.{inner_named_type}
use Rattle.graphql_documents.specs.declared.documents.values.Value.{Value}
use Rattle.graphql_deprecations.specs.Deprecations.{Usage}
use Rattle.graphql_deprecations.specs.InOrder.{Adds, ValueUses}
use Rattle.graphql_deprecations.proofs.AddLemmas.{adds_found, adds_not_found}
use Rattle.graphql_deprecations.proofs.usages.add_in_default_value.Goals as goal

pub returns-in-Some : goal.returns-in-Some
returns-in-Some c =
    let s = c.args.schema.now in
    let v = c.args.variable.now in
    let r = c.add_in_value.result in
    let old = c.args.found.now.items in
    let new = c.add_in_value.new.found.items in
    let Of : Node Value → List Usage → Type 0 = λ value. ValueUses s (inner_named_type v.ty.value.value) value.value.value in
    let ty = c.inner_named_type-ty.ensures ∙ ap inner_named_type c.deref.ensures in
    on_ok_weaker r (adds_found v.default_value Of c.in-Some.value c.in-Some.is)
    (subst (λ n. OnOk r (Adds (ValueUses s n c.in-Some.value.value.value) old new)) ty
    (subst (λ x. OnOk r (Adds (ValueUses s c.inner_named_type-ty.result.now x) old new)) c.deref-in-Some.ensures c.add_in_value.ensures))

pub returns-in-None : goal.returns-in-None
returns-in-None c =
    let s = c.args.schema.now in
    let v = c.args.variable.now in
    let Of : Node Value → List Usage → Type 0 = λ value. ValueUses s (inner_named_type v.ty.value.value) value.value.value in
    adds_not_found v.default_value Of c.args.found.now.items c.in-None.is
