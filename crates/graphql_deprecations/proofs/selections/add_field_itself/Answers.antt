use Rattle.std.proofs.Common.{◌≡◌, None, OnOk, Some, rules, subst}
use Rattle.std.specs.Prelude.{List}
use Rattle.std.proofs.lemmas.Result.{on_ok_weaker}
use Rattle.graphql_documents.specs.declared.documents.components.Component.{Component}
use Rattle.graphql_documents.specs.declared.documents.definitions.FieldDefinition.{FieldDefinition}
use Rattle.graphql_deprecations.specs.Deprecations.{Usage}
use Rattle.graphql_deprecations.specs.InOrder.{Adds, KnownFieldUses}
use Rattle.graphql_deprecations.specs.Usages.{field_at}
use Rattle.graphql_deprecations.proofs.AddLemmas.{adds_found, adds_not_found}
use Rattle.graphql_deprecations.proofs.selections.add_field_itself.Goals as goal

pub returns-in-Ok : goal.returns-in-Ok
returns-in-Ok c =
    let s = c.args.schema.now in
    let parent = c.args.parent.now in
    let f = c.args.field.now in
    let r = c.add_known_field.result in
    let old = c.args.found.now.items in
    let new = c.add_known_field.new.found.items in
    let d = c.in-Ok.definition.now in
    let Of : Component FieldDefinition → List Usage → Type 0 = λ d. KnownFieldUses s parent f d.node.value.value in
    let is : field_at s parent f.name ≡ Some d = search rules in
    on_ok_weaker r (adds_found (field_at s parent f.name) Of d is)
    (subst (λ x. OnOk r (Adds (KnownFieldUses s parent f x) old new)) c.deref.ensures c.add_known_field.ensures)

pub returns-in-Err : goal.returns-in-Err
returns-in-Err c =
    let s = c.args.schema.now in
    let parent = c.args.parent.now in
    let f = c.args.field.now in
    let Of : Component FieldDefinition → List Usage → Type 0 = λ d. KnownFieldUses s parent f d.node.value.value in
    let none : field_at s parent f.name ≡ None = search rules in
    adds_not_found (field_at s parent f.name) Of c.args.found.now.items none
