use Rattle.std.proofs.Common.{◌≡◌, map, ap, ◌∙◌}
use Rattle.graphql_documents.specs.declared.documents.components.Component.{Component}
use Rattle.graphql_documents.specs.declared.documents.components.ComponentName.{ComponentName}
use Rattle.graphql_documents.specs.declared.documents.directives.Directive.{Directive}
use Rattle.graphql_documents.specs.declared.documents.schemas.UnionType.{UnionType}
use Rattle.graphql_schemas.proofs.ExtensionLemmas.{gathered_two}
use Rattle.graphql_schemas.proofs.extensions.union_extensions.Goals as goal

pub returns : goal.returns
returns c =
    let d = c.args.union.now.value.value in
    let directives : c.deref-2.result.now ≡ d.directives.items = c.deref-2.ensures.value ∙ ap (λ (t : UnionType). t.directives.items) c.deref.ensures in
    let names : c.as_slice.result.now ≡ d.members.keys = c.as_slice.ensures.keys ∙ ap (λ (t : UnionType). t.members.keys) c.deref-3.ensures in
    gathered_two (map (λ (x : Component Directive). x.origin) d.directives.items) (map (λ (x : ComponentName). x.origin) d.members.keys)
    c.none-found.ensures.extensions (rw directives at c.in_ok-add_components.ensures.extensions) (rw names at c.in_ok-add_names.ensures.extensions)
