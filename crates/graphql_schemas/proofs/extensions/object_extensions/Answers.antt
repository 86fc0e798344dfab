use Rattle.std.proofs.Common.{◌≡◌, map, ap, ◌∙◌}
use Rattle.graphql_nodes.specs.Names.{NameText}
use Rattle.graphql_documents.specs.declared.documents.components.Component.{Component}
use Rattle.graphql_documents.specs.declared.documents.components.ComponentName.{ComponentName}
use Rattle.graphql_documents.specs.declared.documents.definitions.FieldDefinition.{FieldDefinition}
use Rattle.graphql_documents.specs.declared.documents.directives.Directive.{Directive}
use Rattle.graphql_documents.specs.declared.documents.schemas.ObjectType.{ObjectType}
use Rattle.graphql_schemas.proofs.ExtensionLemmas.{gathered_three}
use Rattle.graphql_schemas.proofs.extensions.object_extensions.Goals as goal

pub returns : goal.returns
returns c =
    let d = c.args.object.now.value.value in
    let directives : c.deref-2.result.now ≡ d.directives.items = c.deref-2.ensures.value ∙ ap (λ (t : ObjectType). t.directives.items) c.deref.ensures in
    let names : c.as_slice.result.now ≡ d.implements_interfaces.keys = c.as_slice.ensures.keys ∙ ap (λ (t : ObjectType). t.implements_interfaces.keys) c.deref-3.ensures in
    gathered_three (map (λ (x : Component Directive). x.origin) d.directives.items) (map (λ (x : ComponentName). x.origin) d.implements_interfaces.keys) (map (λ (e : NameText × Component FieldDefinition). e.1.origin) d.fields.entries)
    c.none-found.ensures.extensions (rw directives at c.in_ok-add_components.ensures.extensions) (rw names at c.in_ok-add_names.ensures.extensions) (rw c.deref-4.ensures at c.in_ok-add_entries.ensures.extensions)
