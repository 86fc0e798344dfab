use Rattle.std.proofs.Common.{◌≡◌, map, ap, ◌∙◌}
use Rattle.graphql_nodes.specs.Names.{NameText}
use Rattle.graphql_documents.specs.declared.documents.components.Component.{Component}
use Rattle.graphql_documents.specs.declared.documents.definitions.EnumValueDefinition.{EnumValueDefinition}
use Rattle.graphql_documents.specs.declared.documents.directives.Directive.{Directive}
use Rattle.graphql_documents.specs.declared.documents.schemas.EnumType.{EnumType}
use Rattle.graphql_schemas.proofs.ExtensionLemmas.{gathered_two}
use Rattle.graphql_schemas.proofs.extensions.enum_extensions.Goals as goal

pub returns : goal.returns
returns c =
    let d = c.args.enum_type.now.value.value in
    let directives : c.deref-2.result.now ≡ d.directives.items = c.deref-2.ensures.value ∙ ap (λ (t : EnumType). t.directives.items) c.deref.ensures in
    gathered_two (map (λ (x : Component Directive). x.origin) d.directives.items) (map (λ (e : NameText × Component EnumValueDefinition). e.1.origin) d.values.entries)
    c.none-found.ensures.extensions (rw directives at c.in_ok-add_components.ensures.extensions) (rw c.deref-3.ensures at c.in_ok-add_entries.ensures.extensions)
