use Rattle.std.proofs.Common.{◌≡◌, Some, ap, subst, sym, ◌∙◌}
use Rattle.std.specs.List.{list_any}
use Rattle.std.specs.Prelude.{◌↔◌, IsTrue}
use Rattle.graphql_nodes.specs.Names.{same_name}
use Rattle.graphql_documents.specs.Schemas.{IsListed, IsSubtypeOf, type_definition}
use Rattle.graphql_documents.specs.declared.documents.components.ComponentName.{ComponentName}
use Rattle.graphql_documents.specs.declared.documents.schemas.ExtendedType.TheVariants as types
use Rattle.graphql_documents.specs.declared.documents.schemas.UnionType.{UnionType}
use Rattle.graphql_documents.proofs.SubtypeLemmas.{listed_asked}
use Rattle.graphql_documents.proofs.documents.schemas.Schema.is_subtype.Goals as goal

pub returns-in-Some-Union : goal.returns-in-Some-Union
returns-in-Some-Union c =
    let S = c.args.self.now in
    let wide = c.args.abstract_type.now in
    let narrow = c.args.maybe_subtype.now in
    let d = c.in-Some-Union.definition in
    let members = d.value.value.members.keys in
    let defined : type_definition S wide ≡ Some (types.Union d) = sym c.in-Some-Union.ensures.value ∙ ap Some c.in-Some-Union.field-0-is in
    let asked : c.contains.result ≡ list_any (λ (n : ComponentName). same_name narrow n.name) members =
    c.contains.ensures ∙ ap (λ (u : UnionType). list_any (λ (n : ComponentName). same_name narrow n.name) u.members.keys) c.deref.ensures in
    subst (λ o. IsTrue c.contains.result ↔ IsSubtypeOf S wide o narrow) (sym defined)
    (subst (λ b. IsTrue b ↔ IsListed narrow members) (sym asked) (listed_asked members narrow))
