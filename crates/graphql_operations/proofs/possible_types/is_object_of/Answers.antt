use Rattle.std.proofs.Common.{◌≡◌, Contains, ap, subst, sym, ◌∙◌}
use Rattle.std.specs.List.{list_any}
use Rattle.graphql_nodes.specs.Names.{same_name}
use Rattle.graphql_specification.specs.Fragments.{HaveCommonObject}
use Rattle.graphql_documents.specs.declared.documents.components.ComponentName.{ComponentName}
use Rattle.graphql_documents.specs.declared.documents.schemas.ExtendedType.{ExtendedType}
use Rattle.graphql_documents.specs.declared.documents.schemas.ExtendedType.TheVariants.{Object}
use Rattle.graphql_documents.specs.declared.documents.schemas.InterfaceType.{InterfaceType}
use Rattle.graphql_documents.specs.declared.documents.schemas.ObjectType.{ObjectType}
use Rattle.graphql_documents.specs.declared.documents.schemas.UnionType.{UnionType}
use Rattle.graphql_documents.proofs.SubtypeLemmas.{listed_asked}
use Rattle.graphql_operations.proofs.PossibleTypeLemmas.{object_of_interface, object_of_union}
use Rattle.graphql_operations.proofs.possible_types.is_object_of.Goals as goal

pub returns-in-Interface : goal.returns-in-Interface
returns-in-Interface c = λ schema key stands there.
    let d = c.in-Object.definition in
    let i = c.in-Interface.interface in
    let listed = d.value.value.implements_interfaces.keys in
    let asked : c.contains.result ≡ list_any (λ (n : ComponentName). same_name i.value.value.name n.name) listed =
    c.contains.ensures ∙
    ap (λ (o : ObjectType). list_any (λ (n : ComponentName). same_name c.deref-in-Interface.result.now.name n.name) o.implements_interfaces.keys) c.deref.ensures ∙
    ap (λ (t : InterfaceType). list_any (λ (n : ComponentName). same_name t.name n.name) listed) c.deref-in-Interface.ensures in
    subst (λ (t : ExtendedType). HaveCommonObject schema t c.args.ty.now) (sym c.in-Object.is)
    (subst (HaveCommonObject schema (Object d)) (sym c.in-Interface.is)
    (object_of_interface schema key d (subst (λ (t : ExtendedType). Contains schema.types.entries (key, t)) c.in-Object.is stands) i
    ((listed_asked listed i.value.value.name).0 (sym asked ∙ there))))

pub returns-in-Union : goal.returns-in-Union
returns-in-Union c = λ schema key stands there.
    let d = c.in-Object.definition in
    let u = c.in-Union.union_type in
    let members = u.value.value.members.keys in
    let asked : c.contains-in-Union.result ≡ list_any (λ (n : ComponentName). same_name d.value.value.name n.name) members =
    c.contains-in-Union.ensures ∙
    ap (λ (t : UnionType). list_any (λ (n : ComponentName). same_name c.deref-in-Union-2.result.now.name n.name) t.members.keys) c.deref-in-Union.ensures ∙
    ap (λ (o : ObjectType). list_any (λ (n : ComponentName). same_name o.name n.name) members) c.deref-in-Union-2.ensures in
    subst (λ (t : ExtendedType). HaveCommonObject schema t c.args.ty.now) (sym c.in-Object.is)
    (subst (HaveCommonObject schema (Object d)) (sym c.in-Union.is)
    (object_of_union schema key d (subst (λ (t : ExtendedType). Contains schema.types.entries (key, t)) c.in-Object.is stands) u
    ((listed_asked members d.value.value.name).0 (sym asked ∙ there))))
