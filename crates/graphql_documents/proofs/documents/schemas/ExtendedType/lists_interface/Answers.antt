use Rattle.std.proofs.Common.{◌≡◌, ap, subst, sym, ◌∙◌}
use Rattle.std.specs.List.{list_any}
use Rattle.std.specs.Prelude.{◌↔◌, IsTrue}
use Rattle.graphql_nodes.specs.Names.{same_name}
use Rattle.graphql_documents.specs.Schemas.{IsListed, interfaces_of}
use Rattle.graphql_documents.specs.declared.documents.components.ComponentName.{ComponentName}
use Rattle.graphql_documents.specs.declared.documents.schemas.InterfaceType.{InterfaceType}
use Rattle.graphql_documents.specs.declared.documents.schemas.ObjectType.{ObjectType}
use Rattle.graphql_documents.proofs.SubtypeLemmas.{listed_asked}
use Rattle.graphql_documents.proofs.documents.schemas.ExtendedType.lists_interface.Goals as goal

pub returns-in-Object : goal.returns-in-Object
returns-in-Object c =
    let name = c.args.interface.now in
    let asked : c.contains.result ≡ list_any (λ (n : ComponentName). same_name name n.name) (interfaces_of c.args.self.now) =
    c.contains.ensures ∙ ap (λ (d : ObjectType). list_any (λ (n : ComponentName). same_name name n.name) d.implements_interfaces.keys) c.deref.ensures ∙
    ap (λ d. list_any (λ (n : ComponentName). same_name name n.name) (interfaces_of d)) (sym c.in-Object.is) in
    subst (λ b. IsTrue b ↔ IsListed name (interfaces_of c.args.self.now)) (sym asked) (listed_asked (interfaces_of c.args.self.now) name)

pub returns-in-Interface : goal.returns-in-Interface
returns-in-Interface c =
    let name = c.args.interface.now in
    let asked : c.contains-in-Interface.result ≡ list_any (λ (n : ComponentName). same_name name n.name) (interfaces_of c.args.self.now) =
    c.contains-in-Interface.ensures ∙ ap (λ (d : InterfaceType). list_any (λ (n : ComponentName). same_name name n.name) d.implements_interfaces.keys) c.deref-in-Interface.ensures ∙
    ap (λ d. list_any (λ (n : ComponentName). same_name name n.name) (interfaces_of d)) (sym c.in-Interface.is) in
    subst (λ b. IsTrue b ↔ IsListed name (interfaces_of c.args.self.now)) (sym asked) (listed_asked (interfaces_of c.args.self.now) name)
