use Rattle.std.proofs.Common.{ap, sym, ◌∙◌, List, map, refl}
use Rattle.std.specs.Borrow.{Bor}
use Rattle.graphql_documents.specs.Implementers.{implementer_names, with_own_name}
use Rattle.graphql_nodes.specs.Names.{NameText, with_name}
use Rattle.graphql_documents.specs.declared.documents.schemas.InterfaceType.{InterfaceType}
use Rattle.graphql_documents.specs.declared.documents.schemas.ObjectType.{ObjectType}
use Rattle.graphql_documents.proofs.ImplementerLemmas.{key_inserted, names_are}
use Rattle.graphql_documents.proofs.documents.implementers.Implementers.add.Goals as goal

pub returns-in_ok-insert-in-Object : goal.returns-in_ok-insert-in-Object
returns-in_ok-insert-in-Object c =
    let names = λ (keys : List (Bor NameText)). map (λ (name : Bor NameText). name.now) keys in
    let old = c.args.self.now.objects.keys in
    names_are
    (ap names c.in_ok-insert-in-Object.ensures.keys ∙ key_inserted old _ ∙
    ap (λ (o : ObjectType). with_name (names old) o.name) c.deref.ensures) refl ∙
    ap (with_own_name (implementer_names c.args.self.now)) (sym c.in-Object.is)

pub returns-in_ok-insert-in-Interface : goal.returns-in_ok-insert-in-Interface
returns-in_ok-insert-in-Interface c =
    let names = λ (keys : List (Bor NameText)). map (λ (name : Bor NameText). name.now) keys in
    let old = c.args.self.now.interfaces.keys in
    names_are refl
    (ap names c.in_ok-insert-in-Interface.ensures.keys ∙ key_inserted old _ ∙
    ap (λ (i : InterfaceType). with_name (names old) i.name) c.deref-in-Interface.ensures) ∙
    ap (with_own_name (implementer_names c.args.self.now)) (sym c.in-Interface.is)
