use Rattle.std.proofs.Common.{ap, sym, ◌∙◌, List, map}
use Rattle.std.specs.Borrow.{Bor}
use Rattle.indexmap.specs.IndexMap.{insert_entry}
use Rattle.graphql_documents.specs.Implementers.{implementer_entries, with_own_name}
use Rattle.graphql_nodes.specs.Names.{NameText, same_name}
use Rattle.graphql_documents.specs.declared.documents.implementers.Implementers.{Implementers}
use Rattle.graphql_documents.proofs.ImplementerLemmas.{inserted_as_names, names_are, set_as_names}
use Rattle.graphql_documents.proofs.documents.implementers.add_implementer.Goals as goal

pub returns-in_ok-add-in-Some : goal.returns-in_ok-add-in-Some
returns-in_ok-add-in-Some c =
    ap implementer_entries (c.get_mut.follows.holds c.add.new.self).0 ∙
    set_as_names c.args.implementers.now.entries c.args.interface.now c.args.definition.now c.in-Some.known.now c.add.new.self
    (sym c.in-Some.ensures.value) c.in_ok-add-in-Some.ensures

pub returns-in_ok-insert-in-None : goal.returns-in_ok-insert-in-None
returns-in_ok-insert-in-None c =
    let names = λ (keys : List (Bor NameText)). map (λ (name : Bor NameText). name.now) keys in
    let put = λ (known : List (Bor NameText × Implementers)). insert_entry (λ a b. same_name a.now b.now) known c.args.interface c.add-in-None.new.self in
    ap implementer_entries (c.in_ok-insert-in-None.ensures.entries ∙ ap (λ known. put known.entries) c.get_mut.follows.holds-at-none) ∙
    inserted_as_names c.args.implementers.now.entries c.args.interface c.args.definition.now c.add-in-None.new.self
    (sym c.in-None.ensures.value)
    (c.in_ok-add-in-None.ensures ∙
    ap (λ known. with_own_name known c.args.definition.now) (names_are (ap names c.with_hasher.ensures.empty) (ap names c.with_hasher-in-None.ensures.empty)))
