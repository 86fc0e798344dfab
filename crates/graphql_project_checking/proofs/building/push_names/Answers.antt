use Rattle.std.proofs.Common.{◌+◌, ◌∙◌, ◌∷◌, ◌++◌, [], ap, map, sym, take, take_all}
use Rattle.std.specs.Borrow.{Bor}
use Rattle.std.proofs.lemmas.List.{append-nil, map-append}
use Rattle.graphql_document_checking.specs.Trees.{fragments_in}
use Rattle.graphql_nodes.specs.Names.{NameText}
use Rattle.graphql_document_checking.specs.References.{nows}
use Rattle.graphql_project_checking.proofs.BuildingLemmas.{name_of, names_of_definition, names_then, no_fragment, one_name}
use Rattle.graphql_project_checking.proofs.building.push_names.Goals as goal

pub loop-definition-init : goal.loop-definition-init
loop-definition-init c = sym (append-nil (nows c.args.names.now.items))

pub loop-definition-preserved : goal.loop-definition-preserved
loop-definition-preserved c =
    let definitions = c.args.definitions.now in
    let i = c.loop-definition.definition-index in
    let d = c.definition-item.result in
    let mid = c.loop-definition.names.items in
    names_then (map name_of (fragments_in (take i definitions))) (nows c.args.names.now.items) (nows mid) (nows c.push.new.self.items)
    (map name_of (fragments_in (d ∷ []))) (map name_of (fragments_in (take (i + 1) definitions))) c.loop-definition.invariant
    (ap nows c.in_ok-push.ensures.items ∙ map-append (λ (b : Bor NameText). b.now) mid _ ∙ ap (λ l. nows mid ++ l) (sym (one_name d c.in-Fragment.fragment c.in-Fragment.is)))
    (names_of_definition definitions i d c.loop-definition-test.true c.definition-item.is)

pub loop-definition-preserved-in_default : goal.loop-definition-preserved-in_default
loop-definition-preserved-in_default c =
    let definitions = c.args.definitions.now in
    let i = c.loop-definition.definition-index in
    let d = c.definition-item.result in
    let mid = c.loop-definition.names.items in
    names_then (map name_of (fragments_in (take i definitions))) (nows c.args.names.now.items) (nows mid) (nows mid)
    [] (map name_of (fragments_in (take (i + 1) definitions))) c.loop-definition.invariant (sym (append-nil (nows mid)))
    (names_of_definition definitions i d c.loop-definition-test.true c.definition-item.is ∙ ap (λ l. map name_of (fragments_in (take i definitions)) ++ map name_of l) (no_fragment d c.in_default.not-Fragment))

pub returns : goal.returns
returns c =
    c.loop-definition.invariant ∙
    ap (λ l. nows c.args.names.now.items ++ map name_of (fragments_in l)) (take_all c.loop-definition.definition-index c.args.definitions.now c.loop-definition-test.false)
