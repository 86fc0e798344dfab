use Rattle.std.proofs.Common.{◌+◌, ap, map, sym, take, take_all, ◌∙◌, ◌++◌}
use Rattle.std.proofs.lemmas.List.{append-nil}
use Rattle.graphql_document_checking.specs.Trees.{fragments_in}
use Rattle.graphql_projects.specs.OperationTrees.{fragments_among}
use Rattle.graphql_document_checking.specs.References.{nows}
use Rattle.graphql_project_checking.proofs.BuildingLemmas.{name_of, names_of_file, names_then}
use Rattle.graphql_project_checking.proofs.building.push_fragment_names.Goals as goal

pub loop-document-init : goal.loop-document-init
loop-document-init c = sym (append-nil (nows c.args.names.now.items))

pub loop-document-preserved : goal.loop-document-preserved
loop-document-preserved c =
    let documents = c.args.documents.now in
    let i = c.loop-document.document-index in
    let x = c.document-item.result in
    names_then (map name_of (fragments_among (take i documents))) (nows c.args.names.now.items) (nows c.loop-document.names.items) (nows c.push_names.new.names.items)
    (map name_of (fragments_in x.definitions)) (map name_of (fragments_among (take (i + 1) documents))) c.loop-document.invariant
    (c.in_ok-push_names.ensures ∙ ap (λ l. nows c.loop-document.names.items ++ map name_of (fragments_in l)) c.as_slice.ensures)
    (names_of_file documents i x c.loop-document-test.true c.document-item.is)

pub returns : goal.returns
returns c =
    c.loop-document.invariant ∙
    ap (λ l. nows c.args.names.now.items ++ map name_of (fragments_among l)) (take_all c.loop-document.document-index c.args.documents.now c.loop-document-test.false)
