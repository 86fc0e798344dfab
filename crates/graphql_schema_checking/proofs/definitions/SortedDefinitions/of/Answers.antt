use Rattle.std.proofs.Common.{◌≡◌, ◌∷◌, ◌++◌, [], sym, subst, take, ap, ◌∙◌}
use Rattle.std.proofs.lemmas.List.{append-nil, take_all}
use Rattle.std.proofs.lemmas.Grind.{flat_map-append}
use Rattle.graphql_documents.proofs.ListLemmas.{more_is}
use Rattle.graphql_trees.specs.declared.documents.Document.{Document}
use Rattle.graphql_schema_checking.specs.Definitions.{definitions_in}
use Rattle.graphql_schema_checking.specs.Sorting.{AreSorted}
use Rattle.graphql_schema_checking.proofs.definitions.SortedDefinitions.of.Goals as goal

pub loop-tree-preserved : goal.loop-tree-preserved
loop-tree-preserved c =
    let xs = c.args.trees.now in
    let i = c.loop-tree.tree-index in
    let x = c.tree-item.result in
    let one : definitions_in (take i xs ++ x ∷ []) ≡ definitions_in (take i xs) ++ x.definitions =
    flat_map-append (λ (t : Document). t.definitions) (take i xs) (x ∷ []) ∙ ap (λ l. definitions_in (take i xs) ++ l) (append-nil x.definitions) in
    let is : c.as_slice.result.now ≡ x.definitions = c.as_slice.ensures in
    subst (λ l. AreSorted l c.add_all.new.self)
    (ap (λ l. definitions_in (take i xs) ++ l) is ∙ sym one ∙ ap definitions_in (sym (more_is xs i x c.loop-tree-test.true c.tree-item.is)))
    (c.in_ok-add_all.ensures (definitions_in (take i xs)) c.loop-tree.invariant)

pub returns : goal.returns
returns c =
    subst (λ l. AreSorted (definitions_in l) c.loop-tree.sorted) (take_all c.loop-tree.tree-index c.args.trees.now c.loop-tree-test.false)
    c.loop-tree.invariant
