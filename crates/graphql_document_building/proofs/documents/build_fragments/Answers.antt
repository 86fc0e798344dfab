use Rattle.std.proofs.Common.{rules, ◌≡◌, ◌∙◌, None, Some}
use Rattle.graphql_document_building.proofs.DocumentLemmas.{no_more, not_there, one_more}
use Rattle.graphql_document_building.specs.Documents.{FragmentSays}
use Rattle.graphql_document_building.specs.FieldDefinitions.{schema_of}
use Rattle.graphql_document_building.specs.Trees.{as_fragment}
use Rattle.graphql_document_building.proofs.documents.build_fragments.Goals as goal

pub loop-tree-preserved-in_default : goal.loop-tree-preserved-in_default
loop-tree-preserved-in_default c =
    let none : as_fragment c.tree-item.result ≡ None = search rules in (
      no_more (FragmentSays (schema_of c.args.definitions.now)) as_fragment c.args.trees.now c.loop-tree.tree-index c.tree-item.result c.loop-tree-test.true c.tree-item.is
          c.loop-tree.fragments.entries none c.loop-tree.invariant.0,
      c.loop-tree.invariant.1,
    )

pub insert_new-requires : goal.insert_new-requires
insert_new-requires c =
    let some : as_fragment c.tree-item.result ≡ Some (c.in-Some.fragment.now.name, c.in-Some.fragment.now) = search rules in
    rw c.in_ok-name.ensures
    (not_there (FragmentSays (schema_of c.args.definitions.now)) as_fragment c.args.trees.now c.loop-tree.tree-index c.tree-item.result c.loop-tree-test.true c.tree-item.is
    (c.in-Some.fragment.now.name, c.in-Some.fragment.now) c.loop-tree.fragments.entries some c.requires.distinct c.loop-tree.invariant.0)

pub loop-tree-preserved : goal.loop-tree-preserved
loop-tree-preserved c =
    let some : as_fragment c.tree-item.result ≡ Some (c.in-Some.fragment.now.name, c.in-Some.fragment.now) = search rules in (
      one_more (FragmentSays (schema_of c.args.definitions.now)) as_fragment c.args.trees.now c.loop-tree.tree-index c.tree-item.result c.loop-tree-test.true c.tree-item.is
          (c.in-Some.fragment.now.name, c.in-Some.fragment.now) (c.in_ok-name.name, c.in_ok-built.built) c.loop-tree.fragments.entries c.insert_new.new.nodes.entries some c.in_ok-insert_new.ensures.added
          c.loop-tree.invariant.0 (c.in_ok-name.ensures, c.in_ok-built.ensures),
      c.in_ok-insert_new.ensures.seed ∙ c.loop-tree.invariant.1,
    )
