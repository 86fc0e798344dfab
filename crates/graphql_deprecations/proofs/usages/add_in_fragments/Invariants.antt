use Rattle.indexmap.specs.IndexMap.{values}
use Rattle.graphql_nodes.specs.declared.nodes.Node.{Node}
use Rattle.graphql_documents.specs.declared.documents.executables.Fragment.{Fragment}
use Rattle.graphql_deprecations.specs.InOrder.{FragmentUses}
use Rattle.graphql_deprecations.proofs.AddLemmas.{Walking}
use Rattle.graphql_deprecations.proofs.usages.add_in_fragments.Given as goal

abbrev pub invariant-loop-fragment : goal.invariant-loop-fragment
invariant-loop-fragment l = record {
  can_next : (goal.iterator-loop-fragment).can_next l.fragment-iterator;
  is_finite : (goal.iterator-loop-fragment).is_finite l.fragment-iterator;
  walk : Walking (λ (x : Node Fragment). FragmentUses l.schema x.value.value) (values l.fragments) l.fragment-iterator l.initial.found.items l.found.items;
}
