use Rattle.indexmap.specs.IndexMap.{values}
use Rattle.graphql_nodes.specs.declared.nodes.Node.{Node}
use Rattle.graphql_documents.specs.declared.documents.executables.Fragment.{Fragment}
use Rattle.graphql_input_rules.specs.ValuesWritten.{FragmentWrites}
use Rattle.graphql_input_rules.proofs.PlaceLemmas.{Walking}
use Rattle.graphql_input_rules.proofs.input_fields.check_fragments.Given as goal

abbrev pub invariant-loop-fragment : goal.invariant-loop-fragment
invariant-loop-fragment l = record {
  can_next : (goal.iterator-loop-fragment).can_next l.fragment-iterator;
  is_finite : (goal.iterator-loop-fragment).is_finite l.fragment-iterator;
  walk : Walking (λ (x : Node Fragment). FragmentWrites x.value.value) (values l.fragments) l.fragment-iterator l.initial.reports.kept.items l.reports.kept.items;
}
