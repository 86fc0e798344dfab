use Rattle.std.proofs.Common.{◌≡◌, ◌++◌, List, All}
use Rattle.graphql_built.specs.BuiltSelections.{FragmentIsBuilt}
use Rattle.graphql_nodes.specs.Names.{NameText}
use Rattle.graphql_documents.specs.declared.documents.executables.Fragment.{Fragment}
use Rattle.graphql_nodes.specs.declared.nodes.Node.{Node}
use Rattle.graphql_built.proofs.built.fragments_are_built.Given as goal

abbrev pub invariant-loop-name : goal.invariant-loop-name
invariant-loop-name l = record {
  can_next : (goal.iterator-loop-name).can_next l.name-iterator;
  is_finite : (goal.iterator-loop-name).is_finite l.name-iterator;
  done : List (NameText × Node Fragment);
  all : l.fragments.entries ≡ done ++ l.name-iterator;
  built : All (λ entry. FragmentIsBuilt l.schema entry.0 entry.1.value.value) done;
}
