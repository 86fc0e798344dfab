-- What is in the fragments that were passed has numbers.
use Rattle.std.proofs.Common.{◌≡◌, ◌++◌, List, map}
use Rattle.graphql_documents.specs.declared.documents.executables.Fragment.{Fragment}
use Rattle.graphql_nodes.specs.declared.nodes.Node.{Node}
use Rattle.graphql_contents.specs.Contents.{Grows}
use Rattle.graphql_contents.specs.Fragments.{AreSetsNumbered}
use Rattle.graphql_contents.specs.Tables.{contents_of}
use Rattle.graphql_contents.proofs.documents.number_fragments.Given as goal

abbrev pub invariant-loop-fragment : goal.invariant-loop-fragment
invariant-loop-fragment l = record {
  grows : Grows (contents_of l.initial.contents) (contents_of l.contents);
  done : List (Node Fragment);
  split : done ++ l.fragment-iterator ≡ l.initial.fragment-iterator;
  numbers : AreSetsNumbered (contents_of l.contents) (map (λ d. d.value.value.selection_set) done) l.fragments.items;
}
