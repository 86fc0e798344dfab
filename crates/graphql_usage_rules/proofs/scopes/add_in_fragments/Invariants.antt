use Rattle.std.proofs.Common.{◌≡◌, ◌++◌, Bor, List}
use Rattle.std.specs.Prelude.{Any}
use Rattle.graphql_nodes.specs.Names.{NameText}
use Rattle.graphql_documents.specs.Selections.{fragments_of}
use Rattle.graphql_usage_rules.specs.Scopes.{Adds, InFragmentNamed, values_at}
use Rattle.graphql_usage_rules.proofs.scopes.add_in_fragments.Given as goal

abbrev pub invariant-loop-name : goal.invariant-loop-name
invariant-loop-name l = record {
  can_next : (goal.iterator-loop-name).can_next l.name-iterator;
  is_finite : (goal.iterator-loop-name).is_finite l.name-iterator;
  done : List (Bor NameText);
  all : l.names.keys ≡ done ++ l.name-iterator;
  added : Adds (λ v. Any (λ (name : Bor NameText). InFragmentNamed (fragments_of l.document) name.now v) done) (values_at l.initial.variables.items) (values_at l.variables.items);
}
