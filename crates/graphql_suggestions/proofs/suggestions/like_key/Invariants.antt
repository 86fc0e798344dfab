use Rattle.std.proofs.Common.{◌≡◌, ◌++◌, List, All}
use Rattle.graphql_nodes.specs.Names.{NameText}
use Rattle.graphql_suggestions.specs.Defined.{keys}
use Rattle.graphql_suggestions.specs.Suggestions.{IsSuggested}
use Rattle.graphql_suggestions.proofs.suggestions.like_key.Given as goal

abbrev pub invariant-loop-name : goal.invariant-loop-name
invariant-loop-name g l = record {
  can_next : (goal.iterator-loop-name g).can_next l.name-iterator;
  is_finite : (goal.iterator-loop-name g).is_finite l.name-iterator;
  done : List (NameText × (g.row.T).Denot);
  all : l.initial.name-iterator ≡ done ++ l.name-iterator;
  found : All (IsSuggested (keys l.definitions.entries) l.wanted) l.found.items;
}
