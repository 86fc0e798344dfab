use Rattle.std.proofs.Common.{◌≡◌, ◌++◌, List, map}
use Rattle.graphql_documents.specs.Extensions.{extensions_among}
use Rattle.graphql_schemas.specs.FoundExtensions.{HasTheirNumbers}
use Rattle.graphql_nodes.specs.Names.{NameText}
use Rattle.graphql_documents.specs.declared.documents.components.Component.{Component}
use Rattle.graphql_schemas.proofs.extensions.add_entries.Given as goal

abbrev pub invariant-loop-component : goal.invariant-loop-component
invariant-loop-component g l = record {
  can_next : (goal.iterator-loop-component g).can_next l.component-iterator;
  is_finite : (goal.iterator-loop-component g).is_finite l.component-iterator;
  done : List (NameText × Component g.row.T.Denot);
  all : l.entries.entries ≡ done ++ l.component-iterator;
  added : l.found.extensions.items ≡ extensions_among l.initial.found.extensions.items (map (λ e. e.1.origin) done);
  numbers : HasTheirNumbers l.found;
}
