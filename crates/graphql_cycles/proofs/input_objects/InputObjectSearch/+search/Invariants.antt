-- The search goes into input objects with a path that is longer each time; and it has searched what it
-- has passed.
use Rattle.std.proofs.Common.{◌≡◌, ◌+◌, ◌-◌, ◌*◌, ◌++◌, List, length}
use Rattle.graphql_nodes.specs.Names.{NameText}
use Rattle.graphql_documents.specs.declared.documents.components.Component.{Component}
use Rattle.graphql_documents.specs.declared.documents.definitions.InputValueDefinition.{InputValueDefinition}
use Rattle.graphql_guards.specs.Guards.{path_limit, path_of}
use Rattle.graphql_cycles.proofs.InputObjectSearchLemmas.{ClosesOver, nodes_of}
use Rattle.graphql_cycles.specs.InputObjectSearches.{RequiresAmong}
use Rattle.graphql_cycles.proofs.input_objects.InputObjectSearch.+search.Given as goal

abbrev pub decreases-search_field : goal.decreases-search_field
decreases-search_field l = 2 * (path_limit l.path.now - length (path_of l.path.now))

abbrev pub decreases-search_fields : goal.decreases-search_fields
decreases-search_fields l = 2 * (path_limit l.path.now - length (path_of l.path.now)) + 1

abbrev pub invariant-search_fields-loop-field : goal.invariant-search_fields-loop-field
invariant-search_fields-loop-field l = record {
  can_next : (goal.iterator-search_fields-loop-field).can_next l.field-iterator;
  is_finite : (goal.iterator-search_fields-loop-field).is_finite l.field-iterator;
  done : List (NameText × Component InputValueDefinition);
  all : l.input_object.value.value.fields.entries ≡ done ++ l.field-iterator;
  path : path_of l.path ≡ path_of l.initial.path;
  limit : path_limit l.path ≡ path_limit l.initial.path;
  closes : ClosesOver l.self.schema.now l.self.root.now (RequiresAmong l.self.schema.now (nodes_of done)) l.initial.seen.keys l.seen.keys;
}
