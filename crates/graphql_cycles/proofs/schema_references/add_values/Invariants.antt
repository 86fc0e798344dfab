use Rattle.std.proofs.Common.{◌≡◌, ◌++◌, List, map, flat_map}
use Rattle.graphql_nodes.specs.Names.{NameText}
use Rattle.graphql_specification.specs.DirectiveCycles.{by_directive}
use Rattle.graphql_documents.specs.declared.documents.components.Component.{Component}
use Rattle.graphql_documents.specs.declared.documents.definitions.EnumValueDefinition.{EnumValueDefinition}
use Rattle.graphql_cycles.specs.References.{reference_of}
use Rattle.graphql_cycles.proofs.schema_references.add_values.Given as goal

abbrev pub invariant-loop-value : goal.invariant-loop-value
invariant-loop-value l = record {
  can_next : (goal.iterator-loop-value).can_next l.value-iterator;
  is_finite : (goal.iterator-loop-value).is_finite l.value-iterator;
  done : List (NameText × Component EnumValueDefinition);
  all : l.values.entries ≡ done ++ l.value-iterator;
  added : map reference_of l.found.items ≡ map reference_of l.initial.found.items ++ flat_map (λ entry. map by_directive entry.1.node.value.value.directives.items) done;
}
