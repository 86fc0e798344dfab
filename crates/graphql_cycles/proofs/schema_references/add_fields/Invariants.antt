use Rattle.std.proofs.Common.{◌≡◌, ◌++◌, List, map}
use Rattle.graphql_nodes.specs.Names.{NameText}
use Rattle.graphql_specification.specs.DirectiveCycles.{input_references}
use Rattle.graphql_documents.specs.declared.documents.components.Component.{Component}
use Rattle.graphql_documents.specs.declared.documents.definitions.InputValueDefinition.{InputValueDefinition}
use Rattle.graphql_cycles.specs.References.{reference_of}
use Rattle.graphql_cycles.proofs.schema_references.add_fields.Given as goal

abbrev pub invariant-loop-field : goal.invariant-loop-field
invariant-loop-field l = record {
  can_next : (goal.iterator-loop-field).can_next l.field-iterator;
  is_finite : (goal.iterator-loop-field).is_finite l.field-iterator;
  done : List (NameText × Component InputValueDefinition);
  all : l.fields.entries ≡ done ++ l.field-iterator;
  added : map reference_of l.found.items ≡ map reference_of l.initial.found.items ++ input_references (map (λ entry. entry.1.node) done);
}
