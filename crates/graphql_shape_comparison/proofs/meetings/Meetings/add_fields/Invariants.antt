use Rattle.std.proofs.Common.{◌≡◌, ◌++◌, List, All}
use Rattle.graphql_nodes.specs.Names.{NameText}
use Rattle.graphql_documents.specs.declared.documents.components.Component.{Component}
use Rattle.graphql_documents.specs.declared.documents.definitions.FieldDefinition.{FieldDefinition}
use Rattle.graphql_shape_comparison.specs.Shapes.{KnowsEntry, Learns}
use Rattle.graphql_shape_comparison.proofs.meetings.Meetings.add_fields.Given as goal

abbrev pub invariant-loop-name : goal.invariant-loop-name
invariant-loop-name l = record {
  can_next : (goal.iterator-loop-name).can_next l.name-iterator;
  is_finite : (goal.iterator-loop-name).is_finite l.name-iterator;
  done : List (NameText × Component FieldDefinition);
  all : l.initial.name-iterator ≡ done ++ l.name-iterator;
  learned : Learns l.pair.old.now l.pair.new.now l.initial.self.by_shape l.self.by_shape (λ table. All (λ (entry : NameText × Component FieldDefinition). KnowsEntry table l.pair.old.now l.pair.new.now l.ty entry.0 entry.1) done);
}
