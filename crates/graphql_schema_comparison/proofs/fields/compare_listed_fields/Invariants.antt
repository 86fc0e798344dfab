use Rattle.std.proofs.Common.{◌≡◌, ◌++◌, List, All}
use Rattle.graphql_nodes.specs.Names.{NameText}
use Rattle.graphql_documents.specs.declared.documents.components.Component.{Component}
use Rattle.graphql_documents.specs.declared.documents.definitions.FieldDefinition.{FieldDefinition}
use Rattle.graphql_schema_comparison.specs.Comparisons.{KeepsFieldNamed}
use Rattle.graphql_change_kinds.specs.Found.{Finds}
use Rattle.graphql_schema_comparison.proofs.fields.compare_listed_fields.Given as goal

abbrev pub invariant-loop-name : goal.invariant-loop-name
invariant-loop-name l = record {
  can_next : (goal.iterator-loop-name).can_next l.name-iterator;
  is_finite : (goal.iterator-loop-name).is_finite l.name-iterator;
  done : List (NameText × Component FieldDefinition);
  all : l.initial.name-iterator ≡ done ++ l.name-iterator;
  found : Finds l.pair.old.now l.pair.new.now l.initial.changes l.changes (λ merging. All (λ (entry : NameText × Component FieldDefinition). KeepsFieldNamed l.meetings.by_shape l.pair.old.now l.pair.new.now merging l.ty entry.0 entry.1) done);
}
