use Rattle.std.proofs.Common.{◌≡◌, ◌++◌, List}
use Rattle.std.specs.Prelude.{flat_map}
use Rattle.graphql_diagnostics.specs.Diagnostics.{entries}
use Rattle.graphql_nodes.specs.Names.{NameText}
use Rattle.graphql_diagnostics.specs.Reports.{Reports}
use Rattle.graphql_documents.specs.declared.documents.components.Component.{Component}
use Rattle.graphql_documents.specs.declared.documents.definitions.FieldDefinition.{FieldDefinition}
use Rattle.graphql_schemas.proofs.DefaultValueLemmas.{Break, Hold}
use Rattle.graphql_schemas.proofs.default_values.validate_fields.Given as goal

abbrev pub invariant-loop-field : goal.invariant-loop-field
invariant-loop-field l = record {
  can_next : (goal.iterator-loop-field).can_next l.field-iterator;
  is_finite : (goal.iterator-loop-field).is_finite l.field-iterator;
  done : List (NameText × Component FieldDefinition);
  all : l.fields.entries ≡ done ++ l.field-iterator;
  checked : Reports (Hold l.schema (flat_map (λ entry. entry.1.node.value.value.arguments.items) done)) (Break l.schema (flat_map (λ entry. entry.1.node.value.value.arguments.items) l.fields.entries)) (entries l.initial.diagnostics) (entries l.diagnostics);
}
