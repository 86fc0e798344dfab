use Rattle.std.proofs.Common.{◌≡◌, ◌++◌, List, map}
use Rattle.graphql_nodes.specs.Names.{NameText}
use Rattle.graphql_documents.specs.declared.documents.components.Component.{Component}
use Rattle.graphql_documents.specs.declared.documents.definitions.InputValueDefinition.{InputValueDefinition}
use Rattle.graphql_schemas.proofs.input_objects.field_nodes.Given as goal

-- the fields so far
abbrev pub invariant-loop-field : goal.invariant-loop-field
invariant-loop-field l = record {
  can_next : (goal.iterator-loop-field).can_next l.field-iterator;
  is_finite : (goal.iterator-loop-field).is_finite l.field-iterator;
  done : List (NameText × Component InputValueDefinition);
  all : l.fields.entries ≡ done ++ l.field-iterator;
  made : map (λ d. d.now) l.nodes.items ≡ map (λ entry. entry.1.node) done;
}
