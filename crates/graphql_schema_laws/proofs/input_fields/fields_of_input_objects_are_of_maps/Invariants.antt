use Rattle.std.proofs.Common.{◌≡◌, ◌++◌, List}
use Rattle.std.specs.Prelude.{All}
use Rattle.graphql_nodes.specs.Names.{NameText}
use Rattle.graphql_nodes.specs.declared.nodes.Node.{Node}
use Rattle.graphql_documents.specs.declared.documents.schemas.ExtendedType.{ExtendedType}
use Rattle.graphql_documents.specs.declared.documents.schemas.ExtendedType.TheVariants.{InputObject}
use Rattle.graphql_documents.specs.declared.documents.schemas.InputObjectType.{InputObjectType}
use Rattle.graphql_schema_laws.specs.InputFields.{HasFieldsOfMap}
use Rattle.graphql_schema_laws.proofs.input_fields.fields_of_input_objects_are_of_maps.Given as goal

abbrev pub invariant-loop-definition : goal.invariant-loop-definition
invariant-loop-definition l = record {
  can_next : (goal.iterator-loop-definition).can_next l.definition-iterator;
  is_finite : (goal.iterator-loop-definition).is_finite l.definition-iterator;
  done : List (NameText × ExtendedType);
  all : l.schema.types.entries ≡ done ++ l.definition-iterator;
  so_far : All (λ entry. (d : Node InputObjectType) → entry.1 ≡ InputObject d → HasFieldsOfMap d.value.value) done;
}
