use Rattle.graphql_document_building.proofs.field_definitions.FieldDefinitions.of_field.Goals as goal

pub defined_field-requires : goal.defined_field-requires
defined_field-requires c = record {
  parent_type = rw c.in-OfSchema.is at c.requires.parent_type;
  defined = rw c.in-OfSchema.is at c.requires.defined;
}
