use Rattle.graphql_built.proofs.BuiltLemmas.{defined_field, undefined_field}
use Rattle.graphql_built.proofs.built.selections.field_is_built.Goals as goal

pub returns-then-has_definition_of_type : goal.returns-then-has_definition_of_type
returns-then-has_definition_of_type c =
    defined_field c.args.schema.now c.args.parent.now c.args.field.now _ (c.has_definition_of_type.ensures.0 c.if-has_definition_of_type.true)
    c.has_set_of_output_type.ensures

pub returns-else-has_definition_of_type : goal.returns-else-has_definition_of_type
returns-else-has_definition_of_type c =
    undefined_field c.args.schema.now c.args.parent.now c.args.field.now _ c.has_definition_of_type.ensures c.if-has_definition_of_type.false
