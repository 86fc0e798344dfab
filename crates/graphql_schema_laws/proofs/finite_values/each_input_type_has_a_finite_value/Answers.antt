use Rattle.graphql_schema_laws.proofs.FiniteValueLaws.{has_finite_value, input_types_hold}
use Rattle.graphql_schema_laws.proofs.finite_values.each_input_type_has_a_finite_value.Goals as goal

pub returns : goal.returns
returns c schema ty holds own named maps names = has_finite_value schema (input_types_hold schema holds own named maps) ty names
