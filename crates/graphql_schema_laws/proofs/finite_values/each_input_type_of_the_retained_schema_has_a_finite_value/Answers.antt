use Rattle.graphql_schema_laws.proofs.FiniteValueLaws.{has_finite_value, input_types_hold}
use Rattle.graphql_schema_laws.proofs.RetainedInputLaws.{input_types_hold_after}
use Rattle.graphql_schema_laws.proofs.finite_values.each_input_type_of_the_retained_schema_has_a_finite_value.Goals as goal

pub returns : goal.returns
returns c schema retained ty holds own named maps is names =
    has_finite_value retained (input_types_hold_after schema retained is (input_types_hold schema holds own named maps)) ty names
