use Rattle.graphql_schema_laws.proofs.DefaultValueLaws.{input_of_retained}
use Rattle.graphql_schema_laws.proofs.default_values.each_input_of_the_retained_schema_is_of_an_input_type.Goals as goal

pub returns : goal.returns
returns c = λ schema retained d holds is stands. input_of_retained schema retained holds is d stands
