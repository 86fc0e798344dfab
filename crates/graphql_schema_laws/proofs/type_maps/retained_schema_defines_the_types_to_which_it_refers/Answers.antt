use Rattle.graphql_schema_laws.proofs.DefinedTypeLaws.{referred_is_defined}
use Rattle.graphql_schema_laws.proofs.type_maps.retained_schema_defines_the_types_to_which_it_refers.Goals as goal

pub returns : goal.returns
returns c schema retained name holds scalars is = referred_is_defined schema retained scalars is holds name
