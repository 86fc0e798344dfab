use Rattle.graphql_operations.proofs.PossibleTypeLemmas.{common_swapped}
use Rattle.graphql_operations.proofs.possible_types.one_is_object_of_other.Goals as goal

pub returns-else-is_object_of : goal.returns-else-is_object_of
returns-else-is_object_of c = λ schema key other stands stands' there.
    common_swapped schema c.args.b.now c.args.a.now (c.is_object_of-else-is_object_of.ensures schema other stands' there)
