use Rattle.std.proofs.Common.{subst}
use Rattle.graphql_value_numbers.specs.Arguments.{HaveNumber}
use Rattle.graphql_value_numbers.proofs.NumberLaws.{equal_arguments, one_arguments_number}
use Rattle.graphql_value_numbers.proofs.laws.numbers_decide_sameness_of_arguments.Goals as goal

pub returns : goal.returns
returns c shapes table a b m n of_a of_b =
    (λ equal. equal_arguments shapes a b n (subst (HaveNumber shapes a) equal of_a) of_b, one_arguments_number shapes table a b m n of_a of_b)
