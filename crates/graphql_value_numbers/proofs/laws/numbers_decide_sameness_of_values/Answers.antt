use Rattle.std.proofs.Common.{subst}
use Rattle.graphql_value_numbers.specs.Numbers.{HasNumber}
use Rattle.graphql_value_numbers.proofs.NumberLaws.{equal_numbers, one_number}
use Rattle.graphql_value_numbers.proofs.laws.numbers_decide_sameness_of_values.Goals as goal

pub returns : goal.returns
returns c shapes table v w m n of_v of_w =
    (λ equal. equal_numbers shapes v w n (subst (HasNumber shapes v) equal of_v) of_w, one_number shapes table v w m n of_v of_w)
