use Rattle.graphql_numbers.proofs.NumberLemmas.{integer_fits}
use Rattle.graphql_numbers.proofs.integers.IntValue.try_to_i32.Goals as goal

pub returns-clause-fits : goal.returns-clause-fits
returns-clause-fits c =
    let fits = integer_fits c.args.self.now c.parse.result (rw c.as_str.ensures.text at c.parse.ensures.value.0) c.as_str.ensures.integer in
    rw c.ok.ensures.value fits
