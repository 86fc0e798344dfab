use Rattle.graphql_number_sets.proofs.NumberLemmas.{none_exact}
use Rattle.graphql_number_sets.proofs.distinct_numbers.DistinctNumbers.new.Goals as goal

pub returns-clause-exact : goal.returns-clause-exact
returns-clause-exact c = none_exact (record { numbers = c.new.result; members = c.new-2.result }) c.new.ensures.items c.new-2.ensures.empty
