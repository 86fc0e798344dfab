use Rattle.graphql_number_sets.specs.NumberSets.{numbers_of}
use Rattle.graphql_number_sets.proofs.NumberLemmas.{both_added, first_refused, on_err, second_refused}
use Rattle.graphql_number_sets.proofs.pair_sets.PairSet.add_joined.Goals as goal

pub returns-clause-added : goal.returns-clause-added
returns-clause-added g c =
    both_added c.add_all-2.result c.args.self.now c.add_all.new.self c.add_all-2.new.self (numbers_of c.args.numbers.now) (numbers_of c.args.ends.now)
    c.in_ok-add_all.ensures.added c.add_all-2.ensures.added

pub returns-clause-refused : goal.returns-clause-refused
returns-clause-refused g c =
    second_refused c.add_all-2.result c.args.self.now c.add_all.new.self c.add_all-2.new.self (numbers_of c.args.numbers.now) (numbers_of c.args.ends.now)
    c.in_ok-add_all.ensures.added c.add_all-2.ensures.refused

pub returns-clause-cliques : goal.returns-clause-cliques
returns-clause-cliques g c = λ kept. c.add_all-2.ensures.cliques (c.add_all.ensures.cliques kept)

pub returns-in_err-add_all-clause-refused : goal.returns-in_err-add_all-clause-refused
returns-in_err-add_all-clause-refused g c =
    on_err c.from_residual.result (first_refused c.args.self.now c.add_all.new.self (numbers_of c.args.numbers.now) (numbers_of c.args.ends.now) c.in_err-add_all.ensures.refused)
