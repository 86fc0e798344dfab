use Rattle.graphql_number_sets.specs.NumberSets.{numbers_of}
use Rattle.graphql_number_sets.proofs.NumberLemmas.{all_are_some, cliques_after, ends_within, joined_clique, on_err}
use Rattle.graphql_number_sets.proofs.pair_sets.PairSet.join.Goals as goal

pub add_joined-requires-clause-ends_within : goal.add_joined-requires-clause-ends_within
add_joined-requires-clause-ends_within g c =
    ends_within c.args.self.now (numbers_of c.args.numbers) (numbers_of c.args.ends.now) c.args.self.now.rows.len c.requires.ends c.requires.within

pub returns-clause-cliques : goal.returns-clause-cliques
returns-clause-cliques g c =
    let pairs = c.add_joined.new.self in
    cliques_after c.add.result pairs pairs.cliques.sets.items c.add.new.self.sets.items c.args.numbers.members (c.add_joined.ensures.cliques c.requires.cliques)
    (joined_clique c.args.self.now pairs c.args.numbers (numbers_of c.args.ends.now) c.requires.numbers_exact c.requires.ends c.in_ok-add_joined.ensures.added)
    c.add.ensures.added c.add.ensures.refused

pub returns-clause-refused : goal.returns-clause-refused
returns-clause-refused g c =
    on_err c.add.result (all_are_some c.args.self.now (record { rows = c.add_joined.new.self.rows; cliques = c.add.new.self }) (numbers_of c.args.numbers) (numbers_of c.args.ends.now) c.in_ok-add_joined.ensures.added)
