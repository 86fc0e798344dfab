use Rattle.std.proofs.Common.{arith}
use Rattle.std.proofs.lemmas.List.Elements.{All-contains}
use Rattle.graphql_number_sets.specs.NumberSets.{IsClique, numbers_of}
use Rattle.graphql_number_sets.proofs.NumberLemmas.{if_ok, known_in}
use Rattle.graphql_number_sets.proofs.pair_sets.PairSet.known.Goals as goal

pub returns-in-Some-clause-fits : goal.returns-in-Some-clause-fits
returns-in-Some-clause-fits g c = c.those_in.ensures.fits c.args.self.now.rows.len c.requires.within

pub returns-in-Some-clause-cost : goal.returns-in-Some-clause-cost
returns-in-Some-clause-cost g c = omega (arith, c.around.ensures.cost, c.those_in.ensures.cost c.args.self.now.rows.len c.requires.within)

pub returns-in-Some-clause-known : goal.returns-in-Some-clause-known
returns-in-Some-clause-known g c =
    let pairs = c.args.self.now in
    let clique = c.in-Some.clique.now in
    if_ok c.those_in.result
    (λ those. known_in pairs clique c.args.numbers.now (numbers_of those) (All-contains (IsClique pairs) pairs.cliques.sets.items clique c.requires.cliques c.in-Some.ensures.clique))
    c.those_in.ensures.among
