use Rattle.std.proofs.Common.{◌/◌, ◌<◌, All, arith, subst, sym}
use Rattle.graphql_number_sets.specs.NumberSets.{words_of}
use Rattle.graphql_number_sets.proofs.NumberLemmas.{have_words}
use Rattle.graphql_number_sets.proofs.pair_sets.add_to_row.Goals as goal

pub returns-else-len-gt-FEW-clause-cost : goal.returns-else-len-gt-FEW-clause-cost
returns-else-len-gt-FEW-clause-cost g c =
    let words = words_of c.args.numbers.now.members in
    let fit = subst (All (λ n. n / 64 < words)) (sym c.deref.ensures.value) (have_words c.args.numbers.now c.requires) in
    omega (
      arith,
      c.insert_each.ensures.cost,
      c.insert_each.ensures.words words fit,
      c.deref.ensures.len,
      c.len.ensures,
      c.if-len-gt-FEW.false,
    )
