use Rattle.std.proofs.Common.{arith}
use Rattle.graphql_number_sets.proofs.BitLemmas.{joined}
use Rattle.graphql_number_sets.proofs.bit_sets.BitSet.add_all.Goals as goal

pub returns-clause-cost : goal.returns-clause-cost
returns-clause-cost g c = omega (arith, c.loop-place.invariant.cost, c.loop-place.auto.place-end, c.deref-word-items.ensures.len, c.args.other.now.words.ok.0)

pub returns-clause-added : goal.returns-clause-added
returns-clause-added g c =
    joined c.args.self.now.words.items c.args.other.now.words.items c.loop-place.self.words.items
    (λ place within. c.loop-place.invariant.joined place (omega (arith, within, c.loop-place-test.false, c.deref-word-items.ensures.len, c.args.other.now.words.ok.0)))
    (λ place past. c.loop-place.invariant.others place (omega (arith, past, c.loop-place-test.false, c.loop-place.auto.place-end, c.deref-word-items.ensures.len, c.args.other.now.words.ok.0)))
