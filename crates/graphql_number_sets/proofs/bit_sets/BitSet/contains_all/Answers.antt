use Rattle.std.proofs.Common.{◌-◌, ◌<◌, ◌≤◌, ap, arith, get_or, length, subst, ◌∙◌}
use Rattle.std.specs.Prelude.{bit_and}
use Rattle.graphql_number_sets.specs.NumberSets.{word_at}
use Rattle.graphql_number_sets.proofs.BitLemmas.{lacking_bit, nothing_lacks}
use Rattle.graphql_number_sets.proofs.bit_sets.BitSet.contains_all.Goals as goal

pub returns-then-word-ne0-clause-one : goal.returns-then-word-ne0-clause-one
returns-then-word-ne0-clause-one g c missed =
    let words = c.args.self.now.words.items in
    let others = c.args.other.now.words.items in
    let place = c.loop-place.place in
    lacking_bit words others place (subst (λ w. w < 18446744073709551616) c.word.ensures c.word.type_inv)
    (λ e. c.if-word-ne0.true
    (ap (λ l. bit_and (get_or l place 0) (18446744073709551615 - c.word.result)) c.deref-word-items.ensures.value ∙
    ap (λ w. bit_and (word_at others place) (18446744073709551615 - w)) c.word.ensures ∙ e))

pub returns-clause-all : goal.returns-clause-all
returns-clause-all g c all =
    let others = c.args.other.now.words.items in
    let past : length others ≤ c.loop-place.place = subst (λ l. length l ≤ c.loop-place.place) c.deref-word-items.ensures.value c.loop-place-test.false in
    nothing_lacks c.args.self.now.words.items others
    (λ place within. c.loop-place.invariant.none place (omega (arith, within, past)))
    (λ place within. c.loop-place.invariant.fits place (omega (arith, within, past)))
