use Rattle.std.proofs.Common.{◌≡◌, ◌*◌, ◌%◌, ◌^◌, ◌/◌, ◌<◌, arith, length, set, subst, sym, true}
use Rattle.std.specs.Prelude.{◌↔◌, ◌⊎◌, bit_or}
use Rattle.graphql_number_sets.specs.NumberSets.{has_bit}
use Rattle.graphql_number_sets.proofs.BitLemmas.{inserted, read_at}
use Rattle.graphql_number_sets.proofs.bit_sets.BitSet.insert.Goals as goal

pub returns-clause-added : goal.returns-clause-added
returns-clause-added g c other =
    let old = c.args.self.now.words.items in
    let made = c.make_words.new.self.words in
    let n = c.args.number in
    let within : n / 64 < length made.items = omega (arith, c.in_ok-make_words.ensures.length, made.ok.0) in
    let read = read_at made.items (n / 64) c.index_mut.result.now within c.index_mut.ensures.value in
    subst (λ w. (has_bit (set made.items (n / 64) (bit_or w (1 * 2 ^ (n % 64) % 18446744073709551616))) other ≡ true) ↔ ((has_bit old other ≡ true) ⊎ (other ≡ n))) (sym read)
    (inserted old made.items n c.in_ok-make_words.ensures.words within other)
