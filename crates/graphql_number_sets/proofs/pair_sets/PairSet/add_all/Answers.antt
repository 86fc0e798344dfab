use Rattle.std.proofs.Common.{◌≡◌, ◌<◌, ◌+◌, ◌*◌, le_of_eq, mul-le-mul_right, ◌++◌, ◌∷◌, [], ap, arith, get_or, length, refl, subst, sym, take, ◌∙◌, All, Contains, inl, true, ℕ}
use Rattle.std.specs.Prelude.{◌↔◌, ◌⊎◌}
use Rattle.std.specs.Vec.{with_item}
use Rattle.std.proofs.lemmas.List.{take_all, take_more}
use Rattle.std.proofs.lemmas.List.Elements.{All-contains, All-contains_itself, All-get_or}
use Rattle.graphql_number_sets.specs.NumberSets.{HasSomeOf, has_pair, numbers_of, words_of}
use Rattle.graphql_number_sets.proofs.NumberLemmas.{first_of, in_place, more_kept, on_err, row_has, rows_more, rows_some_more}
use Rattle.graphql_number_sets.proofs.pair_sets.PairSet.add_all.Given as given
use Rattle.graphql_number_sets.proofs.pair_sets.PairSet.add_all.Goals as goal

pub loop-number-preserved : goal.loop-number-preserved
loop-number-preserved g c =
    let xs = c.deref-number-items.result.now in
    let all = numbers_of c.args.seconds.now in
    let rows = c.loop-number.self.rows in
    let i = c.loop-number.number-index in
    let number = get_or xs i 0 in
    let more : take (i + 1) xs ≡ take i xs ++ number ∷ [] = take_more xs i 0 c.loop-number-test.true in
    let below = All-get_or (λ n. n < c.args.self.now.rows.len) xs i 0 c.loop-number-test.true (subst (All (λ n. n < c.args.self.now.rows.len)) (sym c.deref-number-items.ensures.value) c.requires.within) in
    let within : number < length rows.items = omega (arith, below, c.loop-number.invariant.count, rows.ok.0) in
    record {
      count = c.loop-number.invariant.count;
      cliques = c.loop-number.invariant.cliques;
      cost = omega (arith, c.loop-number.invariant.cost, c.take.ensures, c.add_to_row.ensures.cost);
      added = rows_more c.args.self.now.rows.items rows.items c.index_mut.result.now c.add_to_row.new.row all (take i xs) (take (i + 1) xs) number more
          (row_has rows.items number c.index_mut.result.now within c.index_mut.ensures.value) c.in_ok-add_to_row.ensures.added c.loop-number.invariant.added;
    }

pub returns-clause-added : goal.returns-clause-added
returns-clause-added g c =
    subst (λ l. (a b : ℕ) → (has_pair c.loop-number.self a b ≡ true) ↔ ((has_pair c.args.self.now a b ≡ true) ⊎ (Contains l a × Contains (numbers_of c.args.seconds.now) b)))
    (take_all c.loop-number.number-index c.deref-number-items.result.now c.loop-number-test.false ∙ c.deref-number-items.ensures.value) c.loop-number.invariant.added

pub returns-clause-cost : goal.returns-clause-cost
returns-clause-cost g c =
    let row = 2 * words_of c.args.seconds.now.members + 65 in
    omega (arith, c.loop-number.invariant.cost, mul-le-mul_right row (le_of_eq (ap length c.deref-number-items.ensures.value)), mul-le-mul_right row c.loop-number.auto.number-index-end)

pub returns-in_err-add_to_row-clause-cost : goal.returns-in_err-add_to_row-clause-cost
returns-in_err-add_to_row-clause-cost g c =
    let row = 2 * words_of c.args.seconds.now.members + 65 in
    omega (arith, c.loop-number.invariant.cost, c.take.ensures, c.add_to_row.ensures.cost, mul-le-mul_right row (le_of_eq (ap length c.deref-number-items.ensures.value)), mul-le-mul_right row c.loop-number-test.true)

pub returns-clause-cliques : goal.returns-clause-cliques
returns-clause-cliques g c =
    more_kept c.args.self.now c.loop-number.self (λ a b has. (c.loop-number.invariant.added a b).1 (inl has)) (ap (λ cliques. cliques.sets.items) c.loop-number.invariant.cliques)

-- what there is after an error
some_of : (g : given.Over) (c : goal.After-from_residual g) →
    HasSomeOf c.args.self.now (record { rows = with_item c.loop-number.self.rows (get_or c.deref-number-items.result.now c.loop-number.number-index 0) c.add_to_row.new.row; cliques = c.loop-number.self.cliques })
    (numbers_of c.args.firsts.now) (numbers_of c.args.seconds.now)
some_of g c =
    let xs = c.deref-number-items.result.now in
    let all = numbers_of c.args.seconds.now in
    let firsts = numbers_of c.args.firsts.now in
    let rows = c.loop-number.self.rows in
    let i = c.loop-number.number-index in
    let number = get_or xs i 0 in
    let below = All-get_or (λ n. n < c.args.self.now.rows.len) xs i 0 c.loop-number-test.true (subst (All (λ n. n < c.args.self.now.rows.len)) (sym c.deref-number-items.ensures.value) c.requires.within) in
    let within : number < length rows.items = omega (arith, below, c.loop-number.invariant.count, rows.ok.0) in
    rows_some_more c.args.self.now (record { rows = with_item rows number c.add_to_row.new.row; cliques = c.loop-number.self.cliques }) rows.items c.index_mut.result.now c.add_to_row.new.row firsts all (take i xs) number
    (row_has rows.items number c.index_mut.result.now within c.index_mut.ensures.value) c.in_err-add_to_row.ensures.refused refl
    (All-contains (Contains firsts) xs number (subst (λ l. All (Contains firsts) l) (sym c.deref-number-items.ensures.value) (All-contains_itself firsts)) (i, c.loop-number-test.true, in_place xs i number 0 c.loop-number-test.true))
    (λ n in'. subst (λ l. Contains l n) c.deref-number-items.ensures.value (first_of xs i n in'))
    c.loop-number.invariant.added

pub returns-in_err-add_to_row-clause-refused : goal.returns-in_err-add_to_row-clause-refused
returns-in_err-add_to_row-clause-refused g c = on_err c.from_residual.result (some_of g c)

pub returns-in_err-add_to_row-clause-cliques : goal.returns-in_err-add_to_row-clause-cliques
returns-in_err-add_to_row-clause-cliques g c =
    more_kept c.args.self.now (record { rows = with_item c.loop-number.self.rows (get_or c.deref-number-items.result.now c.loop-number.number-index 0) c.add_to_row.new.row; cliques = c.loop-number.self.cliques })
    (some_of g c).kept (ap (λ cliques. cliques.sets.items) c.loop-number.invariant.cliques)
