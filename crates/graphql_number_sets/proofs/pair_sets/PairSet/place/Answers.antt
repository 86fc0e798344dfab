use Rattle.std.proofs.Common.{◌≡◌, ◌<◌, Some, arith, inl, inr, length, refl, ap, sym, ◌∙◌}
use Rattle.std.specs.Prelude.{slice_get}
use Rattle.graphql_number_sets.specs.NumberSets.{has_in, is_end, is_paired}
use Rattle.graphql_number_sets.proofs.NumberLemmas.{row_has, where_ok}
use Rattle.graphql_number_sets.proofs.pair_sets.PairSet.place.Goals as goal

pub returns-then-not-contains-clause-placed : goal.returns-then-not-contains-clause-placed
returns-then-not-contains-clause-placed g c =
    let rows = c.args.self.now.rows in
    let row = c.index-row.result.now in
    let n = c.args.number in
    let within : n < length rows.items = omega (arith, c.requires.within, rows.ok.0) in
    let at : slice_get rows.items n ≡ Some row = row_has rows.items n row within c.index-row.ensures in
    where_ok c.add.result (λ add. is_end n (inr refl) (ap (λ o. has_in o n) at ∙ sym c.if-not-contains.ensures) add refl) c.add.ensures.added

pub returns-then-contains_all-clause-placed : goal.returns-then-contains_all-clause-placed
returns-then-contains_all-clause-placed g c =
    let rows = c.args.self.now.rows in
    let row = c.index-row.result.now in
    let n = c.args.number in
    let within : n < length rows.items = omega (arith, c.requires.within, rows.ok.0) in
    let at : slice_get rows.items n ≡ Some row = row_has rows.items n row within c.index-row.ensures in
    where_ok c.add-then-contains_all.result
    (λ add. is_paired (ap (λ o. has_in o n) at ∙ sym c.if-not-contains.ensures)
    (λ other in'. ap (λ o. has_in o other) at ∙ c.if-contains_all.ensures.all refl other ((c.requires.paired.members other).1 in')) add refl)
    c.add-then-contains_all.ensures.added

pub returns-else-contains_all-clause-placed : goal.returns-else-contains_all-clause-placed
returns-else-contains_all-clause-placed g c =
    let rows = c.args.self.now.rows in
    let row = c.index-row.result.now in
    let n = c.args.number in
    let within : n < length rows.items = omega (arith, c.requires.within, rows.ok.0) in
    let at : slice_get rows.items n ≡ Some row = row_has rows.items n row within c.index-row.ensures in
    let one = c.if-contains_all.ensures.one refl in
    where_ok c.add-else-contains_all.result
    (λ add. is_end one.0 (inl ((c.requires.paired.members one.0).0 one.1)) (ap (λ o. has_in o one.0) at ∙ one.2) add refl)
    c.add-else-contains_all.ensures.added
