use Rattle.std.proofs.Common.{sym, true, false, ◌≡◌, ◌+◌, ◌*◌, ◌/◌, ◌-◌, ap, length, ◌∙◌, arith, vec_len}
use Rattle.graphql_number_sets.proofs.NumberLemmas.{added, exact_again, popped}
use Rattle.graphql_number_sets.proofs.distinct_numbers.DistinctNumbers.add.Goals as goal

pub returns-clause-exact : goal.returns-clause-exact
returns-clause-exact g c =
    added c.args.self.now (record { numbers = c.push.new.self; members = c.insert.new.self }) c.args.number c.requires
    (λ in'. let no : true ≡ false = sym ((c.requires.members c.args.number).1 in') ∙ sym c.contains.ensures ∙ c.if-contains.false in let no : ⊥ = cc in no)
    c.in_ok-push.ensures.items c.in_default.ensures.added

pub returns-in-Err-clause-exact : goal.returns-in-Err-clause-exact
returns-in-Err-clause-exact g c =
    let old = c.args.self.now.numbers in
    let same : c.pop.new.self.items ≡ old.items =
    popped old.items c.push.new.self.items c.pop.new.self.items c.args.number (vec_len c.push.new.self - 1) c.in_ok-push.ensures.items c.pop.ensures.rest
    (omega (arith, c.in_ok-push.ensures.len, old.ok.0)) in
    exact_again c.args.self.now (record { numbers = c.pop.new.self; members = c.insert.new.self }) c.requires same c.in-Err.ensures.refused

pub returns-clause-each : goal.returns-clause-each
returns-clause-each g c = λ bound below.
    let longer : length c.push.new.self.items ≡ length c.args.self.now.numbers.items + 1 = omega (arith, c.in_ok-push.ensures.len, c.args.self.now.numbers.ok.0, c.push.new.self.ok.0) in
    omega (arith, below, c.insert.ensures.words, ap (λ n. n * (bound / 64 + 1)) longer)

pub returns-then-contains-clause-each : goal.returns-then-contains-clause-each
returns-then-contains-clause-each g c = λ bound below. omega arith
