use Rattle.std.proofs.Common.{◌∷◌, [], All, Contains, subst, sym, take, arith}
use Rattle.std.specs.Prelude.{MatchOption}
use Rattle.std.proofs.lemmas.List.{take_all}
use Rattle.std.proofs.lemmas.List.Elements.{All-append, All-cons, All-nil}
use Rattle.graphql_documents.proofs.ListLemmas.{more_is, only_one}
use Rattle.graphql_merging.specs.Groups.{pass_of}
use Rattle.graphql_specification.specs.MergedSets.{Agree}
use Rattle.graphql_pair_merging.specs.NumberedSets.{field_of}
use Rattle.graphql_pair_merging.specs.Pairs.{DisagreeAmong}
use Rattle.graphql_pair_merging.specs.declared.numbered_sets.NumberedField.{NumberedField}
use Rattle.graphql_pair_merging.proofs.ArgumentNumberLemmas.{numbers_of_two}
use Rattle.graphql_pair_merging.proofs.SettleLemmas.{found_wider}
use Rattle.graphql_pair_merging.proofs.pairs.PairPass.conflict_with_each.Goals as goal

pub returns-in-Some-clause-found : goal.returns-in-Some-clause-found
returns-in-Some-clause-found g c numbers =
    let schema = c.args.self.now.schema.now in
    let pass = pass_of c.args.self.now.pass in
    let x = c.args.field in
    let y = c.other-item.result in
    let d = subst (λ o. MatchOption o (Agree schema pass (field_of x) (field_of y)) (DisagreeAmong schema pass (x ∷ []) (y ∷ []))) c.in-Some.is (c.in_ok-conflict.ensures (numbers_of_two x y c.args.others.now (c.loop-other.other-index, c.loop-other-test.true, sym c.other-item.is) numbers)) in
    found_wider schema pass (x ∷ []) (y ∷ []) (x ∷ []) c.args.others.now c.in-Some.conflict (λ z in'. in')
    (λ z in'. subst (Contains c.args.others.now) (sym (only_one y z in')) (c.loop-other.other-index, c.loop-other-test.true, sym c.other-item.is)) d

pub loop-other-preserved : goal.loop-other-preserved
loop-other-preserved g c = record {
  agree = λ numbers.
      let schema = c.args.self.now.schema.now in
      let pass = pass_of c.args.self.now.pass in
      let x = c.args.field in
      let y = c.other-item.result in
      let others = c.args.others.now in
      let i = c.loop-other.other-index in
      let P = λ (other : NumberedField). Agree schema pass (field_of x) (field_of other) in
      let agree = subst (λ o. MatchOption o (Agree schema pass (field_of x) (field_of y)) (DisagreeAmong schema pass (x ∷ []) (y ∷ []))) c.in_default.is (c.in_ok-conflict.ensures (numbers_of_two x y others (i, c.loop-other-test.true, sym c.other-item.is) numbers)) in
      subst (All P) (sym (more_is others i y c.loop-other-test.true c.other-item.is)) (All-append P (take i others) (y ∷ []) (c.loop-other.invariant.agree numbers) (All-cons P y [] agree (All-nil P)));
  cost = omega (arith, c.loop-other.invariant.cost, c.take.ensures);
}

pub returns-clause-found : goal.returns-clause-found
returns-clause-found g c numbers =
    let schema = c.args.self.now.schema.now in
    let pass = pass_of c.args.self.now.pass in
    let P = λ (other : NumberedField). Agree schema pass (field_of c.args.field) (field_of other) in
    subst (All P) (take_all c.loop-other.other-index c.args.others.now c.loop-other-test.false) (c.loop-other.invariant.agree numbers)
