use Rattle.std.proofs.Common.{◌∷◌, [], All, Contains, inl, inr, subst, sym, take, arith, length, mul-le-mul_right}
use Rattle.std.specs.Prelude.{MatchOption}
use Rattle.std.proofs.lemmas.List.{take_all}
use Rattle.std.proofs.lemmas.List.Elements.{All-contains}
use Rattle.graphql_documents.proofs.ListLemmas.{more_is, only_one}
use Rattle.graphql_merging.specs.Groups.{pass_of}
use Rattle.graphql_specification.specs.MergedSets.{Agree}
use Rattle.graphql_pair_merging.specs.NumberedSets.{field_of}
use Rattle.graphql_pair_merging.specs.Pairs.{DisagreeAmong}
use Rattle.graphql_pair_merging.specs.declared.numbered_sets.NumberedField.{NumberedField}
use Rattle.graphql_pair_merging.proofs.ArgumentNumberLemmas.{numbers_with}
use Rattle.graphql_pair_merging.proofs.SettleLemmas.{found_wider, in_both}
use Rattle.graphql_pair_merging.proofs.pairs.PairPass.conflict_of_any.Goals as goal

pub returns-in-Some-clause-found : goal.returns-in-Some-clause-found
returns-in-Some-clause-found g c numbers =
    let schema = c.args.self.now.schema.now in
    let pass = pass_of c.args.self.now.pass in
    let x = c.field-item.result in
    let fields = c.args.fields.now in
    let d = subst (λ o. MatchOption o (All (λ (other : NumberedField). Agree schema pass (field_of x) (field_of other)) fields) (DisagreeAmong schema pass (x ∷ []) fields)) c.in-Some.is
    (c.in_ok-conflict.ensures.found (numbers_with x fields (c.loop-field.field-index, c.loop-field-test.true, sym c.field-item.is) numbers)) in
    found_wider schema pass (x ∷ []) fields fields fields c.in-Some.conflict
    (λ z in'. subst (Contains fields) (sym (only_one x z in')) (c.loop-field.field-index, c.loop-field-test.true, sym c.field-item.is)) (λ z in'. in') d

pub loop-field-preserved : goal.loop-field-preserved
loop-field-preserved g c = record {
  agree = λ numbers u v in_u in_v.
      let schema = c.args.self.now.schema.now in
      let pass = pass_of c.args.self.now.pass in
      let x = c.field-item.result in
      let fields = c.args.fields.now in
      let i = c.loop-field.field-index in
      let P = λ (other : NumberedField). Agree schema pass (field_of x) (field_of other) in
      let all = subst (λ o. MatchOption o (All P fields) (DisagreeAmong schema pass (x ∷ []) fields)) c.in_default.is
      (c.in_ok-conflict.ensures.found (numbers_with x fields (i, c.loop-field-test.true, sym c.field-item.is) numbers)) in
      elim (in_both (take i fields) (x ∷ []) _ (more_is fields i x c.loop-field-test.true c.field-item.is) u in_u) [
        | inl was ↦ c.loop-field.invariant.agree numbers u v was in_v
        | inr last ↦ subst (λ (r : NumberedField). Agree schema pass (field_of r) (field_of v)) (sym (only_one x u last)) (All-contains P fields v all in_v)
      ];
  cost = omega (arith, c.loop-field.invariant.cost, c.conflict_with_each.ensures.cost);
}

pub returns-clause-cost : goal.returns-clause-cost
returns-clause-cost g c =
    omega (arith, c.loop-field.invariant.cost, mul-le-mul_right (length c.args.fields.now) c.loop-field.auto.field-index-end)

pub returns-in-Some-clause-cost : goal.returns-in-Some-clause-cost
returns-in-Some-clause-cost g c =
    omega (arith, c.loop-field.invariant.cost, c.conflict_with_each.ensures.cost, mul-le-mul_right (length c.args.fields.now) c.loop-field-test.true)

pub returns-clause-found : goal.returns-clause-found
returns-clause-found g c numbers =
    let schema = c.args.self.now.schema.now in
    let pass = pass_of c.args.self.now.pass in
    let fields = c.args.fields.now in
    subst (λ l. (x y : NumberedField) → Contains l x → Contains fields y → Agree schema pass (field_of x) (field_of y))
    (take_all c.loop-field.field-index fields c.loop-field-test.false) (c.loop-field.invariant.agree numbers)
