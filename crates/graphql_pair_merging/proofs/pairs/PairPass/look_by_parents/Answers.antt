use Rattle.std.proofs.Common.{Contains, ◌≡◌, ◌+◌, inl, inr, refl, subst, take, true, ap, ◌∙◌, arith}
use Rattle.std.specs.Prelude.{MatchOption}
use Rattle.std.proofs.lemmas.List.{take_all}
use Rattle.graphql_documents.proofs.ListLemmas.{more_is}
use Rattle.graphql_merging.specs.Groups.{pass_of}
use Rattle.graphql_specification.specs.MergedSets.{ArePutTogether}
use Rattle.graphql_pair_merging.specs.FieldGroups.{has_name, names_in}
use Rattle.graphql_pair_merging.specs.NumberedSets.{field_of}
use Rattle.graphql_pair_merging.specs.Pairs.{Both, Finds, Settles, lists_at}
use Rattle.graphql_pair_merging.specs.Parents.{IsInTurn}
use Rattle.graphql_pair_merging.specs.declared.field_groups.GroupedBy.TheVariants.{ParentType}
use Rattle.graphql_pair_merging.specs.declared.numbered_sets.NumberedField.{NumberedField}
use Rattle.graphql_pair_merging.proofs.GroupLemmas.{all_among, among_more, is_among, none_among}
use Rattle.graphql_pair_merging.proofs.SettleLemmas.{settles_either, settles_next, settles_nothing}
use Rattle.graphql_pair_merging.proofs.TurnLemmas.{in_turn}
use Rattle.graphql_pair_merging.proofs.pairs.PairPass.look_by_parents.Goals as goal

pub loop-parent-init : goal.loop-parent-init
loop-parent-init g c =
    let schema = c.args.self.now.schema.now in
    record {
      settles = λ fields key grouped named.
          settles_nothing schema (pass_of c.args.self.now.pass) fields (λ x y. Both fields x y × IsInTurn schema x y × (is_among ParentType (take 0 c.args.parents.now) x ≡ true)) (lists_at c.args.waiting.now.items)
          (λ x y p put. none_among ParentType x p.2);
      most = refl;
      cost = omega arith;
    }

pub returns-in-Some-clause-found : goal.returns-in-Some-clause-found
returns-in-Some-clause-found g c fields key grouped named =
    let schema = c.args.self.now.schema.now in
    let pass = pass_of c.args.self.now.pass in
    subst (λ o. MatchOption o
    (Settles schema pass fields (λ x y. Both fields x y × IsInTurn schema x y × (has_name ParentType c.parent-item.result.now x ≡ true)) (lists_at c.loop-parent.waiting.items) (lists_at c.look_from_parent.new.waiting.items)) (Finds schema pass fields fields))
    c.in-Some.is (c.in_ok-conflict.ensures.found fields key grouped named)

pub loop-parent-preserved : goal.loop-parent-preserved
loop-parent-preserved g c = record {
  settles = λ fields key grouped named.
      let schema = c.args.self.now.schema.now in
      let pass = pass_of c.args.self.now.pass in
      let names = c.args.parents.now in
      let i = c.loop-parent.parent-index in
      let name = c.parent-item.result in
      let mid = lists_at c.loop-parent.waiting.items in
      let new = lists_at c.look_from_parent.new.waiting.items in
      let step = subst (λ o. MatchOption o (Settles schema pass fields (λ x y. Both fields x y × IsInTurn schema x y × (has_name ParentType name.now x ≡ true)) mid new) (Finds schema pass fields fields)) c.in_default.is
      (c.in_ok-conflict.ensures.found fields key grouped named) in
      settles_next schema pass fields (λ x y. Both fields x y × IsInTurn schema x y × (is_among ParentType (take i names) x ≡ true)) (λ x y. Both fields x y × IsInTurn schema x y × (has_name ParentType name.now x ≡ true))
      (λ x y. Both fields x y × IsInTurn schema x y × (is_among ParentType (take (i + 1) names) x ≡ true)) (lists_at c.args.waiting.now.items) mid new (c.loop-parent.invariant.settles fields key grouped named) step
      (λ x y p put. elim (among_more ParentType (take i names) (take (i + 1) names) name x (more_is names i name c.loop-parent-test.true c.parent-item.is) p.2) [
        | inl before ↦ inl (p.0, p.1, before)
        | inr here ↦ inr (p.0, p.1, here)
      ]);
  most = c.look_from_parent.ensures.most ∙ c.loop-parent.invariant.most;
  cost = omega (arith, c.loop-parent.invariant.cost, c.take.ensures, c.look_from_parent.ensures.cost);
}

pub returns-clause-found : goal.returns-clause-found
returns-clause-found g c fields key grouped named =
    let schema = c.args.self.now.schema.now in
    let pass = pass_of c.args.self.now.pass in
    let names = take c.loop-parent.parent-index c.args.parents.now in
    let all : names ≡ names_in c.args.groups.now.entries = take_all c.loop-parent.parent-index c.args.parents.now c.loop-parent-test.false ∙ named in
    let among : (x : NumberedField) → Contains fields x → is_among ParentType names x ≡ true =
    λ x in'. ap (λ l. is_among ParentType l x) all ∙ all_among ParentType fields c.args.groups.now.entries grouped x in' in
    settles_either schema pass fields (λ x y. Both fields x y × IsInTurn schema x y × (is_among ParentType names x ≡ true)) (Both fields) (lists_at c.args.waiting.now.items) (lists_at c.loop-parent.waiting.items)
    (λ x y both put. elim (in_turn schema x y (subst (λ p. ArePutTogether schema p (field_of x) (field_of y)) c.requires put).1) [
      | inl first ↦ inl (both, first, among x both.0)
      | inr second ↦ inr ((both.1, both.0), second, among y both.1)
    ]) (c.loop-parent.invariant.settles fields key grouped named)
