use Rattle.std.proofs.Common.{◌≡◌, ◌+◌, Contains, inl, inr, refl, subst, take, true, ap, ◌∙◌, arith}
use Rattle.std.specs.Prelude.{MatchOption}
use Rattle.std.proofs.lemmas.List.{take_all}
use Rattle.graphql_documents.proofs.ListLemmas.{more_is}
use Rattle.graphql_merging.specs.Groups.{pass_of}
use Rattle.graphql_pair_merging.specs.FieldGroups.{has_name}
use Rattle.graphql_pair_merging.specs.Pairs.{Finds, Settles, lists_at}
use Rattle.graphql_pair_merging.specs.declared.field_groups.GroupedBy.TheVariants.{ParentType}
use Rattle.graphql_pair_merging.proofs.GroupLemmas.{all_among, among_more, is_among, none_among}
use Rattle.graphql_pair_merging.proofs.SettleLemmas.{settles_next, settles_nothing, settles_words}
use Rattle.graphql_pair_merging.proofs.pairs.PairPass.look_with_parents.Goals as goal

pub loop-parent-init : goal.loop-parent-init
loop-parent-init g c =
    record {
      settles = λ fields key grouped first_is named.
          settles_nothing c.args.self.now.schema.now (pass_of c.args.self.now.pass) fields (λ x y. Contains c.args.first.now x × (Contains fields y × (is_among ParentType (take 0 c.args.parents.now) y ≡ true)))
          (lists_at c.args.waiting.now.items) (λ x y p put. none_among ParentType y p.1.1);
      most = refl;
      cost = omega arith;
    }

pub returns-in-Some-clause-found : goal.returns-in-Some-clause-found
returns-in-Some-clause-found g c fields key grouped first_is named =
    let schema = c.args.self.now.schema.now in
    let pass = pass_of c.args.self.now.pass in
    subst (λ o. MatchOption o
    (Settles schema pass fields (λ x y. Contains c.args.first.now x × (Contains fields y × (has_name ParentType c.parent-item.result.now y ≡ true))) (lists_at c.loop-parent.waiting.items)
    (lists_at c.look_with_parent.new.waiting.items)) (Finds schema pass fields fields))
    c.in-Some.is (c.in_ok-conflict.ensures.found fields key grouped first_is)

pub loop-parent-preserved : goal.loop-parent-preserved
loop-parent-preserved g c = record {
  settles = λ fields key grouped first_is named.
      let schema = c.args.self.now.schema.now in
      let pass = pass_of c.args.self.now.pass in
      let first = c.args.first.now in
      let names = c.args.parents.now in
      let i = c.loop-parent.parent-index in
      let name = c.parent-item.result in
      let mid = lists_at c.loop-parent.waiting.items in
      let new = lists_at c.look_with_parent.new.waiting.items in
      let step = subst (λ o. MatchOption o (Settles schema pass fields (λ x y. Contains first x × (Contains fields y × (has_name ParentType name.now y ≡ true))) mid new) (Finds schema pass fields fields)) c.in_default.is
      (c.in_ok-conflict.ensures.found fields key grouped first_is) in
      settles_next schema pass fields (λ x y. Contains first x × (Contains fields y × (is_among ParentType (take i names) y ≡ true))) (λ x y. Contains first x × (Contains fields y × (has_name ParentType name.now y ≡ true)))
      (λ x y. Contains first x × (Contains fields y × (is_among ParentType (take (i + 1) names) y ≡ true))) (lists_at c.args.waiting.now.items) mid new (c.loop-parent.invariant.settles fields key grouped first_is named) step
      (λ x y p put. elim (among_more ParentType (take i names) (take (i + 1) names) name y (more_is names i name c.loop-parent-test.true c.parent-item.is) p.1.1) [
        | inl before ↦ inl (p.0, (p.1.0, before))
        | inr here ↦ inr (p.0, (p.1.0, here))
      ]);
  most = c.look_with_parent.ensures.most ∙ c.loop-parent.invariant.most;
  cost = omega (arith, c.loop-parent.invariant.cost, c.take.ensures, c.look_with_parent.ensures.cost);
}

pub returns-clause-found : goal.returns-clause-found
returns-clause-found g c fields key grouped first_is named =
    let first = c.args.first.now in
    let names = c.args.parents.now in
    settles_words c.args.self.now.schema.now (pass_of c.args.self.now.pass) fields (λ x y. Contains first x × (Contains fields y × (is_among ParentType (take c.loop-parent.parent-index names) y ≡ true)))
    (λ x y. Contains first x × Contains fields y) (lists_at c.args.waiting.now.items) (lists_at c.loop-parent.waiting.items)
    (λ x y both put. (both.0, (both.1, ap (λ l. is_among ParentType l y) (take_all c.loop-parent.parent-index names c.loop-parent-test.false ∙ named) ∙ all_among ParentType fields c.args.groups.now.entries grouped y both.1)))
    (c.loop-parent.invariant.settles fields key grouped first_is named)
