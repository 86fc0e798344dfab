use Rattle.std.proofs.Common.{◌≡◌, ◌+◌, inl, inr, refl, subst, take, true, ap, ◌∙◌, arith}
use Rattle.std.specs.Prelude.{MatchOption}
use Rattle.std.proofs.lemmas.List.{take_all}
use Rattle.graphql_documents.proofs.ListLemmas.{more_is}
use Rattle.graphql_merging.specs.Groups.{pass_of}
use Rattle.graphql_pair_merging.specs.FieldGroups.{has_name}
use Rattle.graphql_pair_merging.specs.Pairs.{Both, Finds, Settles, lists_at}
use Rattle.graphql_pair_merging.specs.declared.field_groups.GroupedBy.TheVariants.{ResponseKey}
use Rattle.graphql_pair_merging.proofs.GroupLemmas.{all_among, among_more, is_among, none_among}
use Rattle.graphql_pair_merging.proofs.SettleLemmas.{settles_next, settles_nothing, settles_words}
use Rattle.graphql_pair_merging.proofs.pairs.PairPass.look_by_keys.Goals as goal

pub loop-key-init : goal.loop-key-init
loop-key-init g c =
    record {
      settles = λ fields numbers grouped named.
          settles_nothing c.args.self.now.schema.now (pass_of c.args.self.now.pass) fields (λ x y. Both fields x y × (is_among ResponseKey (take 0 c.args.keys.now) x ≡ true)) (lists_at c.args.waiting.now.items)
          (λ x y p put. none_among ResponseKey x p.1);
      most = refl;
      cost = omega arith;
    }

pub returns-in-Some-clause-found : goal.returns-in-Some-clause-found
returns-in-Some-clause-found g c fields numbers grouped named =
    let schema = c.args.self.now.schema.now in
    let pass = pass_of c.args.self.now.pass in
    subst (λ o. MatchOption o
    (Settles schema pass fields (λ x y. Both fields x y × (has_name ResponseKey c.key-item.result.now x ≡ true)) (lists_at c.loop-key.waiting.items) (lists_at c.look_under_name.new.waiting.items)) (Finds schema pass fields fields))
    c.in-Some.is (c.in_ok-conflict.ensures.found fields numbers grouped)

pub loop-key-preserved : goal.loop-key-preserved
loop-key-preserved g c = record {
  settles = λ fields numbers grouped named.
      let schema = c.args.self.now.schema.now in
      let pass = pass_of c.args.self.now.pass in
      let names = c.args.keys.now in
      let i = c.loop-key.key-index in
      let name = c.key-item.result in
      let mid = lists_at c.loop-key.waiting.items in
      let new = lists_at c.look_under_name.new.waiting.items in
      let step = subst (λ o. MatchOption o (Settles schema pass fields (λ x y. Both fields x y × (has_name ResponseKey name.now x ≡ true)) mid new) (Finds schema pass fields fields)) c.in_default.is
      (c.in_ok-conflict.ensures.found fields numbers grouped) in
      settles_next schema pass fields (λ x y. Both fields x y × (is_among ResponseKey (take i names) x ≡ true)) (λ x y. Both fields x y × (has_name ResponseKey name.now x ≡ true))
      (λ x y. Both fields x y × (is_among ResponseKey (take (i + 1) names) x ≡ true)) (lists_at c.args.waiting.now.items) mid new (c.loop-key.invariant.settles fields numbers grouped named) step
      (λ x y p put. elim (among_more ResponseKey (take i names) (take (i + 1) names) name x (more_is names i name c.loop-key-test.true c.key-item.is) p.1) [
        | inl before ↦ inl (p.0, before)
        | inr here ↦ inr (p.0, here)
      ]);
  most = c.look_under_name.ensures.most ∙ c.loop-key.invariant.most;
  cost = omega (arith, c.loop-key.invariant.cost, c.take.ensures, c.look_under_name.ensures.cost);
}

pub returns-clause-found : goal.returns-clause-found
returns-clause-found g c fields numbers grouped named =
    let names = c.args.keys.now in
    settles_words c.args.self.now.schema.now (pass_of c.args.self.now.pass) fields (λ x y. Both fields x y × (is_among ResponseKey (take c.loop-key.key-index names) x ≡ true)) (Both fields) (lists_at c.args.waiting.now.items)
    (lists_at c.loop-key.waiting.items)
    (λ x y both put. (both, ap (λ l. is_among ResponseKey l x) (take_all c.loop-key.key-index names c.loop-key-test.false ∙ named) ∙ all_among ResponseKey fields c.args.groups.now.entries grouped x both.0))
    (c.loop-key.invariant.settles fields numbers grouped named)
