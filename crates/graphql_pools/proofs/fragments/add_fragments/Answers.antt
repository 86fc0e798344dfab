use Rattle.std.proofs.Common.{◌≡◌, ◌∙◌, ◌∷◌, ◌++◌, [], ap, refl, subst, sym}
use Rattle.std.proofs.lemmas.List.{append-nil}
use Rattle.graphql_documents.proofs.ListLemmas.{done_next}
use Rattle.graphql_pools.specs.Pools.{Entry, Gathers, HasFirst}
use Rattle.graphql_pools.proofs.FirstLemmas.{first_of_nothing, first_of_one, first_then}
use Rattle.graphql_pools.proofs.PoolLemmas.{gathers_nothing, gathers_one, gathers_then}
use Rattle.graphql_pools.proofs.fragments.add_fragments.Goals as goal

pub loop-name-init : goal.loop-name-init
loop-name-init c = ([], refl, gathers_nothing c.args.fragments.now.entries, first_of_nothing c.args.fragments.now.entries)

pub loop-name-preserved : goal.loop-name-preserved
loop-name-preserved c =
    let before = c.loop-name.invariant in
    let x : Entry = (c.in-Some.name.now, c.in-Some.fragment.now) in (
      before.0 ++ x ∷ [],
      done_next _ before.0 c.loop-name.name-iterator c.next.new.self x before.1 c.in-Some.ensures.steps,
      gathers_then before.0 (x ∷ []) c.args.fragments.now.entries c.loop-name.fragments.entries c.add_if_new.new.fragments.entries before.2
          (gathers_one x.0 x.1 c.loop-name.fragments.entries c.add_if_new.new.fragments.entries c.in_ok-add_if_new.ensures),
      first_then before.0 (x ∷ []) c.args.fragments.now.entries c.loop-name.fragments.entries c.add_if_new.new.fragments.entries before.3
          (first_of_one x.0 x.1 c.loop-name.fragments.entries c.add_if_new.new.fragments.entries c.in_ok-add_if_new.ensures),
    )

pub returns : goal.returns
returns c =
    let before = c.loop-name.invariant in
    let all = c.into_iter-name-iterator.ensures.into_iter_gives.0 in
    let done = sym all ∙ before.1 ∙ ap (λ l. before.0 ++ l) c.in-None.ensures.steps.0 ∙ append-nil before.0 in
    record {
      gathers = subst (λ l. Gathers l c.args.fragments.now.entries c.loop-name.fragments.entries) (sym done) before.2;
      first = subst (λ l. HasFirst l c.args.fragments.now.entries c.loop-name.fragments.entries) (sym done) before.3;
    }
