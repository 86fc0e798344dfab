use Rattle.std.proofs.Common.{◌∷◌, [], subst, sym}
use Rattle.graphql_documents.specs.declared.documents.executables.Fragment.{Fragment}
use Rattle.graphql_pools.specs.Pools.{AddsIfNew, Borrows}
use Rattle.graphql_pools.proofs.PoolLemmas.{borrows_none, borrows_one, on_ok}
use Rattle.graphql_pools.proofs.fragments.borrow_fragment.Goals as goal

pub returns-in-Some : goal.returns-in-Some
returns-in-Some c =
    let pool = c.args.pool.now in
    let name = c.args.name.now in
    let old = c.args.fragments.now.entries in
    let new = c.add_if_new.new.fragments.entries in
    let d = c.in-Some.fragment.now in
    on_ok (AddsIfNew c.deref.result.now.name d old new) (Borrows pool (name ∷ []) old new)
    (λ adds. borrows_one pool name d old new (sym c.in-Some.ensures.value) (subst (λ (f : Fragment). AddsIfNew f.name d old new) c.deref.ensures adds))
    c.add_if_new.result c.add_if_new.ensures

pub returns-in-None : goal.returns-in-None
returns-in-None c = borrows_none c.args.pool.now c.args.name.now c.args.fragments.now.entries (sym c.in-None.ensures.value)
