use Rattle.std.proofs.Common.{◌≡◌, ◌∙◌, ◌∷◌, ◌++◌, [], None, ap, sym}
use Rattle.std.specs.Map.{lookup}
use Rattle.graphql_nodes.specs.Names.{same_name}
use Rattle.graphql_pools.specs.Pools.{AddsIfNew, is_new}
use Rattle.graphql_pools.proofs.PoolLemmas.{not_some, on_ok}
use Rattle.graphql_pools.proofs.fragments.add_if_new.Goals as goal

pub returns : goal.returns
returns c =
    let name = c.args.name.now in
    let old = c.args.fragments.now.entries in
    let node = c.in_ok-fragment.fragment in
    let none : lookup (same_name name) old ≡ None = not_some (lookup (same_name name) old) (sym c.contains_key.ensures ∙ c.if-contains_key.false) in
    on_ok (c.insert_new.new.nodes.entries ≡ old ++ (c.in_ok-name.name, node) ∷ []) (AddsIfNew name c.args.fragment.now old c.insert_new.new.nodes.entries)
    (λ grown. is_new node c.in_ok-fragment.ensures.cases none (grown ∙ ap (λ n. old ++ (n, node) ∷ []) c.in_ok-name.ensures)) c.insert_new.result c.insert_new.ensures
