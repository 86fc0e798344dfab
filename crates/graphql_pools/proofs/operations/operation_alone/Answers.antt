use Rattle.std.proofs.Common.{rules, ◌≡◌, ◌∙◌, ◌∷◌, [], None, Some, ap, refl, subst, sym}
use Rattle.graphql_documents.specs.declared.documents.executables.OperationMap.{OperationMap}
use Rattle.graphql_pools.specs.Pools.{HoldsAlone, IsAlone}
use Rattle.graphql_pools.proofs.PoolLemmas.{if_ok}
use Rattle.graphql_pools.proofs.operations.operation_alone.Goals as goal

pub returns-in_ok-name-in-Some : goal.returns-in_ok-name-in-Some
returns-in_ok-name-in-Some c =
    let o = c.args.operation.now in
    let node = c.in_ok-node.node in
    let named : o.value.value.name ≡ Some c.in-Some.name = search rules in
    if_ok (λ (m : OperationMap). (m.anonymous ≡ None) × (m.named.entries ≡ (c.in_ok-name-in-Some.name, node) ∷ [])) (HoldsAlone o)
    (λ m alone. (node, c.in_ok-node.ensures.cases, subst (λ n. IsAlone n node m) (sym named) (alone.0, alone.1 ∙ ap (λ n. (n, node) ∷ []) c.in_ok-name-in-Some.ensures)))
    c.named_alone.result c.named_alone.ensures

pub returns-in-None : goal.returns-in-None
returns-in-None c =
    let o = c.args.operation.now in
    let node = c.in_ok-node.node in
    let none : o.value.value.name ≡ None = search rules in
    let m : OperationMap = record { anonymous = Some node; named = c.with_hasher.result } in
    (node, c.in_ok-node.ensures.cases, subst (λ n. IsAlone n node m) (sym none) (refl, c.with_hasher.ensures.empty))
