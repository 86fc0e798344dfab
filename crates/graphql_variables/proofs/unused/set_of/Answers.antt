use Rattle.std.proofs.Common.{[], ◌≡◌, ◌↔◌, ◌+◌, take, sym, subst}
use Rattle.std.proofs.lemmas.List.{take_all}
use Rattle.graphql_nodes.specs.Names.{NameText}
use Rattle.graphql_variables.specs.Uses.{IsNamedIn, names_of}
use Rattle.graphql_variables.proofs.NameSetLemmas.{named_more}
use Rattle.graphql_variables.proofs.unused.set_of.Goals as goal

pub loop-name-init : goal.loop-name-init
loop-name-init c = λ n.
    let none : c.with_hasher-set.result.keys ≡ [] = c.with_hasher-set.ensures.empty in
    subst (λ keys. IsNamedIn (names_of keys) n ↔ IsNamedIn [] n) (sym none) (λ h. h, λ h. h)

pub loop-name-preserved : goal.loop-name-preserved
loop-name-preserved c =
    subst (λ keys. (n : NameText) → IsNamedIn (names_of keys) n ↔ IsNamedIn (names_of (take (c.loop-name.name-index + 1) c.args.names.now)) n)
    (sym c.in_ok-insert.ensures.keys)
    (named_more c.args.names.now c.loop-name.name-index c.name-item.result c.loop-name.set.keys c.loop-name-test.true c.name-item.is c.loop-name.invariant)

pub returns : goal.returns
returns c = λ n.
    subst (λ l. IsNamedIn (names_of c.loop-name.set.keys) n ↔ IsNamedIn (names_of l) n)
    (take_all c.loop-name.name-index c.args.names.now c.loop-name-test.false) (c.loop-name.invariant n)
