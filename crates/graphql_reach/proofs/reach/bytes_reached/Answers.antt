use Rattle.std.proofs.Common.{◌≡◌, ◌+◌, ◌∷◌, [], Bor, ℕ, arith, ap, subst, sum_by}
use Rattle.std.proofs.lemmas.List.Sums.{sum_by-cons}
use Rattle.graphql_nodes.specs.Names.{NameText}
use Rattle.graphql_documents.specs.Selections.{fragments_of}
use Rattle.graphql_documents.specs.declared.documents.executables.Operation.{Operation}
use Rattle.graphql_reach.specs.Reach.{HaveReach, bytes_at}
use Rattle.graphql_reach.specs.Reached.{ReachesNames, names_at}
use Rattle.graphql_reach.proofs.CountLemmas.{found_by_references, found_bytes, names_differ}
use Rattle.graphql_reach.proofs.ReachLemmas.{have_named}
use Rattle.graphql_reach.proofs.reach.bytes_reached.Goals as goal

pub loop-name-preserved : goal.loop-name-preserved
loop-name-preserved c =
    let found : Bor NameText → ℕ = λ name. found_bytes c.args.document.now.fragments.entries name.now in
    let next : c.loop-name.name-iterator ≡ c.in-Some.name.now ∷ c.next.new.self = c.in-Some.ensures.steps in
    omega (
      arith,
      c.in_ok-bytes.ensures,
      c.bytes_named.ensures,
      c.loop-name.invariant,
      ap (sum_by found) next,
      sum_by-cons found c.in-Some.name.now c.next.new.self,
    )

pub returns : goal.returns
returns c =
    let d = c.args.document.now in
    let o = c.args.operation.now in
    let keys = c.in_ok-names.names.keys in
    let found : Bor NameText → ℕ = λ name. found_bytes d.fragments.entries name.now in
    let reaches : ReachesNames (fragments_of d) o.value.value.selection_set (names_at keys) =
    subst (λ (x : Operation). ReachesNames (fragments_of d) x.selection_set (names_at keys)) c.deref.ensures c.in_ok-names.ensures in
    let all : c.into_iter-name-iterator.result ≡ keys = c.into_iter-name-iterator.ensures.into_iter_gives.0 in
    let bytes : bytes_at o.location + sum_by (found_bytes d.fragments.entries) (names_at keys) ≡ c.loop-name.bytes =
    omega (arith, c.loop-name.invariant, ap (sum_by found) c.in-None.ensures.steps.0, ap (sum_by found) all, found_by_references d.fragments.entries keys) in
    subst (HaveReach d (o ∷ [])) bytes
    (have_named d o (names_at keys) reaches (names_differ keys c.into_iter-name-iterator.ensures.into_iter_gives.3) c.len-count.ensures.unique)
