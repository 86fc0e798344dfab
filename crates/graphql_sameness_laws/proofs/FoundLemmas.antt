-- What is found at an element of one list is found, or its like, at an element of a list that is related to it.
use Rattle.std.proofs.Common.{List}
use Rattle.std.specs.Prelude.{Any}
use Rattle.std.specs.List.{AllZip}
use Rattle.graphql_sameness_laws.proofs.ZipLemmas.{zip_contains}

pub found_too : {X U : Type 0} (R : X → X → Type 0) (P : X → Type 0) (Q : U → X → Type 0) (S : U → Type 0) → ((x y : X) → R x y → P x → (u : U) × Q u y × S u) →
    (xs ys : List X) → AllZip R xs ys → Any P xs → (u : U) × Any (Q u) ys × S u
found_too R P Q S one xs ys zip any =
    let y = zip_contains R xs ys any.1 zip (any.0, any.2, any.3) in
    let found = one any.1 y.0 y.2 any.4 in
    (found.0, (y.1.0, y.0, y.1.1, y.1.2, found.1), found.2)
