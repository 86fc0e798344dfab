-- What is reported beside validation: lists without what validation reports.
use Rattle.std.proofs.Common.{◌≡◌, ◌↔◌, Bool, true, false, List, ◌∷◌, [], ap, refl, sym, ◌∙◌, IsTrue, true≢false}
use Rattle.std.specs.Prelude.{filter, not}
use Rattle.graphql_frontend.specs.Documents.{Without, keeps, leaves_out, of_nothing}

-- a filter leaves out what passes the test
pub without_filtered : {X : Type 0} (P : X → Type 0) (test : X → Bool) → ((x : X) → IsTrue (test x) ↔ P x) → (xs : List X) → Without P xs (filter (λ x. not (test x)) xs)
without_filtered P test w [] = of_nothing
without_filtered P test w (x ∷ xs) = by_test (test x) refl (without_filtered P test w xs) where
  by_test : (b : Bool) → test x ≡ b → Without P xs (filter (λ x. not (test x)) xs) → Without P (x ∷ xs) (filter (λ x. not (test x)) (x ∷ xs))
  by_test true is rest = rw is (leaves_out ((w x).0 is) rest)
  by_test false is rest = rw is (keeps (λ p. true≢false (sym ((w x).1 p) ∙ is)) rest)

-- nothing is left out if this holds of nothing
pub without_none : {X : Type 0} (P : X → Type 0) → ((x : X) → ¬ P x) → {xs ys : List X} → Without P xs ys → xs ≡ ys
without_none P none of_nothing = refl
without_none P none (leaves_out p rest) = absurd (none _ p)
without_none P none (keeps {x = x} n rest) = ap (λ l. x ∷ l) (without_none P none rest)
