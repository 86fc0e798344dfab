-- The first of two options that are related, where the second is there.
use Rattle.std.proofs.Common.{◌≡◌, Option, None, Some, refl, subst}
use Rattle.graphql_documents.specs.Contents.{SameIfAny}

pub turned_side : {X : Type 0} (R : X → X → Type 0) (o p : Option X) (y : X) → SameIfAny R o p → p ≡ Some y → (x : X) × (o ≡ Some x) × R x y
turned_side R None None y same e = absurd (let h : ⊥ = cc in h)
turned_side R None (Some z) y same e = absurd same
turned_side R (Some x) None y same e = absurd same
turned_side R (Some x) (Some z) y same e = let here : z ≡ y = cc in (x, refl, subst (R x) here same)
