-- Whether the parents of two fields may overlap, by the types that were found.
use Rattle.std.proofs.Common.{◌≡◌, ◌↔◌, Bool, true, None, Option, Some, is_some, refl, subst, IsTrue}
use Rattle.graphql_documents.specs.Schemas.{type_definition}
use Rattle.graphql_documents.specs.declared.documents.schemas.ExtendedType.{ExtendedType}
use Rattle.graphql_documents.specs.declared.documents.schemas.Schema.{Schema}
use Rattle.graphql_specification.specs.Merging.{FieldSelection, MayOverlap, ParentsMayOverlap}
use Rattle.graphql_pair_merging.proofs.PlaceLemmas.{one_at}

pub parents_overlap : (schema : Schema) (a b : FieldSelection) (x y : ExtendedType) (r : Bool) →
    type_definition schema a.parent ≡ Some x → type_definition schema b.parent ≡ Some y → IsTrue r ↔ MayOverlap x y → IsTrue r ↔ ParentsMayOverlap schema a b
parents_overlap schema a b x y r first second is = (
  λ e. record { first = x; second = y; first_is = first; second_is = second; overlap = is.0 e },
  λ p. is.1 (subst (λ t. MayOverlap t y) (one_at (type_definition schema a.parent) p.first x p.first_is first)
      (subst (λ t. MayOverlap p.first t) (one_at (type_definition schema b.parent) p.second y p.second_is second) p.overlap)),
)

pub some_of : {X : Type 0} (o : Option X) → is_some o ≡ true → (x : X) × (o ≡ Some x)
some_of (Some x) is = (x, refl)
some_of None is = absurd (let no : ⊥ = cc in no)
