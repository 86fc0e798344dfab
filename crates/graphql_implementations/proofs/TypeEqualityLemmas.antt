-- What the equality of types compares.
use Rattle.std.proofs.Common.{◌≡◌, Bool, ◌∙◌}
use Rattle.graphql_documents.specs.TypeReferences.{same_type}
use Rattle.graphql_documents.specs.contracts.documents.type_references.TypePartialEq.TheImpl as type_impl
use Rattle.graphql_documents.specs.contracts.documents.type_references.TypePartialEq.TheImpl.Laws as type_laws
use Rattle.graphql_documents.specs.declared.documents.type_references.Type.{«Type»}
use Rattle.graphql_documents.specs.declared.documents.type_references.Type.TheVariants.{Named, NonNullNamed, List', NonNullList'}

abbrev pub equal_types : «Type» → «Type» → Bool
equal_types = type_impl.ghosts.eq

-- it compares the names and the lists, and no places
pub equality_is : (a b : «Type») → equal_types a b ≡ same_type a b
equality_is (Named a) (Named b) = type_laws.is (Named a) (Named b)
equality_is (NonNullNamed a) (NonNullNamed b) = type_laws.is (NonNullNamed a) (NonNullNamed b)
equality_is (List' place a) (List' other b) = type_laws.is (List' place a) (List' other b) ∙ equality_is a b
equality_is (NonNullList' place a) (NonNullList' other b) = type_laws.is (NonNullList' place a) (NonNullList' other b) ∙ equality_is a b
equality_is a b = type_laws.is a b
