-- What can be used where a type is expected can be used where one is that this can be used for. Specification: 5.8.5 All Variable Usages
-- Are Allowed.
use Rattle.std.proofs.Common.{◌≡◌, refl}
use Rattle.std.specs.Prelude.{IsFalse, IsTrue}
use Rattle.graphql_nodes.specs.Names.{SameName}
use Rattle.graphql_nodes.proofs.NameLemmas.{same_name_itself, same_name_then}
use Rattle.graphql_documents.specs.TypeReferences.{inner_named_type, is_assignable, is_list, is_non_null, item_type, nullable}
use Rattle.graphql_documents.specs.declared.documents.type_references.Type.{«Type»}
use Rattle.graphql_documents.specs.declared.documents.type_references.Type.TheVariants.{Named, NonNullNamed, List', NonNullList'}

pub assignable_on : (a b c : «Type») → IsTrue (is_assignable a b) → IsTrue (is_assignable b c) → IsTrue (is_assignable a c)
assignable_on (Named a) (Named b) (Named c) p q = same_name_then a b c p q
assignable_on (NonNullNamed a) (Named b) (Named c) p q = same_name_then a b c p q
assignable_on (NonNullNamed a) (NonNullNamed b) (Named c) p q = same_name_then a b c p q
assignable_on (NonNullNamed a) (NonNullNamed b) (NonNullNamed c) p q = same_name_then a b c p q
assignable_on (List' x a) (List' y b) (List' z c) p q = assignable_on a b c p q
assignable_on (NonNullList' x a) (List' y b) (List' z c) p q = assignable_on a b c p q
assignable_on (NonNullList' x a) (NonNullList' y b) (List' z c) p q = assignable_on a b c p q
assignable_on (NonNullList' x a) (NonNullList' y b) (NonNullList' z c) p q = assignable_on a b c p q
assignable_on _ _ _ p q = absurd (let no : ⊥ = cc in no)

pub assignable_itself : (a : «Type») → IsTrue (is_assignable a a)
assignable_itself (Named a) = same_name_itself a
assignable_itself (NonNullNamed a) = same_name_itself a
assignable_itself (List' x a) = assignable_itself a
assignable_itself (NonNullList' x a) = assignable_itself a

pub non_null_before : (a b : «Type») → IsTrue (is_assignable a b) → IsTrue (is_non_null b) → IsTrue (is_non_null a)
non_null_before (NonNullNamed a) b p q = refl
non_null_before (NonNullList' x a) b p q = refl
non_null_before (Named a) (Named b) p q = absurd (let no : ⊥ = cc in no)
non_null_before (Named a) (NonNullNamed b) p q = absurd (let no : ⊥ = cc in no)
non_null_before (Named a) (List' y b) p q = absurd (let no : ⊥ = cc in no)
non_null_before (Named a) (NonNullList' y b) p q = absurd (let no : ⊥ = cc in no)
non_null_before (List' x a) (Named b) p q = absurd (let no : ⊥ = cc in no)
non_null_before (List' x a) (NonNullNamed b) p q = absurd (let no : ⊥ = cc in no)
non_null_before (List' x a) (List' y b) p q = absurd (let no : ⊥ = cc in no)
non_null_before (List' x a) (NonNullList' y b) p q = absurd (let no : ⊥ = cc in no)

pub nullable_after : (a b : «Type») → IsTrue (is_assignable a b) → IsFalse (is_non_null a) → IsFalse (is_non_null b)
nullable_after (Named a) (Named b) p q = refl
nullable_after (List' x a) (List' y b) p q = refl
nullable_after _ _ p q = absurd (let no : ⊥ = cc in no)

pub nullable_itself : (a : «Type») → IsFalse (is_non_null a) → nullable a ≡ a
nullable_itself (Named a) p = refl
nullable_itself (List' x a) p = refl
nullable_itself _ p = absurd (let no : ⊥ = cc in no)

pub nullable_assignable : (a b : «Type») → IsTrue (is_assignable a b) → IsTrue (is_assignable (nullable a) (nullable b))
nullable_assignable (Named a) (Named b) p = p
nullable_assignable (NonNullNamed a) (Named b) p = p
nullable_assignable (NonNullNamed a) (NonNullNamed b) p = p
nullable_assignable (List' x a) (List' y b) p = p
nullable_assignable (NonNullList' x a) (List' y b) p = p
nullable_assignable (NonNullList' x a) (NonNullList' y b) p = p
nullable_assignable _ _ p = absurd (let no : ⊥ = cc in no)

pub one_inner_name : (a b : «Type») → IsTrue (is_assignable a b) → SameName (inner_named_type a) (inner_named_type b)
one_inner_name (Named a) (Named b) p = p
one_inner_name (NonNullNamed a) (Named b) p = p
one_inner_name (NonNullNamed a) (NonNullNamed b) p = p
one_inner_name (List' x a) (List' y b) p = one_inner_name a b p
one_inner_name (NonNullList' x a) (List' y b) p = one_inner_name a b p
one_inner_name (NonNullList' x a) (NonNullList' y b) p = one_inner_name a b p
one_inner_name _ _ p = absurd (let no : ⊥ = cc in no)

pub assignable_items : (a b : «Type») → IsTrue (is_assignable a b) → IsTrue (is_assignable (item_type a) (item_type b))
assignable_items (Named a) (Named b) p = p
assignable_items (NonNullNamed a) (Named b) p = p
assignable_items (NonNullNamed a) (NonNullNamed b) p = p
assignable_items (List' x a) (List' y b) p = p
assignable_items (NonNullList' x a) (List' y b) p = p
assignable_items (NonNullList' x a) (NonNullList' y b) p = p
assignable_items _ _ p = absurd (let no : ⊥ = cc in no)

pub both_lists : (a b : «Type») → IsTrue (is_assignable a b) → is_list a ≡ is_list b
both_lists (Named a) (Named b) p = refl
both_lists (NonNullNamed a) (Named b) p = refl
both_lists (NonNullNamed a) (NonNullNamed b) p = refl
both_lists (List' x a) (List' y b) p = refl
both_lists (NonNullList' x a) (List' y b) p = refl
both_lists (NonNullList' x a) (NonNullList' y b) p = refl
both_lists _ _ p = absurd (let no : ⊥ = cc in no)
