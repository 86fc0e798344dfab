-- What copies of types can be used for.
use Rattle.std.proofs.Common.{◌≡◌, ◌∙◌, ◌&&◌, Bool, true, false, not, ap₂, refl, sym}
use Rattle.graphql_nodes.specs.Names.{same_name}
use Rattle.graphql_documents.specs.TypeReferences.{IsTypeCopy, TypeText, as_written, is_assignable, list_text, name_text, non_null_list_text, non_null_name_text, same_type}
use Rattle.graphql_documents.specs.declared.documents.type_references.Type.{«Type»}
use Rattle.graphql_documents.specs.declared.documents.type_references.Type.TheVariants.{Named, NonNullNamed, List', NonNullList'}

-- the same of types as written
abbrev assignable : TypeText → TypeText → Bool
assignable (name_text a) (name_text b) = same_name a b
assignable (non_null_name_text a) (name_text b) = same_name a b
assignable (non_null_name_text a) (non_null_name_text b) = same_name a b
assignable (list_text a) (list_text b) = assignable a b
assignable (non_null_list_text a) (list_text b) = assignable a b
assignable (non_null_list_text a) (non_null_list_text b) = assignable a b
assignable _ _ = false

assignable_as_written : (a b : «Type») → is_assignable a b ≡ assignable (as_written a) (as_written b)
assignable_as_written (Named a) (Named b) = refl
assignable_as_written (NonNullNamed a) (Named b) = refl
assignable_as_written (NonNullNamed a) (NonNullNamed b) = refl
assignable_as_written (List' place a) (List' other b) = assignable_as_written a b
assignable_as_written (NonNullList' place a) (List' other b) = assignable_as_written a b
assignable_as_written (NonNullList' place a) (NonNullList' other b) = assignable_as_written a b
assignable_as_written _ _ = refl

pub assignable_copies : (a b c d : «Type») → IsTypeCopy a c → IsTypeCopy b d → is_assignable c d ≡ is_assignable a b
assignable_copies a b c d first second = assignable_as_written c d ∙ ap₂ assignable first second ∙ sym (assignable_as_written a b)

pub assignable_same : (a b : «Type») → same_type a b ≡ true → is_assignable a b ≡ true
assignable_same (Named a) (Named b) same = same
assignable_same (NonNullNamed a) (NonNullNamed b) same = same
assignable_same (List' place a) (List' other b) same = assignable_same a b same
assignable_same (NonNullList' place a) (NonNullList' other b) same = assignable_same a b same
assignable_same _ _ same = absurd (let no : ⊥ = cc in no)

pub second_false : (p q : Bool) → (p && q) ≡ false → p ≡ true → q ≡ false
second_false true q e is = e
second_false false q e is = absurd (let no : ⊥ = cc in no)

pub first_false : (p q : Bool) → (p && q) ≡ false → q ≡ true → p ≡ false
first_false true q e is = absurd (let no : ⊥ = cc in no)
first_false false q e is = refl

pub not_false : (b : Bool) → not b ≡ false → b ≡ true
not_false true e = refl
not_false false e = absurd (let no : ⊥ = cc in no)
