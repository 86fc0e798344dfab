-- What rules ask of a reference to a type is said by how it is written.
use Rattle.std.proofs.Common.{◌≡◌, ◌∙◌, Bool, true, false, refl, sym, ap, ap₂}
use Rattle.graphql_nodes.specs.Names.{NameText, same_name}
use Rattle.graphql_documents.specs.TypeReferences.{TypeText, as_written, inner_named_type, is_assignable, is_list, is_non_null, item_type, list_text, name_text, non_null_list_text, non_null_name_text, nullable, same_type}
use Rattle.graphql_documents.specs.declared.documents.type_references.Type.{«Type»}
use Rattle.graphql_documents.specs.declared.documents.type_references.Type.TheVariants.{Named, NonNullNamed, List', NonNullList'}

abbrev name_within : TypeText → NameText
name_within (name_text name) = name
name_within (non_null_name_text name) = name
name_within (list_text item) = name_within item
name_within (non_null_list_text item) = name_within item

abbrev no_null : TypeText → Bool
no_null (name_text name) = false
no_null (non_null_name_text name) = true
no_null (list_text item) = false
no_null (non_null_list_text item) = true

abbrev lists : TypeText → Bool
lists (list_text item) = true
lists (non_null_list_text item) = true
lists _ = false

abbrev item_text : TypeText → TypeText
item_text (list_text item) = item
item_text (non_null_list_text item) = item
item_text named = named

abbrev nullable_text : TypeText → TypeText
nullable_text (non_null_name_text name) = name_text name
nullable_text (non_null_list_text item) = list_text item
nullable_text text = text

abbrev assignable : TypeText → TypeText → Bool
assignable (name_text a) (name_text b) = same_name a b
assignable (non_null_name_text a) (name_text b) = same_name a b
assignable (non_null_name_text a) (non_null_name_text b) = same_name a b
assignable (list_text a) (list_text b) = assignable a b
assignable (non_null_list_text a) (list_text b) = assignable a b
assignable (non_null_list_text a) (non_null_list_text b) = assignable a b
assignable _ _ = false

abbrev one_text : TypeText → TypeText → Bool
one_text (name_text a) (name_text b) = same_name a b
one_text (non_null_name_text a) (non_null_name_text b) = same_name a b
one_text (list_text a) (list_text b) = one_text a b
one_text (non_null_list_text a) (non_null_list_text b) = one_text a b
one_text _ _ = false

name_is : (ty : «Type») → inner_named_type ty ≡ name_within (as_written ty)
name_is (Named name) = refl
name_is (NonNullNamed name) = refl
name_is (List' place item) = name_is item
name_is (NonNullList' place item) = name_is item

no_null_is : (ty : «Type») → is_non_null ty ≡ no_null (as_written ty)
no_null_is (Named name) = refl
no_null_is (NonNullNamed name) = refl
no_null_is (List' place item) = refl
no_null_is (NonNullList' place item) = refl

lists_is : (ty : «Type») → is_list ty ≡ lists (as_written ty)
lists_is (Named name) = refl
lists_is (NonNullNamed name) = refl
lists_is (List' place item) = refl
lists_is (NonNullList' place item) = refl

item_is : (ty : «Type») → as_written (item_type ty) ≡ item_text (as_written ty)
item_is (Named name) = refl
item_is (NonNullNamed name) = refl
item_is (List' place item) = refl
item_is (NonNullList' place item) = refl

nullable_is : (ty : «Type») → as_written (nullable ty) ≡ nullable_text (as_written ty)
nullable_is (Named name) = refl
nullable_is (NonNullNamed name) = refl
nullable_is (List' place item) = refl
nullable_is (NonNullList' place item) = refl

assignable_is : (a b : «Type») → is_assignable a b ≡ assignable (as_written a) (as_written b)
assignable_is (Named a) (Named b) = refl
assignable_is (Named a) (NonNullNamed b) = refl
assignable_is (Named a) (List' other b) = refl
assignable_is (Named a) (NonNullList' other b) = refl
assignable_is (NonNullNamed a) (Named b) = refl
assignable_is (NonNullNamed a) (NonNullNamed b) = refl
assignable_is (NonNullNamed a) (List' other b) = refl
assignable_is (NonNullNamed a) (NonNullList' other b) = refl
assignable_is (List' place a) (Named b) = refl
assignable_is (List' place a) (NonNullNamed b) = refl
assignable_is (List' place a) (List' other b) = assignable_is a b
assignable_is (List' place a) (NonNullList' other b) = refl
assignable_is (NonNullList' place a) (Named b) = refl
assignable_is (NonNullList' place a) (NonNullNamed b) = refl
assignable_is (NonNullList' place a) (List' other b) = assignable_is a b
assignable_is (NonNullList' place a) (NonNullList' other b) = assignable_is a b

same_type_is : (a b : «Type») → same_type a b ≡ one_text (as_written a) (as_written b)
same_type_is (Named a) (Named b) = refl
same_type_is (Named a) (NonNullNamed b) = refl
same_type_is (Named a) (List' other b) = refl
same_type_is (Named a) (NonNullList' other b) = refl
same_type_is (NonNullNamed a) (Named b) = refl
same_type_is (NonNullNamed a) (NonNullNamed b) = refl
same_type_is (NonNullNamed a) (List' other b) = refl
same_type_is (NonNullNamed a) (NonNullList' other b) = refl
same_type_is (List' place a) (Named b) = refl
same_type_is (List' place a) (NonNullNamed b) = refl
same_type_is (List' place a) (List' other b) = same_type_is a b
same_type_is (List' place a) (NonNullList' other b) = refl
same_type_is (NonNullList' place a) (Named b) = refl
same_type_is (NonNullList' place a) (NonNullNamed b) = refl
same_type_is (NonNullList' place a) (List' other b) = refl
same_type_is (NonNullList' place a) (NonNullList' other b) = same_type_is a b

pub one_name : (a b : «Type») → as_written a ≡ as_written b → inner_named_type a ≡ inner_named_type b
one_name a b e = name_is a ∙ ap name_within e ∙ sym (name_is b)

pub one_null : (a b : «Type») → as_written a ≡ as_written b → is_non_null a ≡ is_non_null b
one_null a b e = no_null_is a ∙ ap no_null e ∙ sym (no_null_is b)

pub both_lists : (a b : «Type») → as_written a ≡ as_written b → is_list a ≡ is_list b
both_lists a b e = lists_is a ∙ ap lists e ∙ sym (lists_is b)

pub one_item : (a b : «Type») → as_written a ≡ as_written b → as_written (item_type a) ≡ as_written (item_type b)
one_item a b e = item_is a ∙ ap item_text e ∙ sym (item_is b)

pub one_nullable : (a b : «Type») → as_written a ≡ as_written b → as_written (nullable a) ≡ as_written (nullable b)
one_nullable a b e = nullable_is a ∙ ap nullable_text e ∙ sym (nullable_is b)

pub both_assignable : (a b c d : «Type») → as_written a ≡ as_written c → as_written b ≡ as_written d → is_assignable a b ≡ is_assignable c d
both_assignable a b c d e f = assignable_is a b ∙ ap₂ assignable e f ∙ sym (assignable_is c d)

pub both_same_type : (a b c d : «Type») → as_written a ≡ as_written c → as_written b ≡ as_written d → same_type a b ≡ same_type c d
both_same_type a b c d e f = same_type_is a b ∙ ap₂ one_text e f ∙ sym (same_type_is c d)
