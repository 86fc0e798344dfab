-- References to types. Specification: 2.11 Type References.
use Rattle.std.specs.Prelude.{Bool, true, false, ℕ, List, ◌++◌, codes, not, ◌≡◌, Option}
use Rattle.graphql_nodes.specs.Names.{NameText, same_name}
use Rattle.graphql_documents.specs.declared.documents.type_references.Type.{«Type»}
use Rattle.graphql_documents.specs.declared.documents.type_references.Type.TheVariants.{Named, NonNullNamed, List', NonNullList'}
use Rattle.graphql_nodes.specs.declared.spans.SourceSpan.{SourceSpan}
use Rattle.graphql_nodes.specs.declared.nodes.Node.{Node}

-- the name inside all list and non-null wrappers
abbrev pub inner_named_type : «Type» → NameText
inner_named_type (Named name) = name
inner_named_type (NonNullNamed name) = name
inner_named_type (List' place item) = inner_named_type item
inner_named_type (NonNullList' place item) = inner_named_type item

-- null is no value of the type
abbrev pub is_non_null : «Type» → Bool
is_non_null (Named name) = false
is_non_null (NonNullNamed name) = true
is_non_null (List' place item) = false
is_non_null (NonNullList' place item) = true

-- the type as written: a name, or an item type in brackets, and `!` where it is non-null
abbrev pub type_text : «Type» → List ℕ
type_text (Named name) = name.text
type_text (NonNullNamed name) = name.text ++ codes "!"
type_text (List' place item) = codes "[" ++ (type_text item ++ codes "]")
type_text (NonNullList' place item) = codes "[" ++ (type_text item ++ codes "]!")

-- a list of items, null or not
abbrev pub is_list : «Type» → Bool
is_list (List' place item) = true
is_list (NonNullList' place item) = true
is_list _ = false

-- a name outside any list
abbrev pub is_named : «Type» → Bool
is_named ty = not (is_list ty)

-- the type of the items of a list; of a named type, the type itself
abbrev pub item_type : «Type» → «Type»
item_type (List' place item) = item
item_type (NonNullList' place item) = item
item_type named = named

-- the type that takes null too
abbrev pub nullable : «Type» → «Type»
nullable (NonNullNamed name) = Named name
nullable (NonNullList' place item) = List' place item
nullable ty = ty

-- what is of the first type can be used where the second is expected: the names and the lists are the same, and non-null may stand for nullable.
-- Specification: 5.8.5 All Variable Usages Are Allowed
abbrev pub is_assignable : «Type» → «Type» → Bool
is_assignable (Named a) (Named b) = same_name a b
is_assignable (NonNullNamed a) (Named b) = same_name a b
is_assignable (NonNullNamed a) (NonNullNamed b) = same_name a b
is_assignable (List' place a) (List' other b) = is_assignable a b
is_assignable (NonNullList' place a) (List' other b) = is_assignable a b
is_assignable (NonNullList' place a) (NonNullList' other b) = is_assignable a b
is_assignable _ _ = false

-- the two are one type as written
abbrev pub same_type : «Type» → «Type» → Bool
same_type (Named a) (Named b) = same_name a b
same_type (NonNullNamed a) (NonNullNamed b) = same_name a b
same_type (List' place a) (List' other b) = same_type a b
same_type (NonNullList' place a) (NonNullList' other b) = same_type a b
same_type _ _ = false

-- a type as written: its wrappers, and its name with the place where this is
pub data TypeText : Type 0 where
  name_text : NameText → TypeText
  non_null_name_text : NameText → TypeText
  list_text : TypeText → TypeText
  non_null_list_text : TypeText → TypeText

abbrev pub as_written : «Type» → TypeText
as_written (Named name) = name_text name
as_written (NonNullNamed name) = non_null_name_text name
as_written (List' place item) = list_text (as_written item)
as_written (NonNullList' place item) = non_null_list_text (as_written item)

-- the second type is a copy of the first, its name at the same place
abbrev pub IsTypeCopy : «Type» → «Type» → Type 0
IsTypeCopy ty copy = as_written copy ≡ as_written ty

-- a type, and where it is written; that of the items of a list is written where the list is
pub record TypeReference : Type 0 where
  pub ty : «Type»
  pub location : Option SourceSpan

-- the type of a node, where that is
abbrev pub reference_of : Node «Type» → TypeReference
reference_of node = record { ty = node.value.value; location = node.location }

-- the type of the items of a list
abbrev pub item_reference : TypeReference → TypeReference
item_reference reference = record { ty = item_type reference.ty; location = reference.location }

-- a node that is a copy of the reference
pub record IsReferenceCopy (reference : TypeReference) (copy : Node «Type») : Type 0 where
  pub ty : IsTypeCopy reference.ty copy.value.value
  pub location : copy.location ≡ reference.location
