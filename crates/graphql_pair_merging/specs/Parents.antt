-- Which types overlap with others, and which fields are compared with those on a type when it has its turn.
use Rattle.std.specs.Prelude.{◌≡◌, ◌⊎◌, Bool, true, false, Option, None, Some, not}
use Rattle.graphql_documents.specs.Schemas.{is_composite, type_definition}
use Rattle.graphql_documents.specs.declared.documents.schemas.ExtendedType.{ExtendedType}
use Rattle.graphql_documents.specs.declared.documents.schemas.ExtendedType.TheVariants.{Object}
use Rattle.graphql_documents.specs.declared.documents.schemas.Schema.{Schema}
use Rattle.graphql_nodes.specs.Names.{NameText, SameName, same_name}
use Rattle.graphql_pair_merging.specs.NumberedSets.{field_of}
use Rattle.graphql_pair_merging.specs.declared.numbered_sets.NumberedField.{NumberedField}

-- an object of the type under this name may be of a type under another name too: the type is an interface or a union, or
-- an object type with another name of its own
abbrev pub may_overlap_others : NameText → Option ExtendedType → Bool
may_overlap_others name None = false
may_overlap_others name (Some (Object d)) = not (same_name d.value.value.name name)
may_overlap_others name (Some d) = is_composite d

-- y is compared with x when the parent of x has its turn: it is on the same parent, or this parent may overlap with others
abbrev pub IsInTurn : Schema → NumberedField → NumberedField → Type 0
IsInTurn schema x y =
    SameName (field_of y).parent (field_of x).parent ⊎
    (may_overlap_others (field_of x).parent (type_definition schema (field_of x).parent) ≡ true)
