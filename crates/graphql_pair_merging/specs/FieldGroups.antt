-- The fields of numbered sets by their response keys, or by their parents.
use Rattle.std.specs.Prelude.{◌≡◌, ◌≢◌, ◌⊎◌, Bool, Contains, List, [], Option, None, Some, Vec, filter, map}
use Rattle.std.specs.Borrow.{Bor}
use Rattle.std.specs.Map.{lookup}
use Rattle.std.specs.declared.alloc.Global.{Global}
use Rattle.graphql_nodes.specs.Names.{NameText, same_name}
use Rattle.graphql_specification.specs.MergedSets.{key_of}
use Rattle.graphql_pair_merging.specs.NumberedSets.{field_of}
use Rattle.graphql_pair_merging.specs.declared.field_groups.GroupedBy.{GroupedBy}
use Rattle.graphql_pair_merging.specs.declared.field_groups.GroupedBy.TheVariants.{ParentType, ResponseKey}
use Rattle.graphql_pair_merging.specs.declared.numbered_sets.NumberedField.{NumberedField}

-- names, each with fields
abbrev pub Groups : Type 0
Groups = List (Bor NameText × Vec NumberedField Global)

-- the fields of a group, if it is there
abbrev pub fields_in : Option (Vec NumberedField Global) → List NumberedField
fields_in None = []
fields_in (Some fields) = fields.items

-- the fields under a name
abbrev pub group_under : Groups → NameText → List NumberedField
group_under groups name = fields_in (lookup (λ key. same_name name key.now) groups)

-- the names
abbrev pub names_in : Groups → List (Bor NameText)
names_in groups = map (λ entry. entry.0) groups

-- the name by which a field is grouped
abbrev pub name_by : GroupedBy → NumberedField → NameText
name_by ResponseKey x = key_of (field_of x)
name_by ParentType x = (field_of x).parent

-- the field has this name
abbrev pub has_name : GroupedBy → NameText → NumberedField → Bool
has_name by name x = same_name (name_by by x) name

-- under each name are the fields that have it, in order
abbrev pub IsGrouped : GroupedBy → List NumberedField → Groups → Type 0
IsGrouped by fields groups = (name : NameText) → group_under groups name ≡ filter (has_name by name) fields

-- these are the fields with one name
abbrev pub IsGroupOf : GroupedBy → List NumberedField → List NumberedField → Type 0
IsGroupOf by fields group = (name : NameText) × (group ≡ filter (has_name by name) fields)

-- those of the other fields came to the old ones under whose name there are fields in the groups, and perhaps more of them
pub record AddsNamed (by : GroupedBy) (groups : Groups) (others old new : List NumberedField) : Type 0 where
  pub kept : (x : NumberedField) → Contains old x → Contains new x
  pub added : (x : NumberedField) → Contains new x → Contains old x ⊎ Contains others x
  pub all : (x : NumberedField) → Contains others x → group_under groups (name_by by x) ≢ [] → Contains new x
