-- Fields under names, in the order of the names' first fields: how the groups of a list are made.
use Rattle.std.specs.Prelude.{List, [], ◌∷◌, ◌++◌, Option, None, Some, map, unwrap_or, Vec}
use Rattle.std.specs.Borrow.{Bor}
use Rattle.std.specs.Map.{lookup}
use Rattle.std.specs.declared.alloc.Global.{Global}
use Rattle.indexmap.specs.IndexMap.{insert_entry}
use Rattle.graphql_specification.specs.MergedSets as merged_sets
use Rattle.graphql_specification.specs.MergedSets.{key_of, keys_of, object_name, objects_of, under_key}
use Rattle.graphql_specification.specs.Merging as merging
use Rattle.graphql_nodes.specs.Names.{NameText, same_name}
use Rattle.graphql_documents.specs.Schemas.{type_definition}
use Rattle.graphql_documents.specs.declared.documents.schemas.Schema.{Schema}
use Rattle.graphql_field_conflicts.specs.FieldSelections.{listed}
use Rattle.graphql_field_conflicts.specs.declared.field_selections.FieldSelection.{FieldSelection}
use Rattle.graphql_merging.specs.declared.groups.Pass.{Pass}
use Rattle.graphql_merging.specs.declared.groups.Pass.TheVariants.{Shapes, NamesAndArguments}

-- the pass of the definitions
abbrev pub pass_of : Pass → merging.Pass
pass_of Shapes = merging.shape_pass
pass_of NamesAndArguments = merging.field_pass

-- names, each with fields
abbrev pub NamedFields : Type 0
NamedFields = List (NameText × List merging.FieldSelection)

-- the entries of a map of lists of fields, as names with fields
abbrev pub named_fields : List (Bor NameText × Vec FieldSelection Global) → NamedFields
named_fields entries = map (λ entry. (entry.0.now, listed entry.1.items)) entries

-- the fields under each name
abbrev pub fields_under : NamedFields → List (List merging.FieldSelection)
fields_under known = map (λ entry. entry.1) known

-- with the field behind those under the name
abbrev pub with_field : NamedFields → NameText → merging.FieldSelection → NamedFields
with_field known name x = insert_entry same_name known name (unwrap_or (lookup (same_name name) known) [] ++ x ∷ [])

-- with the field under the name, if there is one
abbrev pub with_field_if : NamedFields → Option NameText → merging.FieldSelection → NamedFields
with_field_if known None x = known
with_field_if known (Some name) x = with_field known name x

-- the fields of a list by their response keys
abbrev pub by_keys : List merging.FieldSelection → NamedFields
by_keys fields = map (λ key. (key, under_key key fields)) (keys_of fields)

-- those on object types, by the own names of these
abbrev pub by_objects : Schema → List merging.FieldSelection → NamedFields
by_objects schema fields =
    map (λ name. (name, merged_sets.with_parents schema (merged_sets.is_object_named name) fields)) (objects_of schema fields)

-- with the field under its response key
abbrev pub with_keyed : NamedFields → merging.FieldSelection → NamedFields
with_keyed known x = with_field known (key_of x) x

-- with the field under the object type on which it is, if it is one
abbrev pub with_owned : Schema → NamedFields → merging.FieldSelection → NamedFields
with_owned schema known x = with_field_if known (object_name (type_definition schema x.parent)) x
