-- The map of implementers, as contracts see it, and how it is made type by type. Specification: 3.7 Interfaces
use Rattle.std.specs.Prelude.{map, List, [], if◌then◌else◌, unwrap_or}
use Rattle.std.specs.Borrow.{Bor}
use Rattle.std.specs.Map.{lookup}
use Rattle.indexmap.specs.IndexMap.{insert_entry}
use Rattle.graphql_documents.specs.Schemas.{ImplementerNames, interfaces_of, is_interface_type, is_object_type, own_name}
use Rattle.graphql_nodes.specs.Names.{NameText, with_name, same_name}
use Rattle.graphql_documents.specs.declared.documents.implementers.Implementers.{Implementers}
use Rattle.graphql_documents.specs.declared.documents.schemas.ExtendedType.{ExtendedType}

-- the names of implementers
abbrev pub implementer_names : Implementers → ImplementerNames
implementer_names implementers = record {
  objects = map (λ name. name.now) implementers.objects.keys;
  interfaces = map (λ name. name.now) implementers.interfaces.keys;
}

-- the entries of a map of implementers, as names
abbrev pub implementer_entries : List (Bor NameText × Implementers) → List (NameText × ImplementerNames)
implementer_entries entries = map (λ entry. (entry.0.now, implementer_names entry.1)) entries

-- an interface's name, with a type that lists it
abbrev pub Listing : Type 0
Listing = NameText × ExtendedType

-- each interface that a type lists, with the type
abbrev pub listings_of : ExtendedType → List Listing
listings_of d = map (λ listed. (listed.name, d)) (interfaces_of d)

-- what implements nothing that was visited
abbrev pub no_implementers : ImplementerNames
no_implementers = record { objects = []; interfaces = [] }

-- with the type among those of its kind
abbrev pub with_own_name : ImplementerNames → ExtendedType → ImplementerNames
with_own_name names d = record {
  objects = if is_object_type d then with_name names.objects (own_name d) else names.objects;
  interfaces = if is_interface_type d then with_name names.interfaces (own_name d) else names.interfaces;
}

-- with the type among the implementers of the interface
abbrev pub with_implementer : List (NameText × ImplementerNames) → Listing → List (NameText × ImplementerNames)
with_implementer known listing =
    insert_entry same_name known listing.0
    (with_own_name (unwrap_or (lookup (same_name listing.0) known) no_implementers) listing.1)
