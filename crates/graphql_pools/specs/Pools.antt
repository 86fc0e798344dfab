-- Fragments of several documents, each under its name, and the document of one operation with some of them. Specification: 2.2 Document, 2.8
-- Fragments.
use Rattle.std.specs.Prelude.{◌≡◌, ⊤, List, [], ◌∷◌, ◌++◌, Option, None, Some, IsSome, All, Contains, flat_map, map}
use Rattle.std.specs.List.{AllZip}
use Rattle.std.specs.Map.{lookup}
use Rattle.indexmap.specs.IndexMap.{IsUnique}
use Rattle.graphql_nodes.specs.Names.{AreDistinct, NameText, same_name}
use Rattle.graphql_nodes.specs.Nodes.{SameNode}
use Rattle.graphql_nodes.specs.declared.nodes.Node.{Node}
use Rattle.graphql_documents.specs.Selections.{fragments_of}
use Rattle.graphql_documents.specs.declared.documents.executables.ExecutableDocument.{ExecutableDocument}
use Rattle.graphql_documents.specs.declared.documents.executables.Fragment.{Fragment}
use Rattle.graphql_documents.specs.declared.documents.executables.Operation.{Operation}
use Rattle.graphql_documents.specs.declared.documents.executables.OperationMap.{OperationMap}

-- a fragment, and the name under which it is
abbrev pub Entry : Type 0
Entry = NameText × Node Fragment

-- one fragment under one name
abbrev pub SameEntry : Entry → Entry → Type 0
SameEntry a b = (b.0 ≡ a.0) × SameNode a.1 b.1

-- the fragments of these documents, in order
abbrev pub entries_among : List ExecutableDocument → List Entry
entries_among documents = flat_map (λ (d : ExecutableDocument). d.fragments.entries) documents

-- the new list is the old one with the fragment behind it, unless one of its name was there
pub data AddsIfNew (name : NameText) (d : Node Fragment) (old new : List Entry) : Type 0 where
  was_there : IsSome (lookup (same_name name) old) → new ≡ old → AddsIfNew name d old new
  is_new : (e : Node Fragment) → SameNode d e → lookup (same_name name) old ≡ None → new ≡ old ++ (name, e) ∷ [] → AddsIfNew name d old new

-- if all names differ, the new list is the old one with these fragments behind it
abbrev pub Gathers : List Entry → List Entry → List Entry → Type 0
Gathers given old new =
    AreDistinct (map (λ (e : Entry). e.0) (old ++ given)) → (added : List Entry) × (new ≡ old ++ added) × AllZip SameEntry given added

-- there is one node, or none in either place
abbrev pub IsSameFound : Option (Node Fragment) → Option (Node Fragment) → Type 0
IsSameFound None None = ⊤
IsSameFound (Some d) (Some e) = SameNode d e
IsSameFound _ _ = ⊥

-- under each name the new list has the fragment that the old one had, or else the first of these
abbrev pub HasFirst : List Entry → List Entry → List Entry → Type 0
HasFirst given old new = (name : NameText) → IsSameFound (lookup (same_name name) (old ++ given)) (lookup (same_name name) new)

-- the fragment is the one that one of these names finds in the pool, under its own name
abbrev pub IsBorrowed : ExecutableDocument → List NameText → Entry → Type 0
IsBorrowed pool names e =
    (name : NameText) × Contains names name × (d : Node Fragment) × (fragments_of pool name ≡ Some d) × (e.0 ≡ d.value.value.name) × SameNode d e.1

-- each fragment that one of these names finds in the pool is there under its own name: those that were not are behind the old ones
pub record Borrows (pool : ExecutableDocument) (names : List NameText) (old new : List Entry) : Type 0 where
  pub added : List Entry
  pub appended : new ≡ old ++ added
  pub each : All (IsBorrowed pool names) added
  pub there : (name : NameText) (d : Node Fragment) → Contains names name → fragments_of pool name ≡ Some d → IsSome (lookup (same_name d.value.value.name) new)

-- the operation of this name is the only one
abbrev pub IsAlone : Option NameText → Node Operation → OperationMap → Type 0
IsAlone None o operations = (operations.anonymous ≡ Some o) × (operations.named.entries ≡ [])
IsAlone (Some name) o operations = (operations.anonymous ≡ None) × (operations.named.entries ≡ (name, o) ∷ [])

-- this operation is the only one, under its name if it has one
abbrev pub HoldsAlone : Node Operation → OperationMap → Type 0
HoldsAlone o operations = (node : Node Operation) × SameNode o node × IsAlone o.value.value.name node operations

-- the document has this operation alone, and each fragment that one of these names finds in the pool, and no other
pub record IsOperationDocument (pool : ExecutableDocument) (o : Node Operation) (names : List NameText) (document : ExecutableDocument) : Type 0 where
  pub operation : HoldsAlone o document.operations
  pub fragments : Borrows pool names [] document.fragments.entries
  pub unique : IsUnique same_name document.fragments
