-- The fragments that operations use. Specification: 5.5.1.4 Fragments Must Be Used.
use Rattle.std.specs.Prelude.{◌≡◌, ◌⊎◌, List, Some, Contains}
use Rattle.graphql_nodes.specs.Names.{NameText}
use Rattle.graphql_nodes.specs.declared.nodes.Node.{Node}
use Rattle.graphql_documents.specs.Selections.{fragments_of}
use Rattle.graphql_documents.specs.declared.documents.executables.ExecutableDocument.{ExecutableDocument}
use Rattle.graphql_documents.specs.declared.documents.executables.Fragment.{Fragment}
use Rattle.graphql_variables.specs.Uses.{IsNamedIn}

-- the old names stay, each fragment that one of these names finds in the pool is noted, and nothing else is
pub record NotesNames (pool : ExecutableDocument) (names old new : List NameText) : Type 0 where
  pub only : (used : NameText) → Contains new used →
      Contains old used ⊎ ((name : NameText) × (d : Node Fragment) × Contains names name × (fragments_of pool name ≡ Some d) × (used ≡ d.value.value.name))
  pub stay : (used : NameText) → Contains old used → Contains new used
  pub noted : (name : NameText) (d : Node Fragment) → Contains names name → fragments_of pool name ≡ Some d → IsNamedIn new d.value.value.name
