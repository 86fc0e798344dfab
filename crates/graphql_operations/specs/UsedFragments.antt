-- The names that operations reach as spreads, for the contracts of the check of used fragments.
use Rattle.std.specs.Prelude.{Bool, List, Any, Contains, IsFalse, IsTrue}
use Rattle.std.specs.Borrow.{Bor}
use Rattle.graphql_nodes.specs.Names.{NameText, SameName}
use Rattle.graphql_documents.specs.Selections.{Reachable, fragments_of}
use Rattle.graphql_documents.specs.Walks.{PassesDepth, full_walk}
use Rattle.graphql_documents.specs.declared.documents.executables.ExecutableDocument.{ExecutableDocument}
use Rattle.graphql_documents.specs.declared.documents.executables.FragmentSpread.{FragmentSpread}
use Rattle.graphql_documents.specs.declared.documents.executables.Operation.{Operation}
use Rattle.graphql_documents.specs.declared.documents.executables.Selection.TheVariants as kind
use Rattle.graphql_documents.specs.declared.documents.executables.Selection.{Selection}
use Rattle.graphql_nodes.specs.declared.nodes.Node.{Node}
use Rattle.graphql_variables.specs.Uses.{NamesAlso}

-- a spread of this name is among the selections
abbrev pub IsSpreadAmong : List Selection → NameText → Type 0
IsSpreadAmong selections name =
    (p : Node FragmentSpread) × Contains selections (kind.FragmentSpread p) × SameName p.value.value.fragment_name name

-- the operation reaches a spread of this name
abbrev pub IsSpreadFrom : ExecutableDocument → Node Operation → NameText → Type 0
IsSpreadFrom document o name =
    (p : Node FragmentSpread) × Reachable (fragments_of document) o.value.value.selection_set (kind.FragmentSpread p) ×
    SameName p.value.value.fragment_name name

-- one of the operations does
abbrev pub IsSpreadByAny : ExecutableDocument → List (Node Operation) → NameText → Type 0
IsSpreadByAny document operations name = Any (λ o. IsSpreadFrom document o name) operations

-- the walk over one of the operations passes its limit
abbrev pub AnyPasses : ExecutableDocument → List (Node Operation) → Type 0
AnyPasses document operations =
    (o : Node Operation) × Contains operations o × PassesDepth (fragments_of document) full_walk o.value.value.selection_set

-- a walk over an operation adds the names that it reaches as spreads, or passes its limit
pub record AddsSpreads (document : ExecutableDocument) (o : Node Operation) (old new : List (Bor NameText)) (complete : Bool) : Type 0 where
  pub all : IsTrue complete → NamesAlso (IsSpreadFrom document o) old new
  pub bound : IsFalse complete → PassesDepth (fragments_of document) full_walk o.value.value.selection_set
