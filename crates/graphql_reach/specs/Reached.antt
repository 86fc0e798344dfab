-- The fragments that selections reach by spreads, for the contracts of the search for them.
use Rattle.std.specs.Prelude.{◌≡◌, ℕ, ◌+◌, ◌≤◌, List, [], ◌∷◌, ◌++◌, All, IsSome, IsTrue, Some, if◌then◌else◌, length, map}
use Rattle.std.specs.Borrow.{Bor}
use Rattle.graphql_nodes.specs.Names.{NameText, stands_on}
use Rattle.graphql_nodes.specs.declared.nodes.Node.{Node}
use Rattle.graphql_documents.specs.Selections.{Fragments, Reachable, fragments_of}
use Rattle.graphql_documents.specs.declared.documents.executables.ExecutableDocument.{ExecutableDocument}
use Rattle.graphql_documents.specs.declared.documents.executables.Fragment.{Fragment}
use Rattle.graphql_documents.specs.declared.documents.executables.FragmentSpread.{FragmentSpread}
use Rattle.graphql_documents.specs.declared.documents.executables.Selection.{Selection}
use Rattle.graphql_documents.specs.declared.documents.executables.Selection.TheVariants as kind
use Rattle.graphql_documents.specs.declared.documents.executables.SelectionSet.{SelectionSet}
use Rattle.graphql_reach.specs.Written.{SetHas}
use Rattle.graphql_reach.specs.declared.reached.Reached.{Reached}

-- the selection spreads the fragment of this name
abbrev pub SpreadsName : Selection → NameText → Type 0
SpreadsName s name = (p : Node FragmentSpread) × (s ≡ kind.FragmentSpread p) × (name ≡ p.value.value.fragment_name)

-- a spread that is reached from the set does
abbrev pub IsSpreadFrom : Fragments → SelectionSet → NameText → Type 0
IsSpreadFrom fragments set name =
    (p : Node FragmentSpread) × Reachable fragments set (kind.FragmentSpread p) × (name ≡ p.value.value.fragment_name)

-- and the fragment of this name is defined
abbrev pub IsReachedFrom : Fragments → SelectionSet → NameText → Type 0
IsReachedFrom fragments set name = IsSpreadFrom fragments set name × IsSome (fragments name)

-- the names are those of the fragments that the set reaches: each is spread and defined, and each that is spread and defined is among them
pub record ReachesNames (fragments : Fragments) (set : SelectionSet) (names : List NameText) : Type 0 where
  pub each : All (IsReachedFrom fragments set) names
  pub all : (name : NameText) → IsSpreadFrom fragments set name → IsSome (fragments name) → IsTrue (stands_on names name)

-- the names that references stand for
abbrev pub names_at : List (Bor NameText) → List NameText
names_at references = map (λ n. n.now) references

-- the names that were reached, and those of them whose fragments wait
abbrev pub reached_names : Reached → List NameText
reached_names reached = names_at reached.names.keys

abbrev pub pending_names : Reached → List NameText
pending_names reached = names_at reached.pending.items

-- a spread in the definition of the fragment of this name
abbrev pub SpreadsInFragment : Fragments → NameText → NameText → Type 0
SpreadsInFragment fragments name spread =
    (d : Node Fragment) × (fragments name ≡ Some d) × SetHas SpreadsName d.value.value.selection_set spread

-- how many fragments were not reached
abbrev pub unreached : List NameText → List (NameText × Node Fragment) → ℕ
unreached names [] = 0
unreached names (e ∷ es) = (if stands_on names e.0 then 0 else 1) + unreached names es

-- a call adds the names of defined fragments that are so spread, and lets them wait
pub record AddsSpreads (document : ExecutableDocument) (IsSpread : NameText → Type 0) (old new : Reached) : Type 0 where
  pub added : List NameText
  pub names : reached_names new ≡ reached_names old ++ added
  pub waiting : pending_names new ≡ pending_names old ++ added
  pub each : All (λ name. IsSpread name × IsSome (fragments_of document name)) added
  pub there : (name : NameText) → IsSpread name → IsSome (fragments_of document name) → IsTrue (stands_on (reached_names new) name)
  pub counted : unreached (reached_names new) document.fragments.entries + length added ≤ unreached (reached_names old) document.fragments.entries
