-- How deep a document nests, spreads of fragments gone into. Specification: 2.4 Selection Sets, 2.8 Fragments.
use Rattle.std.specs.Prelude.{◌≡◌, ◌==◌, ◌⊎◌, ◌+◌, ◌++◌, ◌<◌, ◌≤◌, ℕ, suc, List, [], ◌∷◌, Option, None, Some, All, Contains, filter_map, length, if◌then◌else◌}
use Rattle.std.specs.Option.{option_map}
use Rattle.indexmap.specs.IndexMap.{values}
use Rattle.graphql_nodes.specs.declared.nodes.Node.{Node}
use Rattle.graphql_nodes.specs.declared.spans.SourceSpan.{SourceSpan}
use Rattle.graphql_documents.specs.Executables.{operations_of}
use Rattle.graphql_documents.specs.Selections.{Fragments, fragments_of, no_fragments, selections_of}
use Rattle.graphql_documents.specs.declared.documents.executables.ExecutableDocument.{ExecutableDocument}
use Rattle.graphql_documents.specs.declared.documents.executables.Fragment.{Fragment}
use Rattle.graphql_documents.specs.declared.documents.executables.Operation.{Operation}
use Rattle.graphql_documents.specs.declared.documents.executables.Selection.{Selection, out-Selection}
use Rattle.graphql_documents.specs.declared.documents.executables.Selection.TheOpen as Open
use Rattle.graphql_documents.specs.declared.documents.executables.SelectionSet.{SelectionSet}
use Rattle.graphql_nesting.specs.declared.reports.NestedPart.TheVariants.{Definition, EndlessFragments}
use Rattle.graphql_nesting.specs.declared.reports.NestingReport.{NestingReport}

-- the set below a selection: of a field, where that selects something; of an inline fragment; of the fragment that a spread
-- names, if it is defined
abbrev pub set_below : Fragments → Selection → Option SelectionSet
set_below fragments s = elim (out-Selection s) [
  | Open.Field f ↦ if length (selections_of f.value.value.selection_set) == 0 then None else Some f.value.value.selection_set
  | Open.FragmentSpread p ↦ option_map (λ d. d.value.value.selection_set) (fragments p.value.value.fragment_name)
  | Open.InlineFragment i ↦ Some i.value.value.selection_set
]

-- the sets below the selections of a set
abbrev pub sets_below : Fragments → SelectionSet → List SelectionSet
sets_below fragments set = filter_map (set_below fragments) (selections_of set)

-- from the set there is a way down of so many levels: the set itself is one level, and a way goes on into a set below it
pub data Descends (fragments : Fragments) : SelectionSet → ℕ → Type 0 where
  one_level : {set : SelectionSet} → Descends fragments set 1
  one_more : {set inner : SelectionSet} {n : ℕ} →
      Contains (sets_below fragments set) inner → Descends fragments inner n → Descends fragments set (suc n)

-- each way down from the set has at most so many levels
abbrev pub IsWithin : Fragments → ℕ → SelectionSet → Type 0
IsWithin fragments most set = (n : ℕ) → Descends fragments set n → n ≤ most

-- the levels of a set: the most that a way down from it has. Among no fragments they are its written levels, spreads not
-- followed
pub record HasLevels (fragments : Fragments) (set : SelectionSet) (levels : ℕ) : Type 0 where
  pub descends : Descends fragments set levels
  pub within : IsWithin fragments levels set

-- a set is endless where it leads to a fragment that leads back to itself: ways down from it have every number of levels
abbrev pub IsEndless : Fragments → SelectionSet → Type 0
IsEndless fragments set = (n : ℕ) → Descends fragments set (suc n)

-- these are the written levels of the endless ones among the fragments, all together
pub data EndlessTogether (fragments : Fragments) : List (Node Fragment) → ℕ → Type 0 where
  no_more : EndlessTogether fragments [] 0
  endless_one : {d : Node Fragment} {rest : List (Node Fragment)} {n levels : ℕ} →
      IsEndless fragments d.value.value.selection_set → HasLevels no_fragments d.value.value.selection_set n →
      EndlessTogether fragments rest levels → EndlessTogether fragments (d ∷ rest) (n + levels)
  other_one : {d : Node Fragment} {rest : List (Node Fragment)} {n levels : ℕ} →
      HasLevels fragments d.value.value.selection_set n →
      EndlessTogether fragments rest levels → EndlessTogether fragments (d ∷ rest) levels

-- an operation nests within the bound; or it is endless, and what is written in it does
abbrev pub OperationNests : Fragments → ℕ → Node Operation → Type 0
OperationNests fragments most o =
    IsWithin fragments most o.value.value.selection_set ⊎
    (IsEndless fragments o.value.value.selection_set × IsWithin no_fragments most o.value.value.selection_set)

-- a fragment nests within the bound, or is endless
abbrev pub FragmentNests : Fragments → ℕ → Node Fragment → Type 0
FragmentNests fragments most d =
    IsWithin fragments most d.value.value.selection_set ⊎ IsEndless fragments d.value.value.selection_set

-- a document nests within the bound: its operations and its fragments do, and so do its endless fragments together. Then a walk
-- that goes into no fragment twice on its way down is at most three times as deep as the bound: through what is written in an
-- endless operation, in endless fragments, and below a set that is not endless
pub record NestsWithin (most : ℕ) (document : ExecutableDocument) : Type 0 where
  pub operations : All (OperationNests (fragments_of document) most) (operations_of document)
  pub fragments : All (FragmentNests (fragments_of document) most) (values document.fragments)
  pub levels : ℕ
  pub endless : EndlessTogether (fragments_of document) (values document.fragments) levels
  pub within : levels ≤ most

-- x is an element of the list, and each one before it has the property
pub record IsFirstAfter {X : Type 0} (Holds : X → Type 0) (all : List X) (x : X) : Type 0 where
  pub before : List X
  pub after : List X
  pub is : all ≡ before ++ x ∷ after
  pub hold : All Holds before

-- the report is of a definition with this set at this place, and its levels pass the bound
pub record IsOfDefinition (fragments : Fragments) (most : ℕ) (set : SelectionSet) (location : Option SourceSpan) (r : NestingReport) : Type 0 where
  pub part : r.part ≡ Definition
  pub is_at : r.location ≡ location
  pub has : HasLevels fragments set r.levels
  pub bound : r.most ≡ most
  pub passes : most < r.levels

-- an operation nests too deep, or is endless and what is written in it nests too deep
pub data OperationReport (fragments : Fragments) (most : ℕ) (o : Node Operation) (r : NestingReport) : Type 0 where
  operation_is_deep : IsOfDefinition fragments most o.value.value.selection_set o.location r → OperationReport fragments most o r
  endless_operation_is_deep : IsEndless fragments o.value.value.selection_set →
      IsOfDefinition no_fragments most o.value.value.selection_set o.location r → OperationReport fragments most o r

-- a fragment that is not endless
abbrev pub HasSomeLevels : Fragments → Node Fragment → Type 0
HasSomeLevels fragments d = (levels : ℕ) × HasLevels fragments d.value.value.selection_set levels

-- endless fragments nest too deep together: the report is at the first of them
pub record EndlessReport (fragments : Fragments) (most : ℕ) (all : List (Node Fragment)) (r : NestingReport) : Type 0 where
  pub part : r.part ≡ EndlessFragments
  pub d : Node Fragment
  pub first : IsFirstAfter (HasSomeLevels fragments) all d
  pub is_endless : IsEndless fragments d.value.value.selection_set
  pub is_at : r.location ≡ d.location
  pub has : EndlessTogether fragments all r.levels
  pub bound : r.most ≡ most
  pub passes : most < r.levels

-- the report is that of the document: of the first operation that nests too deep, else of the first fragment, else of the
-- endless fragments together
pub data IsNestingReportOf (most : ℕ) (document : ExecutableDocument) (r : NestingReport) : Type 0 where
  operation_nests_deep : {o : Node Operation} →
      IsFirstAfter (OperationNests (fragments_of document) most) (operations_of document) o →
      OperationReport (fragments_of document) most o r → IsNestingReportOf most document r
  fragment_nests_deep : {d : Node Fragment} →
      All (OperationNests (fragments_of document) most) (operations_of document) →
      IsFirstAfter (FragmentNests (fragments_of document) most) (values document.fragments) d →
      IsOfDefinition (fragments_of document) most d.value.value.selection_set d.location r → IsNestingReportOf most document r
  endless_fragments_nest_deep :
      All (OperationNests (fragments_of document) most) (operations_of document) →
      All (FragmentNests (fragments_of document) most) (values document.fragments) →
      EndlessReport (fragments_of document) most (values document.fragments) r → IsNestingReportOf most document r
