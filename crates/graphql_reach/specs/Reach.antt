-- How many bytes of its text the operations of a document reach. Specification: 2.3 Operations, 2.8 Fragments.
use Rattle.std.specs.Prelude.{◌≡◌, ◌+◌, ◌-◌, ◌++◌, ◌<◌, ◌≤◌, ℕ, List, [], ◌∷◌, Option, None, Some, map}
use Rattle.std.specs.Borrow.{Bor}
use Rattle.graphql_nodes.specs.Names.{NameText, SameName}
use Rattle.graphql_nodes.specs.declared.nodes.Node.{Node}
use Rattle.graphql_nodes.specs.declared.spans.SourceSpan.{SourceSpan}
use Rattle.graphql_documents.specs.Executables.{operations_of}
use Rattle.graphql_documents.specs.Selections.{Fragments, fragments_of}
use Rattle.graphql_documents.specs.declared.documents.executables.ExecutableDocument.{ExecutableDocument}
use Rattle.graphql_documents.specs.declared.documents.executables.Fragment.{Fragment}
use Rattle.graphql_documents.specs.declared.documents.executables.Operation.{Operation}
use Rattle.graphql_documents.specs.declared.documents.executables.SelectionSet.{SelectionSet}
use Rattle.graphql_reach.specs.Reached.{IsSpreadFrom}
use Rattle.graphql_reach.specs.declared.reports.ReachReport.{ReachReport}

-- the nodes that references stand for
abbrev pub nodes_at : List (Bor (Node Operation)) → List (Node Operation)
nodes_at references = map (λ o. o.now) references

-- how many bytes there are at a location; none where it is not known
abbrev pub bytes_at : Option SourceSpan → ℕ
bytes_at None = 0
bytes_at (Some span) = span.end - span.start

-- some of the fragments among these that the set reaches have so many bytes together: each counts once
pub data FragmentsReached (fragments : Fragments) (set : SelectionSet) : List (NameText × Node Fragment) → ℕ → Type 0 where
  no_more : FragmentsReached fragments set [] 0
  reached_one : {e : NameText × Node Fragment} {rest : List (NameText × Node Fragment)} {n : ℕ} (name : NameText) →
      IsSpreadFrom fragments set name → SameName name e.0 →
      FragmentsReached fragments set rest n → FragmentsReached fragments set (e ∷ rest) (bytes_at e.1.location + n)
  left_out : {e : NameText × Node Fragment} {rest : List (NameText × Node Fragment)} {n : ℕ} →
      FragmentsReached fragments set rest n → FragmentsReached fragments set (e ∷ rest) n

-- the operations reach so many bytes together, if not more: each its own definition, and fragments that it reaches
pub data Reaches (document : ExecutableDocument) : List (Node Operation) → ℕ → Type 0 where
  no_operation : Reaches document [] 0
  one_more : {o : Node Operation} {rest : List (Node Operation)} {m n : ℕ} →
      FragmentsReached (fragments_of document) o.value.value.selection_set document.fragments.entries m →
      Reaches document rest n → Reaches document (o ∷ rest) ((bytes_at o.location + m) + n)

-- the operations reach at most so many bytes
abbrev pub ReachAtMost : ExecutableDocument → List (Node Operation) → ℕ → Type 0
ReachAtMost document operations most = (n : ℕ) → Reaches document operations n → n ≤ most

-- the operations reach so many bytes: with all fragments that each of them reaches
pub record HaveReach (document : ExecutableDocument) (operations : List (Node Operation)) (bytes : ℕ) : Type 0 where
  pub reach : Reaches document operations bytes
  pub at_most : ReachAtMost document operations bytes

-- the operations of the document reach at most so many bytes, each fragment counted for each operation that reaches it
abbrev pub ReachesWithin : ℕ → ExecutableDocument → Type 0
ReachesWithin most document = ReachAtMost document (operations_of document) most

-- the report is at the first of the operations that passes the bound together with those before it
pub record IsFirstToPass (most : ℕ) (document : ExecutableDocument) (operations : List (Node Operation)) (r : ReachReport) : Type 0 where
  pub before : List (Node Operation)
  pub o : Node Operation
  pub after : List (Node Operation)
  pub is : operations ≡ before ++ o ∷ after
  pub within : ReachAtMost document before most
  pub has : HaveReach document (before ++ o ∷ []) r.bytes
  pub passes : most < r.bytes
  pub is_at : r.location ≡ o.location
  pub bound : r.most ≡ most

-- the report is that of the document
abbrev pub IsReachReportOf : ℕ → ExecutableDocument → ReachReport → Type 0
IsReachReportOf most document r = IsFirstToPass most document (operations_of document) r
