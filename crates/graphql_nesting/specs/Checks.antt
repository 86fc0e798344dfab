-- What is reported of parts of a document.
use Rattle.std.specs.Prelude.{◌≡◌, ◌<◌, ◌≤◌, ℕ, List, Option, All, MatchOption}
use Rattle.graphql_nodes.specs.declared.nodes.Node.{Node}
use Rattle.graphql_nodes.specs.declared.spans.SourceSpan.{SourceSpan}
use Rattle.graphql_documents.specs.Selections.{fragments_of, Fragments}
use Rattle.graphql_documents.specs.declared.documents.executables.ExecutableDocument.{ExecutableDocument}
use Rattle.graphql_documents.specs.declared.documents.executables.Fragment.{Fragment}
use Rattle.graphql_documents.specs.declared.documents.executables.Operation.{Operation}
use Rattle.graphql_nesting.specs.Nesting.{EndlessReport, EndlessTogether, FragmentNests, HasSomeLevels, IsEndless, IsFirstAfter, IsOfDefinition, OperationNests, OperationReport}
use Rattle.graphql_nesting.specs.declared.reports.NestingReport.{NestingReport}

-- nothing is reported where each of the operations nests within the bound; else the first of them that does not
abbrev pub ChecksOperations : ℕ → ExecutableDocument → List (Node Operation) → Option NestingReport → Type 0
ChecksOperations most document operations found =
    MatchOption found (All (OperationNests (fragments_of document) most) operations)
    (λ r. (o : Node Operation) × IsFirstAfter (OperationNests (fragments_of document) most) operations o × OperationReport (fragments_of document) most o r)

-- nothing is reported where each of the fragments nests within the bound; else the first of them that does not
abbrev pub ChecksFragments : ℕ → ExecutableDocument → List (Node Fragment) → Option NestingReport → Type 0
ChecksFragments most document fragments found =
    MatchOption found (All (FragmentNests (fragments_of document) most) fragments)
    (λ r. (d : Node Fragment) × IsFirstAfter (FragmentNests (fragments_of document) most) fragments d × IsOfDefinition (fragments_of document) most d.value.value.selection_set d.location r)

-- the written levels of the endless ones among the fragments, and the place of the first of these, if there are any
pub record EndlessFound (fragments : Fragments) (all : List (Node Fragment)) (levels : ℕ) (location : Option SourceSpan) : Type 0 where
  pub together : EndlessTogether fragments all levels
  pub none : levels ≡ 0 → All (HasSomeLevels fragments) all
  pub first : 0 < levels →
      (d : Node Fragment) × IsFirstAfter (HasSomeLevels fragments) all d × IsEndless fragments d.value.value.selection_set × (location ≡ d.location)

-- nothing is reported where the endless ones among the fragments nest within the bound; else that they do not
abbrev pub ChecksEndless : ℕ → ExecutableDocument → List (Node Fragment) → Option NestingReport → Type 0
ChecksEndless most document all found =
    MatchOption found ((levels : ℕ) × EndlessTogether (fragments_of document) all levels × (levels ≤ most))
    (EndlessReport (fragments_of document) most all)
