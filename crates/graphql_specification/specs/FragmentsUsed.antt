-- Whether fragments are used, and what a diagnostic says where one is not. Specification: 5.5.1.4 Fragments Must Be Used.
use Rattle.std.specs.Prelude.{Any, ◌≡◌, Option, Contains, List, [], ◌∷◌, None}
use Rattle.indexmap.specs.IndexMap.{values}
use Rattle.graphql_nodes.specs.Names.{SameName, NameText}
use Rattle.graphql_documents.specs.Selections.{Reachable, fragments_of}
use Rattle.graphql_documents.specs.Executables.{operations_of}
use Rattle.graphql_documents.specs.Walks.{PassesDepth, full_walk}
use Rattle.graphql_nodes.specs.declared.nodes.Node.{Node}
use Rattle.graphql_documents.specs.declared.documents.executables.FragmentSpread.{FragmentSpread}
use Rattle.graphql_documents.specs.declared.documents.executables.Fragment.{Fragment}
use Rattle.graphql_documents.specs.declared.documents.executables.ExecutableDocument.{ExecutableDocument}
use Rattle.graphql_nodes.specs.declared.spans.SourceSpan.{SourceSpan}
use Rattle.graphql_diagnostics.specs.declared.details.Details.{Details}
use Rattle.graphql_diagnostics.specs.declared.lists.DiagnosticEntry.{DiagnosticEntry}
use Rattle.graphql_nodes.specs.declared.errors.RecursionLimitError.{RecursionLimitError}
use Rattle.graphql_documents.specs.declared.documents.executables.Operation.{Operation}
use Rattle.graphql_documents.specs.declared.documents.executables.Selection.TheVariants as kind
use Rattle.graphql_diagnostics.specs.declared.details.Details.TheVariants as details
use Rattle.graphql_diagnostics.specs.declared.data.DiagnosticData.TheVariants as report

-- a spread that an operation reaches names the fragment. Specification: 5.5.1.4 Fragments Must Be Used
abbrev pub IsFragmentUsed : ExecutableDocument → Fragment → Type 0
IsFragmentUsed document d =
    Any (λ o. (p : Node FragmentSpread) × Reachable (fragments_of document) o.value.value.selection_set (kind.FragmentSpread p) ×
    SameName p.value.value.fragment_name d.name) (operations_of document)

-- a fragment is not used: reported at the fragment
pub record IsUnusedFragment (document : ExecutableDocument) (name : NameText) (at : Option SourceSpan) : Type 0 where
  pub d : Node Fragment
  pub is_defined : Contains (values document.fragments) d
  pub unused : ¬ IsFragmentUsed document d.value.value
  pub name_is : name ≡ d.value.value.name
  pub at_is : at ≡ d.location

-- the diagnostic names an unused fragment. Specification: 5.5.1.4 Fragments Must Be Used
pub data FragmentUseReport (document : ExecutableDocument) : Details → Option SourceSpan → Type 0 where
  of_unused : {name : NameText} {at : Option SourceSpan} →
      IsUnusedFragment document name at → FragmentUseReport document (details.Diagnostic (report.UnusedFragment name)) at

-- the diagnostic is that of this fragment, which is not used
pub record UnusedFragmentReport (document : ExecutableDocument) (d : Node Fragment) (entry : DiagnosticEntry) : Type 0 where
  pub unused : ¬ IsFragmentUsed document d.value.value
  pub details_are : entry.details ≡ details.Diagnostic (report.UnusedFragment d.value.value.name)
  pub at_is : entry.location ≡ d.location

-- the diagnostics are of the unused ones among these fragments, one for each, in order
pub data AreUnusedFragmentReports (document : ExecutableDocument) : List (Node Fragment) → List DiagnosticEntry → Type 0 where
  no_fragment : AreUnusedFragmentReports document [] []
  used_fragment : {d : Node Fragment} {rest : List (Node Fragment)} {reports : List DiagnosticEntry} →
      IsFragmentUsed document d.value.value → AreUnusedFragmentReports document rest reports → AreUnusedFragmentReports document (d ∷ rest) reports
  unused_fragment : {d : Node Fragment} {rest : List (Node Fragment)} {entry : DiagnosticEntry} {reports : List DiagnosticEntry} →
      UnusedFragmentReport document d entry → AreUnusedFragmentReports document rest reports →
      AreUnusedFragmentReports document (d ∷ rest) (entry ∷ reports)

-- a diagnostic of a limit is true of the walk that seeks used fragments: some operation passes its limit;
-- reported without a place
pub data FragmentWalkLimit (document : ExecutableDocument) : Details → Option SourceSpan → Type 0 where
  fragment_walk_passes : {o : Node Operation} {limit : RecursionLimitError} →
      Contains (operations_of document) o → PassesDepth (fragments_of document) full_walk o.value.value.selection_set →
      FragmentWalkLimit document (details.RecursionLimit limit) None

-- the diagnostics are those of each unused fragment of the document, or the one of the limit
pub data AreFragmentUseReports (document : ExecutableDocument) : List DiagnosticEntry → Type 0 where
  are_of_unused : {reports : List DiagnosticEntry} →
      AreUnusedFragmentReports document (values document.fragments) reports → AreFragmentUseReports document reports
  is_of_bound : {entry : DiagnosticEntry} →
      FragmentWalkLimit document entry.details entry.location → AreFragmentUseReports document (entry ∷ [])
