-- Fragments of one text are used alike. Specification: 5.5.1.4 Fragments Must Be Used.
use Rattle.std.proofs.Common.{subst, subst₂}
use Rattle.std.specs.Prelude.{All}
use Rattle.indexmap.specs.IndexMap.{values}
use Rattle.graphql_nodes.specs.Names.{SameName}
use Rattle.graphql_nodes.specs.declared.nodes.Node.{Node}
use Rattle.graphql_documents.specs.Selections.{Reachable, fragments_of}
use Rattle.graphql_documents.specs.declared.documents.executables.ExecutableDocument.{ExecutableDocument}
use Rattle.graphql_documents.specs.declared.documents.executables.Fragment.{Fragment}
use Rattle.graphql_documents.specs.declared.documents.executables.FragmentSpread.{FragmentSpread}
use Rattle.graphql_documents.specs.declared.documents.executables.Selection.TheVariants as kind
use Rattle.graphql_specification.specs.FragmentsUsed.{IsFragmentUsed}
use Rattle.graphql_kept_rules.specs.SameTexts.{SameFragmentText, SameOperationText, SameText}
use Rattle.graphql_kept_rules.proofs.TextReachLemmas.{reachable_too}
use Rattle.graphql_kept_rules.proofs.TextSelectionLemmas.{as_spread, fragment_definitions_alike, fragments_alike, operation_set, operations_alike}
use Rattle.graphql_sameness_laws.proofs.ZipLemmas.{zip_all, zip_any}

module _ (d e : ExecutableDocument) (documents : SameText d e) where
  fragment_used_too : (f g : Node Fragment) → SameFragmentText f g → IsFragmentUsed d f.value.value → IsFragmentUsed e g.value.value
  fragment_used_too f g same =
      zip_any SameOperationText
      (λ o. (p : Node FragmentSpread) × Reachable (fragments_of d) o.value.value.selection_set (kind.FragmentSpread p) × SameName p.value.value.fragment_name f.value.value.name)
      (λ o. (p : Node FragmentSpread) × Reachable (fragments_of e) o.value.value.selection_set (kind.FragmentSpread p) × SameName p.value.value.fragment_name g.value.value.name)
      (λ o u alike h.
      let t = reachable_too (fragments_of d) (fragments_of e) (fragments_alike d e documents) h.1 u.value.value.selection_set (operation_set o u alike) in
      let q = as_spread h.0 t.0 t.2 in
      (q.0, subst (Reachable (fragments_of e) u.value.value.selection_set) q.2 t.1, subst₂ SameName q.1.name same.name h.2))
      _ _ (operations_alike d e documents)

  pub fragments_used_too : All (λ f. IsFragmentUsed d f.value.value) (values d.fragments) → All (λ f. IsFragmentUsed e f.value.value) (values e.fragments)
  fragments_used_too =
      zip_all SameFragmentText (λ f. IsFragmentUsed d f.value.value) (λ f. IsFragmentUsed e f.value.value)
      fragment_used_too _ _ (fragment_definitions_alike d e documents)
