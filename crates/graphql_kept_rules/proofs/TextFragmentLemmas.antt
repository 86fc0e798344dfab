-- Fragments of one text lead back to themselves alike. Specification: 5.5.2.2 Fragment Spreads Must Not Form Cycles.
use Rattle.std.proofs.Common.{subst₂}
use Rattle.graphql_nodes.specs.Names.{SameName}
use Rattle.graphql_nodes.specs.declared.nodes.Node.{Node}
use Rattle.graphql_documents.specs.Selections.{Fragments}
use Rattle.graphql_documents.specs.declared.documents.executables.Fragment.{Fragment}
use Rattle.graphql_documents.specs.declared.documents.executables.FragmentSpread.{FragmentSpread}
use Rattle.graphql_documents.specs.declared.documents.executables.Selection.TheVariants as kind
use Rattle.graphql_specification.specs.Fragments.{FragmentHasNoCycle, SpreadsBack, SpreadsBy, fragment_of}
use Rattle.graphql_document_building.specs.SameDocuments.{SameSpread}
use Rattle.graphql_kept_rules.specs.SameTexts.{SameFragmentText}
use Rattle.graphql_sameness_laws.proofs.PathLemmas.{no_cycle_too}
use Rattle.graphql_kept_rules.proofs.TextReachLemmas.{fragment_too, written_too}
use Rattle.graphql_kept_rules.proofs.TextSelectionLemmas.{SameFragments, as_spread, fragment_back, fragment_set}
use Rattle.graphql_sameness_laws.proofs.ZipLemmas.{options_back}

pub fragments_back : (before after : Fragments) → SameFragments before after → SameFragments after before
fragments_back before after alike name = options_back SameFragmentText SameFragmentText fragment_back (before name) (after name) (alike name)

-- a spread in a fragment is in its like
spreads_too : (d e : Node Fragment) (p : Node FragmentSpread) → SameFragmentText d e → SpreadsBy d p → (q : Node FragmentSpread) × SpreadsBy e q × SameSpread p q
spreads_too d e p same by =
    let found = written_too d.value.value.selection_set (kind.FragmentSpread p) by e.value.value.selection_set (fragment_set d e same) in
    let here = as_spread p found.0 found.2 in
    (here.0, rw here.2 at found.1, here.1)

module _ (before after : Fragments) (alike : SameFragments before after) where
  pub fragment_without_cycle : (d e : Node Fragment) → SameFragmentText d e → FragmentHasNoCycle before d → FragmentHasNoCycle after e
  fragment_without_cycle d e same none =
      no_cycle_too SpreadsBy SpreadsBy (fragment_of after) (fragment_of before) SameFragmentText SameSpread spreads_too
      (λ p q f spread to. fragment_too after before (fragments_back before after alike) p.value.value.fragment_name q.value.value.fragment_name f spread.name to)
      SpreadsBack SpreadsBack (λ f g p q fragment spread named. subst₂ SameName spread.name fragment.name named)
      e d (fragment_back d e same) none
