-- Fragments and spreads that are the same hold at the same places. Specification: 5.5 Fragments.
use Rattle.std.proofs.Common.{◌∙◌, List, Option, None, refl, sym, subst, subst₂}
use Rattle.std.specs.Prelude.{IsFalse}
use Rattle.std.specs.List.{AllZip}
use Rattle.graphql_nodes.specs.Names.{NameText, SameName, stands_on}
use Rattle.graphql_nodes.specs.declared.directive_locations.DirectiveLocation.TheVariants as allowed_at
use Rattle.graphql_nodes.specs.declared.nodes.Node.{Node}
use Rattle.graphql_documents.specs.Contents.{SameIfAny}
use Rattle.graphql_documents.specs.Selections.{Fragments}
use Rattle.graphql_documents.specs.declared.documents.definitions.VariableDefinition.{VariableDefinition}
use Rattle.graphql_documents.specs.declared.documents.executables.Fragment.{Fragment}
use Rattle.graphql_documents.specs.declared.documents.executables.FragmentSpread.{FragmentSpread}
use Rattle.graphql_documents.specs.declared.documents.executables.InlineFragment.{InlineFragment}
use Rattle.graphql_documents.specs.declared.documents.executables.Selection.TheVariants as kind
use Rattle.graphql_documents.specs.declared.documents.schemas.Schema.{Schema}
use Rattle.graphql_specification.specs.Fragments.{FragmentHasNoCycle, FragmentHolds, InlineFragmentHolds, SpreadHolds, SpreadsBack, SpreadsBy, fragment_of}
use Rattle.graphql_document_building.specs.SameDocuments.{SameFragment, SameSpread}
use Rattle.graphql_document_building.specs.SameLeaves.{SameVariable}
use Rattle.graphql_building_laws.specs.SameSchemas.{SameSchema}
use Rattle.graphql_sameness_laws.proofs.DirectiveLemmas.{applications_too}
use Rattle.graphql_sameness_laws.proofs.PathLemmas.{no_cycle_too}
use Rattle.graphql_sameness_laws.proofs.PossibleTypeLemmas.{possible_in_too, target_too}
use Rattle.graphql_sameness_laws.proofs.ReachLemmas.{fragment_too, written_too}
use Rattle.graphql_sameness_laws.proofs.SelectionLemmas.{SameFragments, SameInlineFragment, as_spread, fragment_back, fragment_set}
use Rattle.graphql_sameness_laws.proofs.ZipLemmas.{options_back}

pub fragments_back : (before after : Fragments) → SameFragments before after → SameFragments after before
fragments_back before after alike name = options_back (SameFragment None) (SameFragment None) fragment_back (before name) (after name) (alike name)

-- a spread in a fragment is in its like
spreads_too : (d e : Node Fragment) (p : Node FragmentSpread) → SameFragment None d e → SpreadsBy d p → (q : Node FragmentSpread) × SpreadsBy e q × SameSpread p q
spreads_too d e p same by =
    let found = written_too d.value.value.selection_set (kind.FragmentSpread p) by e.value.value.selection_set (fragment_set d e same) in
    let here = as_spread p found.0 found.2 in
    (here.0, rw here.2 at found.1, here.1)

module _ (before after : Fragments) (alike : SameFragments before after) where
  pub fragment_without_cycle : (d e : Node Fragment) → SameFragment None d e → FragmentHasNoCycle before d → FragmentHasNoCycle after e
  fragment_without_cycle d e same none =
      no_cycle_too SpreadsBy SpreadsBy (fragment_of after) (fragment_of before) (SameFragment None) SameSpread spreads_too
      (λ p q f spread to. fragment_too after before (fragments_back before after alike) p.value.value.fragment_name q.value.value.fragment_name f spread.name to)
      SpreadsBack SpreadsBack (λ f g p q fragment spread named. subst₂ SameName spread.name fragment.name named)
      e d (fragment_back d e same) none

  module _ (oa ob : Option Schema) (schemas : SameIfAny SameSchema oa ob) (variables others : List (Node VariableDefinition)) (variables_alike : AllZip SameVariable variables others) where
    pub fragment_holds_too : (d e : Node Fragment) → SameFragment None d e → FragmentHolds oa before variables d → FragmentHolds ob after others e
    fragment_holds_too d e same h = record {
      directives = applications_too oa ob schemas variables others variables_alike allowed_at.FragmentDefinition _ _ same.directives h.directives;
      target = target_too oa ob schemas _ _ same.set_type h.target;
      no_cycle = fragment_without_cycle d e same h.no_cycle;
    }

    pub spread_holds_too : (visited : List NameText) (parent : Option NameText) (p q : Node FragmentSpread) → SameSpread p q →
        SpreadHolds oa visited before variables parent p.value.value → SpreadHolds ob visited after others parent q.value.value
    spread_holds_too visited parent p q same h =
        let e = fragment_too before after alike p.value.value.fragment_name q.value.value.fragment_name h.definition same.name h.defined in
        record {
          directives = applications_too oa ob schemas variables others variables_alike allowed_at.FragmentSpread _ _ same.directives h.directives;
          definition = e.0;
          defined = e.1;
          possible = possible_in_too oa ob schemas _ _ parent e.2.set_type h.possible;
          holds = λ new. fragment_holds_too h.definition e.0 e.2 (h.holds (subst (λ n. IsFalse (stands_on visited n)) (sym same.name) new));
        }

    pub inline_fragment_holds_too : (parent : Option NameText) (i j : Node InlineFragment) → SameInlineFragment i j →
        InlineFragmentHolds oa variables parent i.value.value → InlineFragmentHolds ob others parent j.value.value
    inline_fragment_holds_too parent i j same h = record {
      directives = applications_too oa ob schemas variables others variables_alike allowed_at.InlineFragment _ _ same.head.directives h.directives;
      target = λ condition is. target_too oa ob schemas condition condition refl (h.target condition (same.head.type_condition ∙ is));
      possible = λ condition is. possible_in_too oa ob schemas condition condition parent refl (h.possible condition (same.head.type_condition ∙ is));
    }
