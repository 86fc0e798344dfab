-- Selections hold at their places whatever fragments there are that they do not reach. Specification: 5.3 Fields, 5.5 Fragments.
use Rattle.std.proofs.Common.{◌≡◌, List, [], Option, Some, refl, sym, subst}
use Rattle.std.specs.Prelude.{Contains}
use Rattle.graphql_nodes.specs.Names.{NameText, SameName}
use Rattle.graphql_nodes.specs.Nodes.{SameNode}
use Rattle.graphql_nodes.specs.declared.nodes.Node.{Node}
use Rattle.graphql_documents.specs.Paths.{Path, path_of_more, path_of_one}
use Rattle.graphql_documents.specs.Selections.{Fragments, InExpandedSet, ReachableOn, includes_inline_fragment, includes_itself, Reachable, reachable_in_field, reachable_in_inline_fragment, reachable_in_spread, reachable_inside, selections_of, standing_at, type_under, Written}
use Rattle.graphql_documents.specs.declared.documents.definitions.VariableDefinition.{VariableDefinition}
use Rattle.graphql_documents.specs.declared.documents.executables.Fragment.{Fragment}
use Rattle.graphql_documents.specs.declared.documents.executables.FragmentSpread.{FragmentSpread}
use Rattle.graphql_documents.specs.declared.documents.executables.Selection.{Selection}
use Rattle.graphql_documents.specs.declared.documents.executables.Selection.TheVariants as kind
use Rattle.graphql_documents.specs.declared.documents.executables.SelectionSet.{SelectionSet}
use Rattle.graphql_documents.specs.declared.documents.schemas.Schema.{Schema}
use Rattle.graphql_nodes.specs.declared.directive_locations.DirectiveLocation.TheVariants as allowed_at
use Rattle.graphql_specification.specs.Directives.{ApplicationsHold}
use Rattle.graphql_specification.specs.Fragments.{FragmentHasNoCycle, FragmentHolds, IsPossibleIn, SpreadHolds, SpreadsBy, TargetHolds, fragment_of}
use Rattle.graphql_specification.specs.Selections.{ReachableSelectionsHold}
use Rattle.graphql_reach.proofs.ReachedLemmas.{reach_written}
use Rattle.graphql_operation_laws.specs.Agreement.{AgreeFrom}
use Rattle.graphql_operation_laws.proofs.AgreementLemmas.{agree_below, agree_in_spread, agree_within, found_back, found_there}

module _ (a b : Fragments) where
  -- ==== what is reached on its type

  -- a selection that is in a set from which fragments agree
  pub record StandsAgreed (s : Selection) : Type 0 where
    pub set : SelectionSet
    pub stands : Contains (selections_of set) s
    pub agree : AgreeFrom a b set

  pub placed_back : {schema : Option Schema} {parent here : Option NameText} {selections : List Selection} {s : Selection} →
      ReachableOn schema b parent selections s here → (set : SelectionSet) → selections ≡ selections_of set → AgreeFrom a b set →
      ReachableOn schema a parent selections s here × StandsAgreed s
  placed_back (standing_at {selections = selections} {s = s} stands) set is agree =
      (standing_at stands, record { set = set; stands = subst (λ l. Contains l s) is stands; agree = agree })
  placed_back (reachable_in_field {selections = selections} f stands parent rest) set is agree =
      let inside : InExpandedSet a set (kind.Field f) = (set, includes_itself, subst (λ l. Contains l (kind.Field f)) is stands) in
      let deep = placed_back rest f.value.value.selection_set refl (agree_below a b f inside agree) in
      (reachable_in_field f stands parent deep.0, deep.1)
  placed_back (reachable_in_inline_fragment {selections = selections} i stands rest) set is agree =
      let here = subst (λ l. Contains l (kind.InlineFragment i)) is stands in
      let deep = placed_back rest i.value.value.selection_set refl (agree_within a b (includes_inline_fragment {i = i} here includes_itself) agree) in
      (reachable_in_inline_fragment i stands deep.0, deep.1)
  placed_back {schema} (reachable_in_spread {parent = parent} {at = at} {selections = selections} {s = s} {p = p} e stands defined rest) set is agree =
      let reached : Reachable a set (kind.FragmentSpread p) = reachable_inside (set, includes_itself, subst (λ l. Contains l (kind.FragmentSpread p)) is stands) in
      let found = found_back a b p e reached agree defined in
      let further = subst (λ (v : Fragment). AgreeFrom a b v.selection_set) (sym found.2.same_value) (agree_in_spread a b p found.0 reached found.1 agree) in
      let deep = placed_back rest e.value.value.selection_set refl further in
      let there = subst (λ (v : Fragment). ReachableOn schema a (type_under schema parent (Some v.selection_set.ty)) (selections_of v.selection_set) s at)
      found.2.same_value deep.0 in
      (reachable_in_spread {p = p} found.0 stands found.1 there, deep.1)

  -- ==== cycles

  -- a path of spreads from a fragment is one from its like
  pub path_back : {e : Node Fragment} {path : List (Node FragmentSpread)} → Path SpreadsBy (fragment_of b) e path →
      (d : Node Fragment) → SameNode d e → AgreeFrom a b d.value.value.selection_set → Path SpreadsBy (fragment_of a) d path
  path_back (path_of_one {r = p} by) d same agree = path_of_one (subst (λ (v : Fragment). Written v.selection_set (kind.FragmentSpread p)) same.same_value by)
  path_back (path_of_more {next = next} {r = p} by to rest) d same agree =
      let here = subst (λ (v : Fragment). Written v.selection_set (kind.FragmentSpread p)) same.same_value by in
      let reached = reach_written a (kind.FragmentSpread p) here.1 here.2 in
      let found = found_back a b p next reached agree to in
      path_of_more here found.1 (path_back rest found.0 found.2 (agree_in_spread a b p found.0 reached found.1 agree))

  without_cycle : (d e : Node Fragment) → SameNode d e → AgreeFrom a b d.value.value.selection_set → FragmentHasNoCycle a d → FragmentHasNoCycle b e
  without_cycle d e same agree none path cycle = none path (record {
    before = cycle.before;
    last = cycle.last;
    ends = cycle.ends;
    is_path = path_back cycle.is_path d same agree;
    is_back = subst (λ (v : Fragment). SameName cycle.last.value.value.fragment_name v.name) same.same_value cycle.is_back;
  })

  -- ==== fragments, spreads and all selections

  module _ (schema : Option Schema) (variables : List (Node VariableDefinition)) where
    fragment_holds : (d e : Node Fragment) → SameNode d e → AgreeFrom a b d.value.value.selection_set → FragmentHolds schema a variables d → FragmentHolds schema b variables e
    fragment_holds d e same agree h = record {
      directives = subst (λ (v : Fragment). ApplicationsHold schema variables allowed_at.FragmentDefinition v.directives.items) (sym same.same_value) h.directives;
      target = subst (λ (v : Fragment). TargetHolds schema v.selection_set.ty) (sym same.same_value) h.target;
      no_cycle = without_cycle d e same agree h.no_cycle;
    }

    spread_holds : (visited : List NameText) (parent : Option NameText) (p : Node FragmentSpread) → StandsAgreed (kind.FragmentSpread p) →
        SpreadHolds schema visited a variables parent p.value.value → SpreadHolds schema visited b variables parent p.value.value
    spread_holds visited parent p there h =
        let reached : Reachable a there.set (kind.FragmentSpread p) = reachable_inside (there.set, includes_itself, there.stands) in
        let found = found_there a b p h.definition reached there.agree h.defined in
        let further = agree_in_spread a b p h.definition reached h.defined there.agree in
        record {
          directives = h.directives;
          definition = found.0;
          defined = found.1;
          possible = subst (λ (v : Fragment). IsPossibleIn schema v.selection_set.ty parent) (sym found.2.same_value) h.possible;
          holds = λ new. fragment_holds h.definition found.0 found.2 further (h.holds new);
        }

    pub selections_hold : (parent : Option NameText) (set : SelectionSet) → AgreeFrom a b set →
        ReachableSelectionsHold schema [] a variables parent (selections_of set) → ReachableSelectionsHold schema [] b variables parent (selections_of set)
    selections_hold parent set agree h = record {
      fields = λ f here placed. h.fields f here (placed_back placed set refl agree).0;
      inline_fragments = λ i here placed. h.inline_fragments i here (placed_back placed set refl agree).0;
      spreads = λ p here placed. let back = placed_back placed set refl agree in spread_holds [] here p back.1 (h.spreads p here back.0);
    }
