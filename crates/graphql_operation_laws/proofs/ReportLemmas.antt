-- What is reported of an operation is the same whatever fragments there are that it does not reach. Specification: 5 Validation.
use Rattle.std.proofs.Common.{◌≡◌, ◌∙◌, List, Option, Some, refl, subst}
use Rattle.graphql_nodes.specs.Names.{NameText, SameName}
use Rattle.graphql_nodes.specs.Nodes.{SameNode}
use Rattle.graphql_nodes.specs.Spans.{recompose}
use Rattle.graphql_nodes.specs.declared.nodes.Node.{Node}
use Rattle.graphql_nodes.specs.declared.spans.SourceSpan.{SourceSpan}
use Rattle.graphql_nodes.specs.declared.directive_locations.DirectiveLocation.TheVariants as allowed_at
use Rattle.graphql_documents.specs.Selections.{Fragments, Reachable, fragments_of, includes_itself, reachable_inside, selections_of}
use Rattle.graphql_documents.specs.declared.documents.definitions.VariableDefinition.{VariableDefinition}
use Rattle.graphql_documents.specs.declared.documents.executables.ExecutableDocument.{ExecutableDocument}
use Rattle.graphql_documents.specs.declared.documents.executables.Fragment.{Fragment}
use Rattle.graphql_documents.specs.declared.documents.executables.FragmentSpread.{FragmentSpread}
use Rattle.graphql_documents.specs.declared.documents.executables.Operation.{Operation}
use Rattle.graphql_documents.specs.declared.documents.executables.Selection.TheVariants as kind
use Rattle.graphql_documents.specs.declared.documents.executables.SelectionSet.{SelectionSet}
use Rattle.graphql_documents.specs.declared.documents.schemas.Schema.{Schema}
use Rattle.graphql_diagnostics.specs.declared.data.DiagnosticData.TheVariants as report
use Rattle.graphql_diagnostics.specs.declared.data.DiagnosticData.{DiagnosticData}
use Rattle.graphql_specification.specs.Directives.{DirectivesReport}
use Rattle.graphql_specification.specs.Fragments.{FragmentFormReport, FragmentReport, HasInvalidTarget, IsImpossible, SpreadReport, SpreadTargetReport, SpreadsItself, by_fragment, by_fragment_directives, by_spread, by_spread_directives}
use Rattle.graphql_specification.specs.Operations.{OperationReport, of_directives, of_selection, of_unused_variable, of_variables, root_type}
use Rattle.graphql_specification.specs.Selections.{SelectionReport, of_field, of_fragment, of_inline_fragment, of_spread}
use Rattle.graphql_specification.specs.Variables.{IsUnusedVariable}
use Rattle.graphql_operation_laws.specs.Agreement.{AgreeFrom}
use Rattle.graphql_operation_laws.proofs.AgreementLemmas.{agree_back, agree_in_spread, found_back, none_back}
use Rattle.graphql_operation_laws.proofs.PlaceLemmas.{StandsAgreed, path_back, placed_back}
use Rattle.graphql_operation_laws.proofs.UseLemmas.{uses_back}

module _ (a b : Fragments) where
  module _ (schema : Option Schema) (variables : List (Node VariableDefinition)) where
    itself_back : (d e : Node Fragment) → SameNode d e → AgreeFrom a b d.value.value.selection_set →
        (name : NameText) (head : Option SourceSpan) (trace : List (Node FragmentSpread)) (at : Option SourceSpan) →
        SpreadsItself b e name head trace at → SpreadsItself a d name head trace at
    itself_back d e same agree name head trace at h = record {
      path = h.path;
      is_cycle = record {
        before = h.is_cycle.before;
        last = h.is_cycle.last;
        ends = h.is_cycle.ends;
        is_path = path_back a b h.is_cycle.is_path d same agree;
        is_back = subst (λ (v : Fragment). SameName h.is_cycle.last.value.value.fragment_name v.name) same.same_value h.is_cycle.is_back;
      };
      trace_is = h.trace_is;
      name_is = subst (λ (v : Fragment). name ≡ v.name) same.same_value h.name_is;
      head_is = subst (λ (l : Option SourceSpan). head ≡ recompose l d.value.value.name.location) same.same_location
          (subst (λ (v : Fragment). head ≡ recompose e.location v.name.location) same.same_value h.head_is);
      at_is = h.at_is ∙ same.same_location;
    }

    form_back : (d e : Node Fragment) → SameNode d e → AgreeFrom a b d.value.value.selection_set → (r : DiagnosticData) (at : Option SourceSpan) →
        FragmentFormReport schema b e r at → FragmentFormReport schema a d r at
    form_back d e same agree (report.InvalidFragmentTarget name ty) at h = (
      subst (λ (v : Fragment). name ≡ Some v.name) same.same_value h.0,
      subst (λ (l : Option SourceSpan). HasInvalidTarget schema d.value.value.selection_set.ty l ty at) same.same_location
          (subst (λ (v : Fragment). HasInvalidTarget schema v.selection_set.ty e.location ty at) same.same_value h.1),
    )
    form_back d e same agree (report.RecursiveFragmentDefinition name head trace) at h = itself_back d e same agree name head trace.items at h
    form_back d e same agree _ at h = absurd h

    fragment_back : (d e : Node Fragment) → SameNode d e → AgreeFrom a b d.value.value.selection_set → (r : DiagnosticData) (at : Option SourceSpan) →
        FragmentReport schema b variables e r at → FragmentReport schema a variables d r at
    fragment_back d e same agree r at (by_fragment_directives h) =
        by_fragment_directives (subst (λ (v : Fragment). DirectivesReport schema variables allowed_at.FragmentDefinition v.directives.items r at) same.same_value h)
    fragment_back d e same agree r at (by_fragment h) = by_fragment (form_back d e same agree r at h)

    target_back : (parent : Option NameText) (p : Node FragmentSpread) → StandsAgreed a b (kind.FragmentSpread p) → (r : DiagnosticData) (at : Option SourceSpan) →
        SpreadTargetReport schema b parent p r at → SpreadTargetReport schema a parent p r at
    target_back parent p there (report.UndefinedFragment name) at h =
        record { undefined = none_back a b p (reachable_inside (there.set, includes_itself, there.stands)) there.agree h.undefined; name_is = h.name_is; at_is = h.at_is }
    target_back parent p there (report.InvalidFragmentSpread name type_condition type_name fragment_location type_location) at (e, defined, name_is, impossible) =
        let found = found_back a b p e (reachable_inside (there.set, includes_itself, there.stands)) there.agree defined in (
          found.0,
          found.1,
          name_is,
          subst (λ (l : Option SourceSpan). IsImpossible schema found.0.value.value.selection_set.ty parent l p.location type_condition type_name fragment_location type_location at)
              found.2.same_location
              (subst (λ (v : Fragment). IsImpossible schema v.selection_set.ty parent e.location p.location type_condition type_name fragment_location type_location at)
              found.2.same_value impossible),
        )
    target_back parent p there _ at h = absurd h

    spread_back : (parent : Option NameText) (p : Node FragmentSpread) → StandsAgreed a b (kind.FragmentSpread p) → (r : DiagnosticData) (at : Option SourceSpan) →
        SpreadReport schema b variables parent p r at → SpreadReport schema a variables parent p r at
    spread_back parent p there r at (by_spread_directives h) = by_spread_directives h
    spread_back parent p there r at (by_spread h) = by_spread (target_back parent p there r at h)

    selection_back : (parent : Option NameText) (set : SelectionSet) → AgreeFrom a b set → (r : DiagnosticData) (at : Option SourceSpan) →
        SelectionReport schema b variables parent (selections_of set) r at → SelectionReport schema a variables parent (selections_of set) r at
    selection_back parent set agree r at (of_field f placed h) = of_field f (placed_back a b placed set refl agree).0 h
    selection_back parent set agree r at (of_inline_fragment i placed h) = of_inline_fragment i (placed_back a b placed set refl agree).0 h
    selection_back parent set agree r at (of_spread p {here = here} placed h) =
        let back = placed_back a b placed set refl agree in
        of_spread p back.0 (spread_back here p back.1 r at h)
    selection_back parent set agree r at (of_fragment p {d = e} placed defined h) =
        let back = placed_back a b placed set refl agree in
        let reached : Reachable a back.1.set (kind.FragmentSpread p) = reachable_inside (back.1.set, includes_itself, back.1.stands) in
        let found = found_back a b p e reached back.1.agree defined in
        of_fragment p {d = found.0} back.0 found.1 (fragment_back found.0 e found.2 (agree_in_spread a b p found.0 reached found.1 back.1.agree) r at h)

unused_back : (a b : Fragments) (o : Operation) (name : NameText) (at : Option SourceSpan) → AgreeFrom a b o.selection_set →
    IsUnusedVariable b o name at → IsUnusedVariable a o name at
unused_back a b o name at agree h = record {
  before = h.before;
  v = h.v;
  after = h.after;
  split = h.split;
  is_last = h.is_last;
  unused = λ used. h.unused (uses_back b a o h.v.value.value.name (agree_back a b agree) used);
  name_is = h.name_is;
  at_is = h.at_is;
}

pub report_back : (schema : Option Schema) (d e : ExecutableDocument) (o : Operation) (r : DiagnosticData) (at : Option SourceSpan) →
    AgreeFrom (fragments_of d) (fragments_of e) o.selection_set → OperationReport schema e o r at → OperationReport schema d o r at
report_back schema d e o r at agree (of_directives h) = of_directives h
report_back schema d e o r at agree (of_variables h) = of_variables h
report_back schema d e o (report.UnusedVariable name) at agree (of_unused_variable h) = of_unused_variable (unused_back (fragments_of d) (fragments_of e) o name at agree h)
report_back schema d e o r at agree (of_selection h) =
    of_selection (selection_back (fragments_of d) (fragments_of e) schema o.variables.items (root_type schema o) o.selection_set agree r at h)
