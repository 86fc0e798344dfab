-- What is reported of root fields, `@defer`, merging and variables of an operation is the same whatever fragments there are that it does not reach.
-- Specification: 5.2.3.1 Single Root Field, 5.3.2 Field Selection Merging, 5.8 Variables.
use Rattle.std.proofs.Common.{◌≡◌, ◌++◌, List, [], ◌∷◌, None, Option, inl, inr, refl, sym, subst}
use Rattle.std.specs.Prelude.{Contains, ◌⊎◌, IsTrue}
use Rattle.graphql_nodes.specs.Names.{NameText, stands_on}
use Rattle.graphql_nodes.specs.declared.nodes.Node.{Node}
use Rattle.graphql_nodes.specs.declared.operation_types.OperationType.{OperationType}
use Rattle.graphql_nodes.specs.declared.spans.SourceSpan.{SourceSpan}
use Rattle.graphql_diagnostics.specs.declared.build_errors.BuildError.{BuildError}
use Rattle.graphql_diagnostics.specs.declared.details.Details.{Details}
use Rattle.graphql_diagnostics.specs.declared.lists.DiagnosticEntry.{DiagnosticEntry}
use Rattle.graphql_documents.proofs.ListLemmas.{stands_behind, stands_first}
use Rattle.graphql_documents.specs.Selections.{Fragments, Reachable, fragments_of, includes_inline_fragment, includes_itself, reachable_inside, selections_of}
use Rattle.graphql_documents.specs.declared.documents.executables.ExecutableDocument.{ExecutableDocument}
use Rattle.graphql_documents.specs.declared.documents.executables.Fragment.{Fragment}
use Rattle.graphql_documents.specs.declared.documents.executables.Operation.{Operation}
use Rattle.graphql_documents.specs.declared.documents.executables.Selection.TheVariants as kind
use Rattle.graphql_documents.specs.declared.documents.executables.Selection.{Selection}
use Rattle.graphql_documents.specs.declared.documents.executables.SelectionSet.{SelectionSet}
use Rattle.graphql_documents.specs.declared.documents.schemas.Schema.{Schema}
use Rattle.graphql_document_rules.specs.SingleRootField.{HasSeveralResponseKeys, SubscriptionRootReport, of_condition, of_introspection, of_response_keys}
use Rattle.graphql_specification.specs.CollectFields.{CollectsAmong, CollectsFrom, CollectsIn, collect_next, collected_all, collects_field, collects_inline_fragment, collects_none, collects_past_inline_fragment, collects_past_set, collects_past_spread, collects_set, collects_spread}
use Rattle.graphql_specification.specs.Defer.{HasDeferAtRoot, HasFixedDefer}
use Rattle.graphql_specification.specs.Merging.{ComeTogether, FieldSelection, MergingErrorReport, Pass, field_pass, shape_pass}
use Rattle.graphql_usage_rules.specs.UndefinedVariables as variable_scope
use Rattle.graphql_usage_rules.specs.UndefinedVariables.{OperationUndefinedReport, VariableInDirectives, VariableInScope}
use Rattle.graphql_usage_rules.specs.VariableMisuses.{OperationMisuseReport}
use Rattle.graphql_usage_rules.specs.declared.reports.VariableMisuse.{VariableMisuse}
use Rattle.graphql_documents.specs.declared.documents.values.Value.{Value}
use Rattle.graphql_operation_laws.specs.Agreement.{AgreeFrom}
use Rattle.graphql_operation_laws.proofs.AgreementLemmas.{agree_in_spread, agree_within, found_back, inside_back, none_back, reachable_back}
use Rattle.graphql_operation_laws.proofs.DeferLemmas.{open_back}
use Rattle.graphql_operation_laws.proofs.MergingLemmas.{path_back}
use Rattle.graphql_operation_laws.proofs.RootLemmas.{collected_back}
use Rattle.graphql_operation_laws.proofs.UsageLemmas.{used_back}

module _ (a b : Fragments) where
  -- ==== the walk that collects fields

  module _ (schema : Schema) (object : NameText) where
    mutual
      among_back : {parent : NameText} {seen visited : List NameText} {rest : List Selection} {fields : List FieldSelection} →
          CollectsAmong schema b object parent seen rest fields visited → (set : SelectionSet) → ((s : Selection) → Contains rest s → Contains (selections_of set) s) →
          AgreeFrom a b set → CollectsAmong schema a object parent seen rest fields visited
      among_back collects_none set within agree = collects_none
      among_back (collects_field {rest = rest} f more) set within agree =
          collects_field f (among_back more set (λ s c. within s (stands_behind (kind.Field f) rest s c)) agree)
      among_back (collects_inline_fragment {rest = rest} i condition inside more) set within agree =
          let here = within (kind.InlineFragment i) (stands_first (kind.InlineFragment i) rest) in
          collects_inline_fragment i condition
          (in_back inside (agree_within a b (includes_inline_fragment {i = i} here includes_itself) agree))
          (among_back more set (λ s c. within s (stands_behind (kind.InlineFragment i) rest s c)) agree)
      among_back (collects_past_inline_fragment {rest = rest} i is not_applied more) set within agree =
          collects_past_inline_fragment i is not_applied (among_back more set (λ s c. within s (stands_behind (kind.InlineFragment i) rest s c)) agree)
      among_back (collects_past_spread {seen = seen} {rest = rest} p why more) set within agree =
          let reached : Reachable a set (kind.FragmentSpread p) = reachable_inside (set, includes_itself, within (kind.FragmentSpread p) (stands_first (kind.FragmentSpread p) rest)) in
          let still : IsTrue (stands_on seen p.value.value.fragment_name) ⊎ (a p.value.value.fragment_name ≡ None) =
          elim why [ inl known ↦ inl known | inr undefined ↦ inr (none_back a b p reached agree undefined) ] in
          collects_past_spread p still (among_back more set (λ s c. within s (stands_behind (kind.FragmentSpread p) rest s c)) agree)
      among_back (collects_spread {parent = parent} {seen = seen} {between = between} {rest = rest} {within = collected} p e new defined inside more) set within agree =
          let reached : Reachable a set (kind.FragmentSpread p) = reachable_inside (set, includes_itself, within (kind.FragmentSpread p) (stands_first (kind.FragmentSpread p) rest)) in
          let found = found_back a b p e reached agree defined in
          let further = subst (λ (v : Fragment). AgreeFrom a b v.selection_set) (sym found.2.same_value) (agree_in_spread a b p found.0 reached found.1 agree) in
          collects_spread p found.0 new found.1
          (subst (λ (v : Fragment). CollectsIn schema a object (seen ++ p.value.value.fragment_name ∷ []) v.selection_set collected between) found.2.same_value (in_back inside further))
          (among_back more set (λ s c. within s (stands_behind (kind.FragmentSpread p) rest s c)) agree)

      in_back : {seen visited : List NameText} {set : SelectionSet} {fields : List FieldSelection} → CollectsIn schema b object seen set fields visited →
          AgreeFrom a b set → CollectsIn schema a object seen set fields visited
      in_back (collects_set {set = set} applies among) agree = collects_set applies (among_back among set (λ s c. c) agree)
      in_back (collects_past_set not_applied) agree = collects_past_set not_applied

    walk_back : {seen : List NameText} {sets : List SelectionSet} {fields : List FieldSelection} → CollectsFrom schema b object seen sets fields →
        (set : SelectionSet) → sets ≡ set ∷ [] → AgreeFrom a b set → CollectsFrom schema a object seen sets fields
    walk_back collected_all set is agree = absurd (let h : ⊥ = cc in h)
    walk_back (collect_next {visited = visited} {set = first} {sets = rest} {fields = fields} inside more) set is agree =
        let here : set ≡ first = cc in
        let none : rest ≡ [] = cc in
        collect_next (in_back inside (subst (AgreeFrom a b) here agree)) (nothing_more more none)
      where
        nothing_more : {seen : List NameText} {sets : List SelectionSet} {fields : List FieldSelection} → CollectsFrom schema b object seen sets fields → sets ≡ [] →
            CollectsFrom schema a object seen sets fields
        nothing_more collected_all is = collected_all
        nothing_more (collect_next inside more) is = absurd (let h : ⊥ = cc in h)

  -- ==== root fields

  several_back : (schema : Schema) (o : Node Operation) (name : Option NameText) (keys : List NameText) (at : Option SourceSpan) →
      AgreeFrom a b o.value.value.selection_set → HasSeveralResponseKeys schema b o name keys at → HasSeveralResponseKeys schema a o name keys at
  several_back schema o name keys at agree h = record {
    collected = h.collected;
    several = λ one. h.several (λ x y first second. one x y (collected_back a b first agree) (collected_back a b second agree));
    walk = walk_back schema o.value.value.selection_set.ty h.walk o.value.value.selection_set refl agree;
    name_is = h.name_is;
    keys_are = h.keys_are;
    at_is = h.at_is;
  }

  pub root_report_back : (schema : Schema) (o : Node Operation) (d : Details) (at : Option SourceSpan) → AgreeFrom a b o.value.value.selection_set →
      SubscriptionRootReport schema b o d at → SubscriptionRootReport schema a o d at
  root_report_back schema o _ at agree (of_introspection is h) = of_introspection is (record {
    f = h.f;
    inside = inside_back a b h.inside agree;
    introspects = h.introspects;
    name_is = h.name_is;
    field_is = h.field_is;
    at_is = h.at_is;
  })
  root_report_back schema o _ at agree (of_condition is h) = of_condition is (record {
    s = h.s;
    d = h.d;
    inside = inside_back a b h.inside agree;
    first_is = h.first_is;
    name_is = h.name_is;
    at_is = h.at_is;
  })
  root_report_back schema o _ at agree (of_response_keys {name = name} {keys = keys} is h) = of_response_keys is (several_back schema o name keys.items at agree h)

  -- ==== `@defer`

  pub defer_at_root_back : (o : Operation) (operation_type : OperationType) (at : Option SourceSpan) → AgreeFrom a b o.selection_set →
      HasDeferAtRoot b o operation_type at → HasDeferAtRoot a o operation_type at
  defer_at_root_back o operation_type at agree h = record {
    s = h.s;
    d = h.d;
    not_query = h.not_query;
    inside = inside_back a b h.inside agree;
    no_field = h.no_field;
    deferred = h.deferred;
    type_is = h.type_is;
    at_is = h.at_is;
  }

  pub fixed_defer_back : (o : Operation) (at : Option SourceSpan) → AgreeFrom a b o.selection_set → HasFixedDefer b o at → HasFixedDefer a o at
  fixed_defer_back o at agree h = record {
    s = h.s;
    d = h.d;
    is_subscription = h.is_subscription;
    is_open = open_back a b h.is_open agree;
    deferred = h.deferred;
    fixed = h.fixed;
    at_is = h.at_is;
  }

  -- ==== merging

  together_back : (schema : Schema) (pass : Pass) (set : SelectionSet) (x y : FieldSelection) → AgreeFrom a b set → ComeTogether schema b pass set x y →
      ComeTogether schema a pass set x y
  together_back schema shape_pass set x y agree (xs, ys, path) = (xs, ys, path_back a b set xs ys x y agree path)
  together_back schema field_pass set x y agree (xs, ys, path, overlap) = (xs, ys, path_back a b set xs ys x y agree path, overlap)

  pub merging_report_back : (schema : Schema) (set : SelectionSet) (e : BuildError) (at : Option SourceSpan) → AgreeFrom a b set →
      MergingErrorReport schema b set e at → MergingErrorReport schema a set e at
  merging_report_back schema set e at agree h = record {
    pass = h.pass;
    x = h.x;
    y = h.y;
    together = together_back schema h.pass set h.x h.y agree h.together;
    conflict = h.conflict;
  }

  -- ==== variables

  scope_back : (o : Operation) (variable : Node Value) → AgreeFrom a b o.selection_set → VariableInScope b o variable → VariableInScope a o variable
  scope_back o variable agree (variable_scope.in_operation there) = variable_scope.in_operation there
  scope_back o variable agree (variable_scope.at_selection s reached there) = variable_scope.at_selection s (reachable_back a b reached agree) there
  scope_back o variable agree (variable_scope.in_fragment_definition p e reached defined there) =
      let back = reachable_back a b reached agree in
      let found = found_back a b p e back agree defined in
      variable_scope.in_fragment_definition p found.0 back found.1 (subst (λ (v : Fragment). VariableInDirectives v.directives.items variable) found.2.same_value there)

  pub undefined_report_back : (o : Operation) (e : DiagnosticEntry) → AgreeFrom a b o.selection_set → OperationUndefinedReport b o e → OperationUndefinedReport a o e
  undefined_report_back o e agree (variable, there, h) = (variable, scope_back o variable agree there, h)

pub misuse_report_back : (schema : Schema) (d e : ExecutableDocument) (o : Operation) (report : VariableMisuse) → AgreeFrom (fragments_of d) (fragments_of e) o.selection_set →
    OperationMisuseReport schema e o report → OperationMisuseReport schema d o report
misuse_report_back schema d e o report agree h = record {
  usage = h.usage;
  used = used_back (fragments_of d) (fragments_of e) schema o h.usage agree h.used;
  v = h.v;
  is_variable = h.is_variable;
  disallowed = h.disallowed;
  name_is = h.name_is;
  variable_type_is = h.variable_type_is;
  location_type_is = h.location_type_is;
  definition_location_is = h.definition_location_is;
  location_is = h.location_is;
}
