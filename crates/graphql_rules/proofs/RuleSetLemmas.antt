-- Which diagnostics name rules that are never off, and how what holds of the other rules composes.
use Rattle.std.proofs.Common.{◌≡◌, inl, inr, ℕ, ◌+◌, ◌<◌, ◌≤◌, List, [], ◌∷◌, ◌++◌, Option, IsFalse, length, get_or, take, refl, sym, ◌∙◌, subst, All}
use Rattle.std.specs.Prelude.{Result, Ok, Err, OnOk, MatchResult, ⊤}
use Rattle.std.proofs.lemmas.List.{append-nil, append_cancel_left, take_all}
use Rattle.std.proofs.lemmas.List.Elements.{All-nil, All-head, All-more}
use Rattle.graphql_documents.proofs.ListLemmas.{All-append_left, All-append_right}
use Rattle.graphql_diagnostics.proofs.ReportLemmas.{appended_then}
use Rattle.graphql_diagnostics.proofs.ReportWithinLemmas.{within}
use Rattle.graphql_diagnostics.specs.Diagnostics.{DiagnosticReport, IsDiagnostic, IsLimit, IsLimitEntry, limit_of_depth, limit_of_path, limit_of_walk}
use Rattle.graphql_diagnostics.specs.Reports.{Appends, KeepsReports, Reports, ReportsWithin}
use Rattle.graphql_diagnostics.specs.declared.data.DiagnosticData.{DiagnosticData}
use Rattle.graphql_diagnostics.specs.declared.data.DiagnosticData.TheVariants as report
use Rattle.graphql_diagnostics.specs.declared.details.Details.{Details}
use Rattle.graphql_diagnostics.specs.declared.details.Details.TheVariants as details
use Rattle.graphql_diagnostics.specs.declared.lists.DiagnosticEntry.{DiagnosticEntry}
use Rattle.graphql_documents.specs.Selections.{Fragments}
use Rattle.graphql_documents.specs.TypeReferences.{TypeReference}
use Rattle.graphql_documents.specs.declared.documents.definitions.DirectiveDefinition.{DirectiveDefinition}
use Rattle.graphql_documents.specs.declared.documents.definitions.InputValueDefinition.{InputValueDefinition}
use Rattle.graphql_documents.specs.declared.documents.definitions.VariableDefinition.{VariableDefinition}
use Rattle.graphql_documents.specs.declared.documents.directives.Argument.{Argument}
use Rattle.graphql_documents.specs.declared.documents.directives.Directive.{Directive}
use Rattle.graphql_documents.specs.declared.documents.executables.ExecutableDocument.{ExecutableDocument}
use Rattle.graphql_documents.specs.declared.documents.executables.Field.{Field}
use Rattle.graphql_documents.specs.declared.documents.executables.Fragment.{Fragment}
use Rattle.graphql_documents.specs.declared.documents.executables.FragmentSpread.{FragmentSpread}
use Rattle.graphql_documents.specs.declared.documents.executables.InlineFragment.{InlineFragment}
use Rattle.graphql_documents.specs.declared.documents.executables.Operation.{Operation}
use Rattle.graphql_documents.specs.declared.documents.executables.Selection.{Selection}
use Rattle.graphql_documents.specs.declared.documents.schemas.Schema.{Schema}
use Rattle.graphql_documents.specs.declared.documents.values.Value.{Value}
use Rattle.graphql_laws.proofs.VariableLaws.{none_reported}
use Rattle.graphql_nodes.specs.Names.{NameText}
use Rattle.graphql_nodes.specs.declared.directive_locations.DirectiveLocation.{DirectiveLocation}
use Rattle.graphql_nodes.specs.declared.nodes.Node.{Node}
use Rattle.graphql_nodes.specs.declared.spans.SourceSpan.{SourceSpan}
use Rattle.graphql_rules.specs.SelectionSteps.{SelectionEntryReport}
use Rattle.graphql_specification.specs.Arguments.{ArgumentValuesReport, of_usage, of_value}
use Rattle.graphql_specification.specs.Directives.{ApplicationReport, ApplicationsHold, DirectivesReport, of_application, of_argument_values, of_misplaced_directive, of_missing_argument, of_repeated_argument, of_repeated_directive, of_undefined_directive, of_unknown_argument}
use Rattle.graphql_specification.specs.Fields.{FieldFormReport, FieldReport, by_directives, by_form, by_values}
use Rattle.graphql_specification.specs.Fragments.{FragmentFormReport, FragmentLimit, FragmentReport, InlineFragmentConditionReport, InlineFragmentReport, SpreadReport, SpreadTargetReport, by_condition, by_fragment, by_fragment_directives, by_inline_directives, by_spread, by_spread_directives, spreads_nest}
use Rattle.graphql_specification.specs.Operations.{operation_location}
use Rattle.graphql_rules.specs.RuleSets.{HoldsIfOthersAreSilent, IsNeverOff, NamesRuleIn, OperationHoldsBut, RuleSet}
use Rattle.graphql_specification.specs.Selections.{SelectionReport, of_field, of_fragment, of_inline_fragment, of_spread}
use Rattle.graphql_specification.specs.Values.{ValueItselfReport}
use Rattle.graphql_specification.specs.Variables.{AreUsesReports, UsesReport, VariableDefinitionsHold, VariableReport, VariablesAreUsed, VariablesReport, of_default, of_no_input_type, of_repetition, of_undefined_type, of_variable, of_variable_directives}

-- what is never off is not off
pub is_not_off : (off : RuleSet) (d : Details) → IsNeverOff d → ¬ NamesRuleIn off d
is_not_off off (details.Diagnostic (report.UnusedVariable name)) never is = never
is_not_off off (details.Diagnostic (report.UnusedFragment name)) never is = never
is_not_off off _ never is = is

-- ==== what each part of an operation reports

module _ (schema : Schema) (variables : List (Node VariableDefinition)) where
  value_never : (ty : TypeReference) (value : Node Value) (r : DiagnosticData) (at : Option SourceSpan) →
      ValueItselfReport schema variables ty value r at → IsNeverOff (details.Diagnostic r)
  value_never ty value (report.UnusedVariable name) at says = says
  value_never ty value (report.UnusedFragment name) at says = says
  value_never ty value _ at says = tt

  arguments_never : {definitions : List (Node InputValueDefinition)} {given : List (Node Argument)} {r : DiagnosticData} {at : Option SourceSpan} →
      ArgumentValuesReport schema variables definitions given r at → IsNeverOff (details.Diagnostic r)
  arguments_never (of_usage misuse) = tt
  arguments_never {r = r} {at = at} (of_value says) = value_never says.broken.inner_ty says.broken.inner r at says.broken.broken

  application_never : {d : Node Directive} {definition : Node DirectiveDefinition} {r : DiagnosticData} {at : Option SourceSpan} →
      ApplicationReport schema variables d definition r at → IsNeverOff (details.Diagnostic r)
  application_never (of_unknown_argument lacks) = tt
  application_never (of_missing_argument misses) = tt
  application_never (of_argument_values says) = arguments_never says

module _ (schema : Option Schema) where
  directives_never : {variables : List (Node VariableDefinition)} {location : DirectiveLocation} {directives : List (Node Directive)} {r : DiagnosticData} {at : Option SourceSpan} →
      DirectivesReport schema variables location directives r at → IsNeverOff (details.Diagnostic r)
  directives_never (of_repeated_argument d is repeats) = tt
  directives_never (of_undefined_directive undefined) = tt
  directives_never (of_repeated_directive repeats) = tt
  directives_never (of_misplaced_directive misplaced) = tt
  directives_never (of_application applied says) = application_never _ _ says

  variable_never : {v : Node VariableDefinition} {r : DiagnosticData} {at : Option SourceSpan} → VariableReport schema v r at → IsNeverOff (details.Diagnostic r)
  variable_never (of_no_input_type has) = tt
  variable_never (of_undefined_type has) = tt
  variable_never {r = r} {at = at} (of_default says) = value_never says.against [] says.broken.inner_ty says.broken.inner r at says.broken.broken

  variables_never : {variables : List (Node VariableDefinition)} {r : DiagnosticData} {at : Option SourceSpan} →
      VariablesReport schema variables r at → IsNeverOff (details.Diagnostic r)
  variables_never (of_variable_directives is says) = directives_never says
  variables_never (of_variable is says) = variable_never says
  variables_never (of_repetition repeats) = tt

  form_never : (parent : Option NameText) (f : Node Field) (r : DiagnosticData) (at : Option SourceSpan) → FieldFormReport schema parent f r at → IsNeverOff (details.Diagnostic r)
  form_never parent f (report.UnusedVariable name) at says = says
  form_never parent f (report.UnusedFragment name) at says = says
  form_never parent f _ at says = tt

  field_never : {variables : List (Node VariableDefinition)} {parent : Option NameText} {f : Node Field} {r : DiagnosticData} {at : Option SourceSpan} →
      FieldReport schema variables parent f r at → IsNeverOff (details.Diagnostic r)
  field_never (by_directives says) = directives_never says
  field_never {parent = parent} {f = f} {r = r} {at = at} (by_form says) = form_never parent f r at says
  field_never {variables = variables} (by_values says) = arguments_never says.against variables says.broken

  condition_never : (parent : Option NameText) (i : Node InlineFragment) (r : DiagnosticData) (at : Option SourceSpan) →
      InlineFragmentConditionReport schema parent i r at → IsNeverOff (details.Diagnostic r)
  condition_never parent i (report.UnusedVariable name) at says = says
  condition_never parent i (report.UnusedFragment name) at says = says
  condition_never parent i _ at says = tt

  inline_fragment_never : {variables : List (Node VariableDefinition)} {parent : Option NameText} {i : Node InlineFragment} {r : DiagnosticData} {at : Option SourceSpan} →
      InlineFragmentReport schema variables parent i r at → IsNeverOff (details.Diagnostic r)
  inline_fragment_never (by_inline_directives says) = directives_never says
  inline_fragment_never {parent = parent} {i = i} {r = r} {at = at} (by_condition says) = condition_never parent i r at says

module _ (schema : Option Schema) (fragments : Fragments) where
  target_never : (parent : Option NameText) (p : Node FragmentSpread) (r : DiagnosticData) (at : Option SourceSpan) →
      SpreadTargetReport schema fragments parent p r at → IsNeverOff (details.Diagnostic r)
  target_never parent p (report.UnusedVariable name) at says = says
  target_never parent p (report.UnusedFragment name) at says = says
  target_never parent p _ at says = tt

  spread_never : {variables : List (Node VariableDefinition)} {parent : Option NameText} {p : Node FragmentSpread} {r : DiagnosticData} {at : Option SourceSpan} →
      SpreadReport schema fragments variables parent p r at → IsNeverOff (details.Diagnostic r)
  spread_never (by_spread_directives says) = directives_never schema says
  spread_never {parent = parent} {p = p} {r = r} {at = at} (by_spread says) = target_never parent p r at says

  fragment_form_never : (d : Node Fragment) (r : DiagnosticData) (at : Option SourceSpan) → FragmentFormReport schema fragments d r at → IsNeverOff (details.Diagnostic r)
  fragment_form_never d (report.UnusedVariable name) at says = says
  fragment_form_never d (report.UnusedFragment name) at says = says
  fragment_form_never d _ at says = tt

  fragment_never : {variables : List (Node VariableDefinition)} {d : Node Fragment} {r : DiagnosticData} {at : Option SourceSpan} →
      FragmentReport schema fragments variables d r at → IsNeverOff (details.Diagnostic r)
  fragment_never (by_fragment_directives says) = directives_never schema says
  fragment_never {d = d} {r = r} {at = at} (by_fragment says) = fragment_form_never d r at says

  selection_never : {variables : List (Node VariableDefinition)} {parent : Option NameText} {selections : List Selection} (r : DiagnosticData) (at : Option SourceSpan) →
      SelectionReport schema fragments variables parent selections r at → IsNeverOff (details.Diagnostic r)
  selection_never r at (of_field f reached says) = field_never schema says
  selection_never r at (of_inline_fragment i reached says) = inline_fragment_never schema says
  selection_never r at (of_spread p reached says) = spread_never says
  selection_never r at (of_fragment p reached found says) = fragment_never says

  limit_never : {d : Node Fragment} {said : Details} {at : Option SourceSpan} → FragmentLimit fragments d said at → IsNeverOff said
  limit_never (spreads_nest nests) = tt

-- a diagnostic in these words names no rule that may be off, if none of the words does
pub diagnostic_never : (P : DiagnosticData → Option SourceSpan → Type 0) → ((r : DiagnosticData) (at : Option SourceSpan) → P r at → IsNeverOff (details.Diagnostic r)) →
    (e : DiagnosticEntry) → IsDiagnostic P e → IsNeverOff e.details
diagnostic_never P never e said = by_details e.details e.location said where
  by_details : (d : Details) (at : Option SourceSpan) → DiagnosticReport P d at → IsNeverOff d
  by_details (details.Diagnostic r) at says = never r at says
  by_details (details.Build b) at says = absurd says
  by_details (details.RecursionLimit l) at says = absurd says

module _ (schema : Option Schema) where
  pub of_directives_never : (variables : List (Node VariableDefinition)) (location : DirectiveLocation) (directives : List (Node Directive)) (e : DiagnosticEntry) →
      IsDiagnostic (DirectivesReport schema variables location directives) e → IsNeverOff e.details
  of_directives_never variables location directives = diagnostic_never (DirectivesReport schema variables location directives) (λ r at says. directives_never schema says)

  pub of_variables_never : (variables : List (Node VariableDefinition)) (e : DiagnosticEntry) → IsDiagnostic (VariablesReport schema variables) e → IsNeverOff e.details
  of_variables_never variables = diagnostic_never (VariablesReport schema variables) (λ r at says. variables_never schema says)

  pub of_selections_never : (fragments : Fragments) (variables : List (Node VariableDefinition)) (parent : Option NameText) (selections : List Selection) (e : DiagnosticEntry) →
      SelectionEntryReport schema fragments variables parent selections e → IsNeverOff e.details
  of_selections_never fragments variables parent selections e (inl says) =
      diagnostic_never (SelectionReport schema fragments variables parent selections) (λ r at s. selection_never schema fragments r at s) e says
  of_selections_never fragments variables parent selections e (inr limit) = limit_never schema fragments limit.passes

-- ==== how what holds composes

-- a limit is never off
pub limit_is_never_off : (d : Details) → IsLimit d → IsNeverOff d
limit_is_never_off _ limit_of_walk = tt
limit_is_never_off _ limit_of_path = tt
limit_is_never_off _ limit_of_depth = tt

-- no diagnostic was added, if each is of a rule that is off, and none can be
none_added : (off : RuleSet) (Q : DiagnosticEntry → Type 0) → ((e : DiagnosticEntry) → Q e → ¬ NamesRuleIn off e.details) → (added : List DiagnosticEntry) →
    All Q added → All (λ e. NamesRuleIn off e.details) added → added ≡ []
none_added off Q not_off [] each offs = refl
none_added off Q not_off (e ∷ rest) each offs = absurd (not_off e (All-head Q e rest each) (All-head (λ x. NamesRuleIn off x.details) e rest offs))

module _ {old new : List DiagnosticEntry} where
  -- a check of rules of which none is off, if this holds of what is off
  pub of_check_if : (On : RuleSet → Type 0) {P : Type 0} {Q : DiagnosticEntry → Type 0} → ((off : RuleSet) → On off → (e : DiagnosticEntry) → Q e → ¬ NamesRuleIn off e.details) →
      ReportsWithin IsLimitEntry P Q old new → HoldsIfOthersAreSilent (λ off. On off → P) old new
  of_check_if On {Q = Q} not_off r = record {
    added = r.added;
    appended = r.appended;
    are = λ off offs on.
        let none : r.added ≡ [] = none_added off Q (not_off off on) r.added r.each offs in
        (r.silent (subst (All (λ e. ¬ IsLimitEntry e)) (sym none) (All-nil (λ e. ¬ IsLimitEntry e)))).0 none;
  }

  -- a check of rules that are never off
  pub of_check_within : {P : Type 0} {Q : DiagnosticEntry → Type 0} → ((e : DiagnosticEntry) → Q e → IsNeverOff e.details) → ReportsWithin IsLimitEntry P Q old new →
      HoldsIfOthersAreSilent (λ off. P) old new
  of_check_within never r =
      let found = of_check_if (λ off. ⊤) (λ off on e q. is_not_off off e.details (never e q)) r in
      record { added = found.added; appended = found.appended; are = λ off offs. found.are off offs tt }

  pub of_check : {P : Type 0} {Q : DiagnosticEntry → Type 0} → ((e : DiagnosticEntry) → Q e → IsNeverOff e.details) → Reports P Q old new →
      HoldsIfOthersAreSilent (λ off. P) old new
  of_check never r = of_check_within never (within IsLimitEntry r)

  -- in other words
  pub in_words_of_others : {P R : RuleSet → Type 0} → ((off : RuleSet) → P off → R off) → HoldsIfOthersAreSilent P old new → HoldsIfOthersAreSilent R old new
  in_words_of_others w r = record { added = r.added; appended = r.appended; are = λ off offs. w off (r.are off offs) }

-- one check after another
pub both_of_others : {P R : RuleSet → Type 0} {old mid new : List DiagnosticEntry} → HoldsIfOthersAreSilent P old mid → HoldsIfOthersAreSilent R mid new →
    HoldsIfOthersAreSilent (λ off. P off × R off) old new
both_of_others {old = old} {mid = mid} {new = new} a b = record {
  added = a.added ++ b.added;
  appended = appended_then old mid new a.added b.added a.appended b.appended;
  are = λ off offs. (
    a.are off (All-append_left (λ e. NamesRuleIn off e.details) a.added b.added offs),
    b.are off (All-append_right (λ e. NamesRuleIn off e.details) a.added b.added offs),
  );
}

-- a walk over a list, check by check: none yet, one more, and all
module _ {X : Type 0} (P : RuleSet → X → Type 0) (xs : List X) where
  pub walked_none_of_others : (old : List DiagnosticEntry) → HoldsIfOthersAreSilent (λ off. All (P off) (take 0 xs)) old old
  walked_none_of_others old = record { added = []; appended = sym (append-nil old); are = λ off offs. All-nil (P off) }

  pub walked_more_of_others : (i : ℕ) (x : X) (old mid new : List DiagnosticEntry) → i < length xs → x ≡ get_or xs i x →
      HoldsIfOthersAreSilent (λ off. All (P off) (take i xs)) old mid → HoldsIfOthersAreSilent (λ off. P off x) mid new →
      HoldsIfOthersAreSilent (λ off. All (P off) (take (i + 1) xs)) old new
  walked_more_of_others i x old mid new within item a b =
      in_words_of_others (λ off p. All-more (P off) xs i x within p.0 (subst (P off) item p.1)) (both_of_others a b)

  pub walked_all_of_others : (i : ℕ) (ys : List X) (old new : List DiagnosticEntry) → xs ≡ ys → length xs ≤ i →
      HoldsIfOthersAreSilent (λ off. All (P off) (take i xs)) old new → HoldsIfOthersAreSilent (λ off. All (P off) ys) old new
  walked_all_of_others i ys old new same past r =
      in_words_of_others (λ off all. subst (All (P off)) (take_all i xs past ∙ same) all) r

-- ==== unused variables

module _ (fragments : Fragments) (o : Operation) where
  on_are_not_off : (off : RuleSet) → IsFalse off.unused_variables → (d : Details) (at : Option SourceSpan) → DiagnosticReport (UsesReport fragments o) d at → ¬ NamesRuleIn off d
  on_are_not_off off on (details.Diagnostic (report.UnusedVariable name)) at says is = let h : ⊥ = cc in h
  on_are_not_off off on (details.Diagnostic (report.UnusedFragment name)) at says is = says
  on_are_not_off off on (details.Diagnostic r) at says is = is
  on_are_not_off off on (details.Build b) at says is = is
  on_are_not_off off on (details.RecursionLimit l) at says is = is

  -- the check of unused variables, which may be off
  pub of_uses : {old new : List DiagnosticEntry} → Appends (AreUsesReports fragments o) old new → KeepsReports (IsDiagnostic (UsesReport fragments o)) old new →
      HoldsIfOthersAreSilent (λ off. IsFalse off.unused_variables → VariablesAreUsed fragments o) old new
  of_uses {old = old} exact kept =
      let same : kept.added ≡ exact.added = append_cancel_left old kept.added exact.added (sym kept.appended ∙ exact.appended) in
      record {
        added = exact.added;
        appended = exact.appended;
        are = λ off offs on.
            let none : exact.added ≡ [] = none_added off (IsDiagnostic (UsesReport fragments o)) (λ e. on_are_not_off off on e.details e.location) exact.added
            (subst (All (IsDiagnostic (UsesReport fragments o))) same kept.each) offs in
            (none_reported fragments o).0 (subst (AreUsesReports fragments o) none exact.are);
      }

-- what was said of the parts of an operation, at hand in other lists
module _ (schema : Option Schema) (o : Operation) where
  pub directives_but : (variables : List (Node VariableDefinition)) (location : DirectiveLocation) (directives : List (Node Directive)) (old new : List DiagnosticEntry) →
      variables ≡ o.variables.items → location ≡ operation_location o.operation_type → directives ≡ o.directives.items →
      Reports (ApplicationsHold schema variables location directives) (IsDiagnostic (DirectivesReport schema variables location directives)) old new →
      HoldsIfOthersAreSilent (λ off. ApplicationsHold schema o.variables.items (operation_location o.operation_type) o.directives.items) old new
  directives_but variables location directives old new v l d r =
      rw (sym v, sym l, sym d) (of_check (of_directives_never schema variables location directives) r)

  pub variables_but : (variables : List (Node VariableDefinition)) (old new : List DiagnosticEntry) → variables ≡ o.variables.items →
      Reports (VariableDefinitionsHold schema variables) (IsDiagnostic (VariablesReport schema variables)) old new →
      HoldsIfOthersAreSilent (λ off. VariableDefinitionsHold schema o.variables.items) old new
  variables_but variables old new v r = rw (sym v) (of_check (of_variables_never schema variables) r)

-- what was said of an operation, at hand in another form
pub operation_but : (document : ExecutableDocument) (given schema : Option Schema) (part o : Operation) (old new : List DiagnosticEntry) → given ≡ schema → part ≡ o →
    HoldsIfOthersAreSilent (λ off. OperationHoldsBut off given document part) old new →
    HoldsIfOthersAreSilent (λ off. OperationHoldsBut off schema document o) old new
operation_but document given schema part o old new s p r = rw (sym s, sym p) r

-- what a call says if it answers
pub if_it_answers : {T E : Type 0} (r : Result T E) (A B C : Type 0) → (A → C) → MatchResult r (λ _. A) (λ _. B) → OnOk r C
if_it_answers (Ok x) A B C w a = w a
if_it_answers (Err x) A B C w b = tt
