-- What is said of an operation, part by part, and of several.
use Rattle.std.proofs.Common.{◌≡◌, ◌⊎◌, ◌↔◌, inl, inr, List, [], Option, refl, sym, ◌∙◌, subst, All, Contains}
use Rattle.std.proofs.lemmas.List.{append_cancel_left}
use Rattle.std.proofs.lemmas.List.Elements.{All-head, All-tail, All-weaker}
use Rattle.graphql_documents.specs.Executables.{operations_of}
use Rattle.graphql_diagnostics.specs.Diagnostics.{IsDiagnostic, IsLimit, IsLimitEntry, limit_of_walk, DiagnosticReport}
use Rattle.graphql_specification.specs.Directives.{DirectivesReport, ApplicationsHold}
use Rattle.graphql_specification.specs.Operations.{OperationReport, OperationsReport, of_directives, of_one, of_variables, of_unused_variable, of_selection, OperationHolds, operation_location, root_type, OperationLimit, OperationsLimit, one_passes, spread_passes, variable_walk_passes}
use Rattle.graphql_specification.specs.Selections.{ReachableSelectionsHold}
use Rattle.graphql_nodes.specs.Names.{NameText, SameName}
use Rattle.graphql_diagnostics.specs.Reports.{Appends, KeepsReports, Reports, ReportsWithin}
use Rattle.graphql_documents.specs.Selections.{fragments_of, selections_of}
use Rattle.graphql_specification.specs.Variables.{AreUnusedReports, AreUsesReports, UsesLimitReport, UnusedVariableReport, UsesReport, VariablesReport, are_unused, is_bound, no_name, unused_name, used_name, VariableDefinitionsHold, VariablesAreUsed}
use Rattle.graphql_documents.specs.VariableUses.{UsesVariable}
use Rattle.graphql_diagnostics.specs.declared.data.DiagnosticData.{DiagnosticData}
use Rattle.graphql_diagnostics.specs.declared.data.DiagnosticData.TheVariants as report
use Rattle.graphql_diagnostics.specs.declared.details.Details.{Details}
use Rattle.graphql_diagnostics.specs.declared.details.Details.TheVariants as details
use Rattle.graphql_diagnostics.specs.declared.lists.DiagnosticEntry.{DiagnosticEntry}
use Rattle.graphql_nodes.specs.declared.directive_locations.DirectiveLocation.{DirectiveLocation}
use Rattle.graphql_documents.specs.declared.documents.definitions.VariableDefinition.{VariableDefinition}
use Rattle.graphql_documents.specs.declared.documents.directives.Directive.{Directive}
use Rattle.graphql_diagnostics.proofs.ReportLemmas.{kept_wider, wider}
use Rattle.graphql_diagnostics.proofs.ReportWithinLemmas.{wider_within}
use Rattle.graphql_documents.specs.declared.documents.executables.ExecutableDocument.{ExecutableDocument}
use Rattle.graphql_documents.specs.declared.documents.executables.Operation.{Operation}
use Rattle.graphql_nodes.specs.declared.nodes.Node.{Node}
use Rattle.graphql_documents.specs.declared.documents.schemas.Schema.{Schema}
use Rattle.graphql_nodes.specs.declared.spans.SourceSpan.{SourceSpan}
use Rattle.graphql_diagnostics.proofs.DiagnosticLemmas.{diagnostic_wider}
use Rattle.graphql_nodes.proofs.NameLemmas.{same_name_back}
use Rattle.graphql_documents.proofs.VariableUseLemmas.{uses_same}
use Rattle.graphql_laws.proofs.VariableLaws.{defined_as_used, none_reported}
use Rattle.graphql_rules.specs.SelectionSteps.{SelectionEntryReport}

-- the diagnostics of an operation, and the limits
abbrev pub OperationEntryReport : Option Schema → ExecutableDocument → Operation → DiagnosticEntry → Type 0
OperationEntryReport schema document o e = IsDiagnostic (OperationReport schema document o) e ⊎ OperationLimit document o e.details e.location

module _ (schema : Option Schema) (document : ExecutableDocument) (o : Operation) where
  pub of_its_directives : (e : DiagnosticEntry) →
      IsDiagnostic (DirectivesReport schema o.variables.items (operation_location o.operation_type) o.directives.items) e → OperationEntryReport schema document o e
  of_its_directives e says =
      inl (diagnostic_wider (DirectivesReport schema o.variables.items (operation_location o.operation_type) o.directives.items) (OperationReport schema document o)
      (λ r at b. of_directives b) e says)

  pub of_its_variables : (e : DiagnosticEntry) → IsDiagnostic (VariablesReport schema o.variables.items) e → OperationEntryReport schema document o e
  of_its_variables e says =
      inl (diagnostic_wider (VariablesReport schema o.variables.items) (OperationReport schema document o) (λ r at b. of_variables b) e says)

  pub of_its_selections : (e : DiagnosticEntry) →
      SelectionEntryReport schema (fragments_of document) o.variables.items (root_type schema o) (selections_of o.selection_set) e → OperationEntryReport schema document o e
  of_its_selections e (inl says) = inl (diagnostic_wider _ (OperationReport schema document o) (λ r at b. of_selection b) e says)
  of_its_selections e (inr limit) = inr (spread_passes limit)

  -- of the uses of its variables
  pub of_its_uses : (e : DiagnosticEntry) → IsDiagnostic (UsesReport (fragments_of document) o) e → OperationEntryReport schema document o e
  of_its_uses e said = by_details e.details e.location said where
    by_report : (r : DiagnosticData) (at : Option SourceSpan) → UsesReport (fragments_of document) o r at →
        OperationReport schema document o r at ⊎ OperationLimit document o (details.Diagnostic r) at
    by_report (report.UnusedVariable name) at unused = inl (of_unused_variable unused)
    by_report report.RecursionError at bound = inr (subst (OperationLimit document o (details.Diagnostic report.RecursionError)) (sym bound.0) (variable_walk_passes bound.1))
    by_report r at none = absurd none

    by_details : (d : Details) (at : Option SourceSpan) → DiagnosticReport (UsesReport (fragments_of document) o) d at →
        DiagnosticReport (OperationReport schema document o) d at ⊎ OperationLimit document o d at
    by_details (details.Diagnostic r) at says = by_report r at says
    by_details (details.Build b) at says = absurd says
    by_details (details.RecursionLimit l) at says = absurd says

  -- where all variables are used none is reported, but the limit may be
  none_unused : {names : List NameText} {reports : List DiagnosticEntry} → AreUnusedReports (fragments_of document) o names reports →
      All (UsesVariable (fragments_of document) o) names → reports ≡ []
  none_unused no_name all = refl
  none_unused (used_name {name = name} {names = names} used rest) all = none_unused rest (All-tail (UsesVariable (fragments_of document) o) name names all)
  none_unused (unused_name {name = name} {names = names} {entry = entry} says rest) all =
      absurd (is_used entry.details entry.location says (All-head (UsesVariable (fragments_of document) o) name names all)) where
        by_report : (r : DiagnosticData) (at : Option SourceSpan) → UnusedVariableReport (fragments_of document) o name r at → UsesVariable (fragments_of document) o name → ⊥
        by_report (report.UnusedVariable reported) at says used =
            says.1.unused (uses_same (fragments_of document) o name says.1.v.value.value.name
            (subst (SameName name) says.1.name_is (same_name_back reported name says.0)) used)
        by_report r at says used = says

        is_used : (d : Details) (at : Option SourceSpan) → DiagnosticReport (UnusedVariableReport (fragments_of document) o name) d at → UsesVariable (fragments_of document) o name → ⊥
        is_used (details.Diagnostic r) at says used = by_report r at says used
        is_used (details.Build b) at says used = says
        is_used (details.RecursionLimit l) at says used = says

  -- a diagnostic of the limit is one of a limit
  bound_is_limit : (e : DiagnosticEntry) → IsDiagnostic (UsesLimitReport (fragments_of document) o) e → IsLimitEntry e
  bound_is_limit e said = by_details e.details e.location said where
    by_report : (r : DiagnosticData) (at : Option SourceSpan) → UsesLimitReport (fragments_of document) o r at → IsLimit (details.Diagnostic r)
    by_report report.RecursionError at bound = limit_of_walk
    by_report r at none = absurd none

    by_details : (d : Details) (at : Option SourceSpan) → DiagnosticReport (UsesLimitReport (fragments_of document) o) d at → IsLimit d
    by_details (details.Diagnostic r) at says = by_report r at says
    by_details (details.Build b) at says = absurd says
    by_details (details.RecursionLimit l) at says = absurd says

  none_of_uses : {reports : List DiagnosticEntry} → AreUsesReports (fragments_of document) o reports → All (λ e. ¬ IsLimitEntry e) reports →
      VariablesAreUsed (fragments_of document) o → reports ≡ []
  none_of_uses (are_unused h) no_limit used = none_unused h (defined_as_used (fragments_of document) o used)
  none_of_uses (is_bound {entry = e} says) no_limit used =
      absurd (All-head (λ x. ¬ IsLimitEntry x) e [] no_limit (bound_is_limit e says))

  -- the uses of its variables, as a check within a limit
  pub uses_checked : (old new : List DiagnosticEntry) →
      Appends (AreUsesReports (fragments_of document) o) old new → KeepsReports (IsDiagnostic (UsesReport (fragments_of document) o)) old new →
      ReportsWithin IsLimitEntry (VariablesAreUsed (fragments_of document) o) (OperationEntryReport schema document o) old new
  uses_checked old new exact kept =
      let same : kept.added ≡ exact.added = append_cancel_left old kept.added exact.added (sym kept.appended ∙ exact.appended) in
      record {
        added = exact.added;
        appended = exact.appended;
        silent = λ no_limit. (
          λ none. (none_reported (fragments_of document) o).0 (subst (AreUsesReports (fragments_of document) o) none exact.are),
          none_of_uses exact.are no_limit,
        );
        each = All-weaker (IsDiagnostic (UsesReport (fragments_of document) o)) (OperationEntryReport schema document o) of_its_uses exact.added
            (subst (All (IsDiagnostic (UsesReport (fragments_of document) o))) same kept.each);
      }

  -- an operation holds where its parts do
  pub operation_decides : (((ApplicationsHold schema o.variables.items (operation_location o.operation_type) o.directives.items ×
      VariableDefinitionsHold schema o.variables.items) × VariablesAreUsed (fragments_of document) o) ×
      ReachableSelectionsHold schema [] (fragments_of document) o.variables.items (root_type schema o) (selections_of o.selection_set)) ↔
      OperationHolds schema document o
  operation_decides = (
    λ p. record { directives = p.0.0.0; variables = record { definitions = p.0.0.1; used = p.0.1 }; selections = p.1 },
    λ h. (((h.directives, h.variables.definitions), h.variables.used), h.selections),
  )

-- what was said of the directives and variables of an operation, at hand in other lists
module _ (schema : Option Schema) (document : ExecutableDocument) (o : Operation) where
  pub directives_checked : (variables : List (Node VariableDefinition)) (location : DirectiveLocation) (directives : List (Node Directive)) (old new : List DiagnosticEntry) →
      variables ≡ o.variables.items → location ≡ operation_location o.operation_type → directives ≡ o.directives.items →
      Reports (ApplicationsHold schema variables location directives) (IsDiagnostic (DirectivesReport schema variables location directives)) old new →
      Reports (ApplicationsHold schema o.variables.items (operation_location o.operation_type) o.directives.items) (OperationEntryReport schema document o) old new
  directives_checked variables location directives old new v l d r =
      wider (of_its_directives schema document o) (rw (sym v, sym l, sym d) r)

  pub directives_kept : (variables : List (Node VariableDefinition)) (location : DirectiveLocation) (directives : List (Node Directive)) (old new : List DiagnosticEntry) →
      variables ≡ o.variables.items → location ≡ operation_location o.operation_type → directives ≡ o.directives.items →
      KeepsReports (IsDiagnostic (DirectivesReport schema variables location directives)) old new → KeepsReports (OperationEntryReport schema document o) old new
  directives_kept variables location directives old new v l d r = kept_wider (of_its_directives schema document o) (rw (sym v, sym l, sym d) r)

  pub variables_checked : (variables : List (Node VariableDefinition)) (old new : List DiagnosticEntry) → variables ≡ o.variables.items →
      Reports (VariableDefinitionsHold schema variables) (IsDiagnostic (VariablesReport schema variables)) old new →
      Reports (VariableDefinitionsHold schema o.variables.items) (OperationEntryReport schema document o) old new
  variables_checked variables old new v r = wider (of_its_variables schema document o) (rw (sym v) r)

  pub variables_kept : (variables : List (Node VariableDefinition)) (old new : List DiagnosticEntry) → variables ≡ o.variables.items →
      KeepsReports (IsDiagnostic (VariablesReport schema variables)) old new → KeepsReports (OperationEntryReport schema document o) old new
  variables_kept variables old new v r = kept_wider (of_its_variables schema document o) (rw (sym v) r)

-- the diagnostics of the operations of a document, and the limits
abbrev pub OperationsEntryReport : Option Schema → ExecutableDocument → DiagnosticEntry → Type 0
OperationsEntryReport schema document e = IsDiagnostic (OperationsReport schema document) e ⊎ OperationsLimit document e.details e.location

pub of_an_operation : (schema : Option Schema) (document : ExecutableDocument) (o : Node Operation) → Contains (operations_of document) o →
    (e : DiagnosticEntry) → OperationEntryReport schema document o.value.value e → OperationsEntryReport schema document e
of_an_operation schema document o in' e (inl says) =
    inl (diagnostic_wider (OperationReport schema document o.value.value) (OperationsReport schema document) (λ r at b. of_one in' b) e says)
of_an_operation schema document o in' e (inr limit) = inr (one_passes in' limit)

-- one of them was checked, at hand in another form
module _ (document : ExecutableDocument) (o : Node Operation) (in' : Contains (operations_of document) o) where
  pub operation_checked : (given schema : Option Schema) (part : Operation) (old new : List DiagnosticEntry) → given ≡ schema → part ≡ o.value.value →
      ReportsWithin IsLimitEntry (OperationHolds given document part) (OperationEntryReport given document part) old new →
      ReportsWithin IsLimitEntry (OperationHolds schema document o.value.value) (OperationsEntryReport schema document) old new
  operation_checked given schema part old new s p r = wider_within IsLimitEntry (of_an_operation schema document o in') (rw (sym s, sym p) r)

  pub operation_kept : (given schema : Option Schema) (part : Operation) (old new : List DiagnosticEntry) → given ≡ schema → part ≡ o.value.value →
      KeepsReports (OperationEntryReport given document part) old new → KeepsReports (OperationsEntryReport schema document) old new
  operation_kept given schema part old new s p r = kept_wider (of_an_operation schema document o in') (rw (sym s, sym p) r)
