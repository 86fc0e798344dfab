-- Directive definitions, one by one, and what is reported of them.
use Rattle.std.proofs.Common.{◌⊎◌, inl, inr, [], ◌∷◌, ◌++◌, All, Contains, List, Option}
use Rattle.std.specs.Prelude.{Result, codes}
use Rattle.std.proofs.lemmas.List.Elements.{All-append, All-cons, All-head, All-nil}
use Rattle.graphql_diagnostics.specs.Diagnostics.{IsDiagnostic, IsLimitEntry}
use Rattle.graphql_specification.specs.InputValueDefinitions.{ArgumentDefinitionsReport, NameReport, of_reserved_name, ArgumentDefinitionsHold}
use Rattle.graphql_specification.specs.DirectiveCycles.{DirectiveLimit, DirectivesLimit, DirectiveHasNoCycle, DirectiveCycleReport}
use Rattle.graphql_nodes.specs.Names.{IsFreeName, NameText}
use Rattle.graphql_diagnostics.specs.Reports.{Reports, ReportsWithin}
use Rattle.graphql_specification.specs.DirectiveDefinitions.{DirectiveDefinitionReport, DirectiveDefinitionsReport, directive_applies_itself, directive_definition_arguments, directive_definition_name, DirectiveDefinitionHolds}
use Rattle.graphql_diagnostics.proofs.DiagnosticLemmas.{diagnostic_wider}
use Rattle.graphql_diagnostics.proofs.ReportLemmas.{wider}
use Rattle.graphql_documents.proofs.ListLemmas.{All-append_left, All-append_right}
use Rattle.graphql_diagnostics.proofs.ReportWithinLemmas.{ChecksListWithin, both_within, checks_after_within, checks_words_within, in_words_within, within}
use Rattle.graphql_diagnostics.specs.declared.data.DiagnosticData.{DiagnosticData}
use Rattle.graphql_diagnostics.specs.declared.lists.DiagnosticEntry.{DiagnosticEntry}
use Rattle.graphql_documents.specs.declared.documents.definitions.DirectiveDefinition.{DirectiveDefinition}
use Rattle.graphql_nodes.specs.declared.directive_locations.DirectiveLocation.TheVariants as allowed_at
use Rattle.graphql_nodes.specs.declared.nodes.Node.{Node}
use Rattle.graphql_documents.specs.declared.documents.schemas.Schema.{Schema}
use Rattle.graphql_nodes.specs.declared.spans.SourceSpan.{SourceSpan}
use Rattle.graphql_variables.proofs.FirstPlaceLemmas.{holds_on_ok}
use Rattle.graphql_schemas.proofs.TypeLemmas.{checks_wider_within}

-- a true report on a directive definition, of a rule or of a limit
abbrev pub NamesDefinition : Schema → Node DirectiveDefinition → DiagnosticEntry → Type 0
NamesDefinition schema d e = IsDiagnostic (DirectiveDefinitionReport schema d) e ⊎ DirectiveLimit schema d e.details e.location

-- the same of one of those of a schema
abbrev pub NamesDefinitions : Schema → DiagnosticEntry → Type 0
NamesDefinitions schema e = IsDiagnostic (DirectiveDefinitionsReport schema) e ⊎ DirectivesLimit schema e.details e.location

module _ (schema : Schema) (d : Node DirectiveDefinition) where
  of_name : (r : DiagnosticData) (at : Option SourceSpan) → NameReport (codes "a directive definition") d.value.value.name r at → DirectiveDefinitionReport schema d r at
  of_name r at (of_reserved_name said) = directive_definition_name said

  -- a diagnostic on its name or on its arguments is one on the definition
  pub names_definition_name : (e : DiagnosticEntry) → IsDiagnostic (NameReport (codes "a directive definition") d.value.value.name) e → NamesDefinition schema d e
  names_definition_name e said =
      inl (diagnostic_wider (NameReport (codes "a directive definition") d.value.value.name) (DirectiveDefinitionReport schema d) of_name e said)

  pub names_definition_arguments : (e : DiagnosticEntry) →
      IsDiagnostic (ArgumentDefinitionsReport schema allowed_at.ArgumentDefinition d.value.value.arguments.items) e → NamesDefinition schema d e
  names_definition_arguments e said =
      inl (diagnostic_wider (ArgumentDefinitionsReport schema allowed_at.ArgumentDefinition d.value.value.arguments.items) (DirectiveDefinitionReport schema d)
      (λ r at broken. directive_definition_arguments broken) e said)

  -- it was checked, part by part
  -- a diagnostic of a cycle is one on the definition
  names_cycle : (e : DiagnosticEntry) → IsDiagnostic (DirectiveCycleReport schema d) e ⊎ DirectiveLimit schema d e.details e.location → NamesDefinition schema d e
  names_cycle e (inl said) =
      inl (diagnostic_wider (DirectiveCycleReport schema d) (DirectiveDefinitionReport schema d) (λ r at cycle. directive_applies_itself cycle) e said)
  names_cycle e (inr limit) = inr limit

  pub definition_checked : {T E : Type 0} (r : Result T E) (old named argued new : List DiagnosticEntry) →
      Reports (IsFreeName d.value.value.name) (IsDiagnostic (NameReport (codes "a directive definition") d.value.value.name)) old named →
      Reports (ArgumentDefinitionsHold schema allowed_at.ArgumentDefinition d.value.value.arguments.items)
      (IsDiagnostic (ArgumentDefinitionsReport schema allowed_at.ArgumentDefinition d.value.value.arguments.items)) named argued →
      ChecksListWithin IsLimitEntry r (DirectiveHasNoCycle schema d)
      (λ e. IsDiagnostic (DirectiveCycleReport schema d) e ⊎ DirectiveLimit schema d e.details e.location) argued new →
      ChecksListWithin IsLimitEntry r (DirectiveDefinitionHolds schema d) (NamesDefinition schema d) old new
  definition_checked r old named argued new by_name by_arguments by_cycle =
      let Q = NamesDefinition schema d in
      checks_words_within IsLimitEntry r _ (DirectiveDefinitionHolds schema d) Q Q old new
      (holds_on_ok r _ (λ p. record { name = p.0; arguments = p.1.0; no_cycle = p.1.1 }, λ h. (h.name, (h.arguments, h.no_cycle)))) (λ e q. q)
      (checks_after_within IsLimitEntry r _ _ Q old named new (within IsLimitEntry (wider names_definition_name by_name))
      (checks_after_within IsLimitEntry r _ _ Q named argued new (within IsLimitEntry (wider names_definition_arguments by_arguments))
      (checks_wider_within r _ _ Q argued new names_cycle by_cycle)))

-- a diagnostic on one of the definitions is one on them together
pub names_one : (schema : Schema) (entry : NameText × Node DirectiveDefinition) → Contains schema.directive_definitions.entries entry →
    (e : DiagnosticEntry) → NamesDefinition schema entry.1 e → NamesDefinitions schema e
names_one schema entry stands e (inl said) =
    inl (diagnostic_wider (DirectiveDefinitionReport schema entry.1) (DirectiveDefinitionsReport schema) (λ r at broken. (entry, stands, broken)) e said)
names_one schema entry stands e (inr limit) = inr (entry, stands, limit)

-- one more of those of which something is checked within a limit
pub done_more_within : {X : Type 0} (P : X → Type 0) (Q : DiagnosticEntry → Type 0) (done : List X) (x : X) (old mid new : List DiagnosticEntry) →
    ReportsWithin IsLimitEntry (All P done) Q old mid → ReportsWithin IsLimitEntry (P x) Q mid new → ReportsWithin IsLimitEntry (All P (done ++ x ∷ [])) Q old new
done_more_within P Q done x old mid new a b =
    in_words_within IsLimitEntry (
      λ p. All-append P done (x ∷ []) p.0 (All-cons P x [] p.1 (All-nil P)),
      λ all. (All-append_left P done (x ∷ []) all, All-head P x [] (All-append_right P done (x ∷ []) all)),
    )
    (both_within IsLimitEntry a b)
