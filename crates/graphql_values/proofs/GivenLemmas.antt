-- A given argument beside its definition.
use Rattle.std.proofs.Common.{◌≡◌, ◌↔◌, List, Some, sym, ap, ◌∙◌, subst, Contains}
use Rattle.std.specs.Prelude.{Option, is_some}
use Rattle.std.proofs.lemmas.Option.{same_Some}
use Rattle.graphql_specification.specs.Arguments.{ArgumentValueHolds, of_usage, of_value}
use Rattle.graphql_documents.specs.Definitions.{definition_named}
use Rattle.graphql_diagnostics.specs.Diagnostics.{IsDiagnostic}
use Rattle.graphql_specification.specs.VariableUsages.{UsageReport, UsageHolds}
use Rattle.graphql_specification.specs.Values.{Accepts, ValueReport}
use Rattle.graphql_documents.specs.TypeReferences.{reference_of}
use Rattle.graphql_diagnostics.proofs.DiagnosticLemmas.{diagnostic_wider}
use Rattle.graphql_diagnostics.specs.declared.data.DiagnosticData.TheVariants as report
use Rattle.graphql_diagnostics.specs.declared.data.DiagnosticData.{DiagnosticData}
use Rattle.graphql_diagnostics.specs.declared.lists.DiagnosticEntry.{DiagnosticEntry}
use Rattle.graphql_documents.specs.declared.documents.definitions.InputValueDefinition.{InputValueDefinition}
use Rattle.graphql_documents.specs.declared.documents.definitions.VariableDefinition.{VariableDefinition}
use Rattle.graphql_documents.specs.declared.documents.directives.Argument.{Argument}
use Rattle.graphql_nodes.specs.declared.nodes.Node.{Node}
use Rattle.graphql_documents.specs.declared.documents.schemas.Schema.{Schema}
use Rattle.graphql_nodes.specs.declared.spans.SourceSpan.{SourceSpan}
use Rattle.graphql_values.specs.GivenArguments.{GivenArgumentHolds, GivenArgumentReport, of_argument_values}
use Rattle.graphql_values.specs.declared.argument.owners.GivenArguments.{GivenArguments}

module _ (schema : Schema) (variables : List (Node VariableDefinition)) (arguments : GivenArguments) (a : Node Argument) (d : Node InputValueDefinition)
    (in' : Contains arguments.given.now a) (found : definition_named a.value.value.name arguments.definitions.now ≡ Some d) where
  misuse : (r : DiagnosticData) (at : Option SourceSpan) → UsageReport variables d a r at → GivenArgumentReport schema variables arguments r at
  misuse (report.DisallowedVariableUsage variable variable_type argument argument_type variable_location argument_location) at said =
      of_argument_values (of_usage (record { a = a; definition = d; is_given = in'; defined = found; misuse = said }))
  misuse r at said = absurd said

  -- a diagnostic on a variable that is not allowed there
  pub names_misuse : (e : DiagnosticEntry) → IsDiagnostic (UsageReport variables d a) e → IsDiagnostic (GivenArgumentReport schema variables arguments) e
  names_misuse = diagnostic_wider (UsageReport variables d a) (GivenArgumentReport schema variables arguments) misuse

  -- the argument holds only where its variable is allowed there
  pub usage_needed : GivenArgumentHolds schema variables arguments.definitions.now a → UsageHolds variables d.value.value a.value.value.value.value.value
  usage_needed h = (h.value_holds d found).usage

  module _ (input : InputValueDefinition) (same : input ≡ d.value.value) where
    -- a diagnostic on its value
    pub names_wrong_value : (e : DiagnosticEntry) → IsDiagnostic (ValueReport schema variables (reference_of input.ty) a.value.value.value) e →
        IsDiagnostic (GivenArgumentReport schema variables arguments) e
    names_wrong_value e said =
        diagnostic_wider (ValueReport schema variables (reference_of d.value.value.ty) a.value.value.value) (GivenArgumentReport schema variables arguments)
        (λ r at broken. of_argument_values (of_value (record { a = a; definition = d; is_given = in'; defined = found; broken = broken }))) e
        (subst (λ x. IsDiagnostic (ValueReport schema variables (reference_of x.ty) a.value.value.value) e) same said)

    -- the argument holds where its variable is allowed there and its value is accepted
    pub given_decides : (UsageHolds variables d.value.value a.value.value.value.value.value × Accepts schema variables input.ty.value.value a.value.value.value.value.value) ↔
        GivenArgumentHolds schema variables arguments.definitions.now a
    given_decides = (
      λ p.
          let accepted = subst (λ x. Accepts schema variables x.ty.value.value a.value.value.value.value.value) same p.1 in
          record {
            defined = ap is_some found;
            value_holds = λ other is.
                subst (λ x. ArgumentValueHolds schema variables x.value.value a.value.value.value.value.value) (same_Some d other (sym found ∙ is))
                (record { usage = p.0; accepted = accepted });
          },
      λ h. (
        usage_needed h,
        subst (λ x. Accepts schema variables x.ty.value.value a.value.value.value.value.value) (sym same) (h.value_holds d found).accepted,
      ),
    )
