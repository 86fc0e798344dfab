-- Rules that a user may turn off, because no other rule depends on them; and operations of which the other rules hold. Specification: 5.5.1.4
-- Fragments Must Be Used; 5.8.4 All Variables Used.
use Rattle.std.specs.Prelude.{All, Bool, IsFalse, IsTrue, List, [], Option, false, ⊤}
use Rattle.graphql_diagnostics.specs.Reports.{Appends}
use Rattle.graphql_documents.specs.Selections.{fragments_of, selections_of}
use Rattle.graphql_specification.specs.Directives.{ApplicationsHold}
use Rattle.graphql_specification.specs.Operations.{operation_location, root_type}
use Rattle.graphql_specification.specs.Selections.{ReachableSelectionsHold}
use Rattle.graphql_specification.specs.Variables.{VariableDefinitionsHold, VariablesAreUsed}
use Rattle.graphql_documents.specs.declared.documents.executables.ExecutableDocument.{ExecutableDocument}
use Rattle.graphql_documents.specs.declared.documents.executables.Operation.{Operation}
use Rattle.graphql_documents.specs.declared.documents.schemas.Schema.{Schema}
use Rattle.graphql_diagnostics.specs.declared.data.DiagnosticData.TheVariants as report
use Rattle.graphql_diagnostics.specs.declared.details.Details.TheVariants as details
use Rattle.graphql_diagnostics.specs.declared.details.Details.{Details}
use Rattle.graphql_diagnostics.specs.declared.lists.DiagnosticEntry.{DiagnosticEntry}

-- which of these rules are off
pub record RuleSet : Type 0 where
  pub unused_variables : Bool
  pub unused_fragments : Bool

-- none is off
abbrev pub nothing_off : RuleSet
nothing_off = record { unused_variables = false; unused_fragments = false }

-- the diagnostic names a rule that is off
abbrev pub NamesRuleIn : RuleSet → Details → Type 0
NamesRuleIn off (details.Diagnostic (report.UnusedVariable name)) = IsTrue off.unused_variables
NamesRuleIn off (details.Diagnostic (report.UnusedFragment name)) = IsTrue off.unused_fragments
NamesRuleIn off _ = ⊥

-- the diagnostic names a rule that is never off, or a limit
abbrev pub IsNeverOff : Details → Type 0
IsNeverOff (details.Diagnostic (report.UnusedVariable name)) = ⊥
IsNeverOff (details.Diagnostic (report.UnusedFragment name)) = ⊥
IsNeverOff _ = ⊤

-- if all diagnostics that were added name rules that are off, this holds, which depends on what is off
abbrev pub HoldsIfOthersAreSilent : (RuleSet → Type 0) → List DiagnosticEntry → List DiagnosticEntry → Type 0
HoldsIfOthersAreSilent Holds old new =
    Appends (λ added. (off : RuleSet) → All (λ e. NamesRuleIn off e.details) added → Holds off) old new

-- an operation holds, except for rules that are off, and apart from merging and the rules of subscriptions
pub record OperationHoldsBut (off : RuleSet) (schema : Option Schema) (document : ExecutableDocument) (o : Operation) : Type 0 where
  pub directives : ApplicationsHold schema o.variables.items (operation_location o.operation_type) o.directives.items
  pub definitions : VariableDefinitionsHold schema o.variables.items
  pub used : IsFalse off.unused_variables → VariablesAreUsed (fragments_of document) o
  pub selections : ReachableSelectionsHold schema [] (fragments_of document) o.variables.items (root_type schema o) (selections_of o.selection_set)
