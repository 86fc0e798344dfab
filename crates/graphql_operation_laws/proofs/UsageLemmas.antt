-- The usages of variables of an operation are the same whatever fragments there are that it does not reach. Specification: 5.8.3 All Variable
-- Uses Defined, 5.8.5 All Variable Usages Are Allowed.
use Rattle.std.proofs.Common.{subst}
use Rattle.graphql_documents.specs.Selections.{Fragments, fragments_of}
use Rattle.graphql_documents.specs.declared.documents.executables.ExecutableDocument.{ExecutableDocument}
use Rattle.graphql_documents.specs.declared.documents.executables.Fragment.{Fragment}
use Rattle.graphql_documents.specs.declared.documents.executables.Operation.{Operation}
use Rattle.graphql_documents.specs.declared.documents.schemas.Schema.{Schema}
use Rattle.graphql_usage_rules.specs.UndefinedVariables.{UsedVariablesAreDefined}
use Rattle.graphql_usage_rules.specs.Usages as scope
use Rattle.graphql_usage_rules.specs.Usages.{Usage, UsedInDirectives, UsedInScope}
use Rattle.graphql_usage_rules.specs.VariableMisuses.{OperationUsagesAreAllowed}
use Rattle.graphql_operation_laws.specs.Agreement.{AgreeFrom}
use Rattle.graphql_operation_laws.proofs.AgreementLemmas.{found_back, reachable_back}
use Rattle.graphql_operation_laws.proofs.UseLemmas.{uses_back}

module _ (a b : Fragments) where
  pub used_back : (schema : Schema) (o : Operation) (usage : Usage) → AgreeFrom a b o.selection_set → UsedInScope schema b o usage → UsedInScope schema a o usage
  used_back schema o usage agree (scope.in_operation used) = scope.in_operation used
  used_back schema o usage agree (scope.at_selection s reached used) = scope.at_selection s (reachable_back a b reached agree) used
  used_back schema o usage agree (scope.in_fragment_definition p e reached defined used) =
      let back = reachable_back a b reached agree in
      let found = found_back a b p e back agree defined in
      scope.in_fragment_definition p found.0 back found.1 (subst (λ (v : Fragment). UsedInDirectives schema v.directives.items usage) found.2.same_value used)

  pub uses_defined : (o : Operation) → AgreeFrom a b o.selection_set → UsedVariablesAreDefined a o → UsedVariablesAreDefined b o
  uses_defined o agree h name used = h name (uses_back a b o name agree used)

pub usages_allowed : (schema : Schema) (d e : ExecutableDocument) (o : Operation) → AgreeFrom (fragments_of d) (fragments_of e) o.selection_set →
    OperationUsagesAreAllowed schema d o → OperationUsagesAreAllowed schema e o
usages_allowed schema d e o agree h usage used = h usage (used_back (fragments_of d) (fragments_of e) schema o usage agree used)
