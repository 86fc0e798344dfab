-- An operation uses the same variables whatever fragments there are that it does not reach. Specification: 5.8.3 All Variable Uses Defined,
-- 5.8.4 All Variables Used, 5.8.5 All Variable Usages Are Allowed.
use Rattle.std.proofs.Common.{Option, subst}
use Rattle.std.proofs.lemmas.List.Elements.{All-weaker}
use Rattle.graphql_nodes.specs.Names.{NameText}
use Rattle.graphql_documents.specs.Selections.{Fragments}
use Rattle.graphql_documents.specs.VariableUses.{StandsInDirectives, UsesVariable, in_arguments, in_directives, in_fragment_definition, in_operation}
use Rattle.graphql_documents.specs.declared.documents.executables.Fragment.{Fragment}
use Rattle.graphql_documents.specs.declared.documents.executables.Operation.{Operation}
use Rattle.graphql_documents.specs.declared.documents.schemas.Schema.{Schema}
use Rattle.graphql_specification.specs.Variables.{VariablesHold}
use Rattle.graphql_operation_laws.specs.Agreement.{AgreeFrom}
use Rattle.graphql_operation_laws.proofs.AgreementLemmas.{agree_back, found_back, reachable_back}

module _ (a b : Fragments) where
  pub uses_back : (o : Operation) (name : NameText) → AgreeFrom a b o.selection_set → UsesVariable b o name → UsesVariable a o name
  uses_back o name agree (in_operation stands) = in_operation stands
  uses_back o name agree (in_directives {s = s} reached stands) = in_directives {s = s} (reachable_back a b reached agree) stands
  uses_back o name agree (in_arguments {s = s} reached stands) = in_arguments {s = s} (reachable_back a b reached agree) stands
  uses_back o name agree (in_fragment_definition {p = p} {d = e} reached defined stands) =
      let back = reachable_back a b reached agree in
      let found = found_back a b p e back agree defined in
      in_fragment_definition {p = p} {d = found.0} back found.1 (subst (λ (v : Fragment). StandsInDirectives name v.directives.items) found.2.same_value stands)

module _ (a b : Fragments) where
  pub variables_hold : (schema : Option Schema) (o : Operation) → AgreeFrom a b o.selection_set → VariablesHold schema a o → VariablesHold schema b o
  variables_hold schema o agree h = record {
    definitions = h.definitions;
    used = All-weaker _ _ (λ v used. uses_back b a o v.value.value.name (agree_back a b agree) used) o.variables.items h.used;
  }
