-- The variable that a value is.
use Rattle.std.proofs.Common.{◌≡◌, List, sym, ap, ◌∙◌, subst}
use Rattle.std.proofs.lemmas.Option.{same_Some}
use Rattle.graphql_specification.specs.VariableUsages.{IsUsageAllowed, IsVariable, UsageHolds}
use Rattle.graphql_documents.specs.Definitions.{variable_named}
use Rattle.graphql_documents.specs.declared.documents.definitions.InputValueDefinition.{InputValueDefinition}
use Rattle.graphql_documents.specs.declared.documents.definitions.VariableDefinition.{VariableDefinition}
use Rattle.graphql_nodes.specs.declared.nodes.Node.{Node}
use Rattle.graphql_documents.specs.declared.documents.values.Value.{Value}
use Rattle.graphql_documents.specs.declared.documents.values.Value.TheVariants as literal

-- a value is one variable, so its usage holds where this one is allowed
pub only_variable : (variables : List (Node VariableDefinition)) (value : Value) (v : Node VariableDefinition) →
    IsVariable variables value v → (place : InputValueDefinition) → IsUsageAllowed v.value.value place → UsageHolds variables place value
only_variable variables value v is place allowed w other =
    let e : literal.Variable is.0 ≡ literal.Variable other.0 = sym is.1 ∙ other.1 in
    let same : is.0 ≡ other.0 = cc in
    subst (λ x. IsUsageAllowed x.value.value place) (same_Some v w (sym is.2 ∙ ap (λ n. variable_named n variables) same ∙ other.2)) allowed
