-- One usage of a variable.
use Rattle.std.proofs.Common.{◌≡◌, List, Option, None, Some, refl, sym, ◌∙◌, subst}
use Rattle.std.specs.Prelude.{Result}
use Rattle.std.proofs.lemmas.Option.{same_Some}
use Rattle.graphql_nodes.specs.Names.{NameText}
use Rattle.graphql_nodes.specs.declared.nodes.Node.{Node}
use Rattle.graphql_nodes.specs.declared.spans.SourceSpan.{SourceSpan}
use Rattle.graphql_documents.specs.Definitions.{variable_named}
use Rattle.graphql_documents.specs.declared.documents.definitions.VariableDefinition.{VariableDefinition}
use Rattle.graphql_diagnostics.proofs.ReportLemmas.{ChecksList, checks_words}
use Rattle.graphql_usage_rules.specs.Usages.{Location, Usage}
use Rattle.graphql_usage_rules.specs.VariableMisuses.{IsAllowedAt, MisuseReport, UsagesAreAllowed}
use Rattle.graphql_usage_rules.specs.declared.reports.VariableMisuse.{VariableMisuse}
use Rattle.graphql_usage_rules.proofs.PlaceLemmas.{Checked}

module _ (variables : List (Node VariableDefinition)) (name : NameText) (place : Option SourceSpan) (location : Location) where
  -- the usage and no other
  abbrev pub IsThis : Usage → Type 0
  IsThis usage = usage ≡ record { name = name; place = place; location = location }

  -- allowed by the first definition of its name
  pub is_allowed : (v : Node VariableDefinition) → variable_named name variables ≡ Some v → IsAllowedAt v.value.value location → UsagesAreAllowed variables IsThis
  is_allowed v is allowed usage this other found =
      let same : variable_named name variables ≡ Some other = subst (λ (u : Usage). variable_named u.name variables ≡ Some other) this found in
      subst (λ (u : Usage). IsAllowedAt other.value.value u.location) (sym this)
      (subst (λ (x : Node VariableDefinition). IsAllowedAt x.value.value location) (same_Some v other (sym is ∙ same)) allowed)

  -- without a definition
  pub no_variable : variable_named name variables ≡ None → UsagesAreAllowed variables IsThis
  no_variable none usage this other found =
      let same : variable_named name variables ≡ Some other = subst (λ (u : Usage). variable_named u.name variables ≡ Some other) this found in
      absurd (let no : ⊥ = cc in no)

  -- and not allowed
  pub disallowed : (v : Node VariableDefinition) → variable_named name variables ≡ Some v → ¬ IsAllowedAt v.value.value location →
      {T E : Type 0} (r : Result T E) (old new : List VariableMisuse) →
      ChecksList r ⊥ (MisuseReport variables IsThis) old new → Checked variables r IsThis old new
  disallowed v is not_allowed r old new c =
      checks_words r ⊥ (UsagesAreAllowed variables IsThis) (MisuseReport variables IsThis) (MisuseReport variables IsThis) old new
      (λ no. absurd no, λ all. not_allowed (all (record { name = name; place = place; location = location }) refl v is)) (λ x q. q) c
