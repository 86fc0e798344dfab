use Rattle.std.proofs.Common.{ap, sym, ◌∙◌}
use Rattle.std.proofs.lemmas.Option.{same_Some}
use Rattle.graphql_documents.specs.Schemas.{is_composite}
use Rattle.graphql_operations.proofs.type_conditions.names_composite.Goals as goal

pub returns-in-Some : goal.returns-in-Some
returns-in-Some c = (
  λ t. (c.in-Some.definition.now, sym c.in-Some.ensures.value, sym c.is_composite.ensures ∙ t),
  λ (d, found, t). c.is_composite.ensures ∙ ap is_composite (same_Some c.in-Some.definition.now d (c.in-Some.ensures.value ∙ found)) ∙ t,
)

pub returns-in-None : goal.returns-in-None
returns-in-None c = (
  λ t. absurd (let no : ⊥ = cc in no),
  λ (d, found, t). absurd (let e = c.in-None.ensures.value ∙ found in let no : ⊥ = cc in no),
)
