use Rattle.std.proofs.Common.{refl, subst, sym}
use Rattle.graphql_diagnostics.specs.Diagnostics.{IsLimit, limit_of_path, limit_of_walk}
use Rattle.graphql_diagnostics.specs.declared.details.Details.TheVariants as details
use Rattle.graphql_change_witnesses.proofs.LimitLemmas.{no_limit}
use Rattle.graphql_change_witnesses.proofs.confirmation.is_limit_of_walk.Goals as goal

pub returns-in-RecursionError : goal.returns-in-RecursionError
returns-in-RecursionError c = (λ t. subst (λ d. IsLimit (details.Diagnostic d)) (sym c.in-RecursionError.is) limit_of_walk, λ l. refl)

pub returns-in-DeeplyNestedType : goal.returns-in-DeeplyNestedType
returns-in-DeeplyNestedType c = (λ t. subst (λ d. IsLimit (details.Diagnostic d)) (sym c.in-DeeplyNestedType.is) limit_of_path, λ l. refl)

pub returns-in_default : goal.returns-in_default
returns-in_default c = (
  λ t. let h : ⊥ = cc in absurd h,
  λ l. absurd (no_limit _ l c.args.diagnostic.now refl c.in_default.not-RecursionError (λ name describe e. c.in_default.not-DeeplyNestedType name describe e)),
)
