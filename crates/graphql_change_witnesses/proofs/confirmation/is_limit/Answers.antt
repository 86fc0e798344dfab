use Rattle.std.proofs.Common.{refl, subst, sym}
use Rattle.std.specs.Prelude.{◌↔◌, IsTrue}
use Rattle.graphql_diagnostics.specs.Diagnostics.{IsLimit, limit_of_depth}
use Rattle.graphql_change_witnesses.proofs.LimitLemmas.{no_limit_of_building}
use Rattle.graphql_change_witnesses.proofs.confirmation.is_limit.Goals as goal

pub returns-in-Diagnostic : goal.returns-in-Diagnostic
returns-in-Diagnostic c = subst (λ d. IsTrue c.is_limit_of_walk.result ↔ IsLimit d) (sym c.in-Diagnostic.is) c.is_limit_of_walk.ensures

pub returns-in-Build : goal.returns-in-Build
returns-in-Build c = (
  λ t. let h : ⊥ = cc in absurd h,
  λ l. absurd (no_limit_of_building _ l (λ about e. let h : ⊥ = cc in h) (λ limit e. let h : ⊥ = cc in h)),
)

pub returns-in-RecursionLimit : goal.returns-in-RecursionLimit
returns-in-RecursionLimit c = (λ t. subst IsLimit (sym c.in-RecursionLimit.is) limit_of_depth, λ l. refl)
