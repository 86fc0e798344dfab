-- Which reports are of limits.
use Rattle.std.proofs.Common.{◌≡◌, Bool, List, false, not, refl, true, ℕ}
use Rattle.std.specs.Prelude.{◌↔◌, IsTrue}
use Rattle.std.specs.Borrow.{Bor}
use Rattle.graphql_nodes.specs.Names.{NameText}
use Rattle.graphql_diagnostics.specs.Diagnostics.{IsLimit, limit_of_depth, limit_of_path, limit_of_walk}
use Rattle.graphql_diagnostics.specs.declared.data.DiagnosticData.{DiagnosticData}
use Rattle.graphql_diagnostics.specs.declared.data.DiagnosticData.TheVariants as report
use Rattle.graphql_diagnostics.specs.declared.details.Details.{Details}
use Rattle.graphql_diagnostics.specs.declared.details.Details.TheVariants as details

-- a diagnostic that is neither of a walk nor of a path is of no limit
pub no_limit : (d : Details) → IsLimit d → (about : DiagnosticData) → d ≡ details.Diagnostic about → (about ≡ report.RecursionError → ⊥) →
    ((name : NameText) (describe : Bor (List ℕ)) → about ≡ report.DeeplyNestedType name describe → ⊥) → ⊥
no_limit _ limit_of_walk about e not_walk not_path = let h : about ≡ report.RecursionError = cc in not_walk h
no_limit _ (limit_of_path {name} {describe}) about e not_walk not_path = let h : about ≡ report.DeeplyNestedType name describe = cc in not_path name describe h
no_limit _ limit_of_depth about e not_walk not_path = let h : ⊥ = cc in h

-- nor is a report of building
pub no_limit_of_building : (d : Details) → IsLimit d → ((about : DiagnosticData) → d ≡ details.Diagnostic about → ⊥) → ((limit : _) → d ≡ details.RecursionLimit limit → ⊥) → ⊥
no_limit_of_building _ limit_of_walk no_data no_depth = no_data _ refl
no_limit_of_building _ limit_of_path no_data no_depth = no_data _ refl
no_limit_of_building _ limit_of_depth no_data no_depth = no_depth _ refl

-- what is not so decides that the fact does not hold
pub decides_not : {P : Type 0} (b : Bool) → IsTrue b ↔ P → IsTrue (not b) ↔ ¬ P
decides_not true is = (λ t. let h : ⊥ = cc in absurd h, λ none. absurd (none (is.0 refl)))
decides_not false is = (λ t p. let is_true = is.1 p in let h : ⊥ = cc in h, λ none. refl)
