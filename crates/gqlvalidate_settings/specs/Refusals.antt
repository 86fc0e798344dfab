-- When a value is refused.
use Rattle.std.specs.Prelude.{◌≢◌}
use Rattle.gqlvalidate_settings.specs.declared.refusals.Refusal.{Refusal}
use Rattle.gqlvalidate_settings.specs.declared.refusals.Refusal.TheVariants.{OutOfMemory}

-- what is wanted does not exist, unless memory is lacking
abbrev pub RulesOut : {A : Type 0} → (A → Type 0) → Refusal → Type 0
RulesOut IsWanted refusal = refusal ≢ OutOfMemory → (a : _) → ¬ IsWanted a
