-- What a run ends with.
use Rattle.std.specs.Prelude.{◌≡◌, ◌⊎◌}
use Rattle.gqlvalidate_inputs.specs.declared.statuses.Status.{Status}
use Rattle.gqlvalidate_inputs.specs.declared.statuses.Status.TheVariants as status

-- a run was validated to its end: something was found, or nothing
abbrev pub IsFound : Status → Type 0
IsFound found = (found ≡ status.Accepted) ⊎ (found ≡ status.Reported)
